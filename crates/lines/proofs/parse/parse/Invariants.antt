use Rattle.std.proofs.Common.{◌≡◌, ◌-◌, ◌≤◌, [], length, vec_items, vec_capacity}
use Rattle.lines.specs.Lines.{from_offset}
use Rattle.lines.proofs.parse.parse.Given as goal

abbrev pub invariant-loop-start : goal.invariant-loop-start
invariant-loop-start l =
    (l.start ≤ length l.line)
    × (from_offset l.line l.letter (vec_items l.fields) l.start ≡ from_offset l.line l.letter [] 1)
    × (vec_capacity l.initial.fields ≤ vec_capacity l.fields)

abbrev pub decreases-loop-start : goal.decreases-loop-start
decreases-loop-start l = length l.line - l.start
