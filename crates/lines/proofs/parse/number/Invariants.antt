use Rattle.std.proofs.Common.{◌≡◌, ◌≤◌, drop}
use Rattle.lines.specs.Lines.{value_after}
use Rattle.lines.proofs.parse.number.Given as goal

-- the digits so far write the value
abbrev pub invariant-loop-byte : goal.invariant-loop-byte
invariant-loop-byte l =
    (l.value ≤ 4294967295) × (value_after l.value (drop l.byte-index l.digits) ≡ value_after 0 l.digits)
