use Rattle.std.proofs.Common.{◌≡◌, ℕ, ◌<◌, ◌≤◌, get_or}
use Rattle.sharing.proofs.tuples.write_each.Given as goal

abbrev pub invariant-loop-i : goal.invariant-loop-i
invariant-loop-i g l =
    ((k : ℕ) (d : _) → k < l.i → goal.F-post g l.f k (get_or l.initial.to k d) (get_or l.to k d))
    × ((k : ℕ) (d : _) → l.i ≤ k → get_or l.to k d ≡ get_or l.initial.to k d)
