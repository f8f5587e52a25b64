use Rattle.std.proofs.Common.{◌≡◌, ◌-◌, length}
use Rattle.std.specs.Slice.Exact.{rchunks_exact_rest, rchunks_exact_size}
use Rattle.sharing.proofs.Horner.{Dealt}
use Rattle.sharing.proofs.dealing.change_share.Given as goal

abbrev pub invariant-loop-row : goal.invariant-loop-row
invariant-loop-row g l =
    (goal.iterator-loop-row g).can_next l.row-iterator
    × (goal.iterator-loop-row g).is_finite l.row-iterator
    × (rchunks_exact_size l.row-iterator ≡ l.scheme.q - 1)
    × (length l.value ≡ l.scheme.q - 1) × (length l.next ≡ l.scheme.q - 1)
    × Dealt (g.G.Group.ops l.g) (l.scheme.q - 1) l.i l.coefficients (rchunks_exact_rest l.row-iterator) l.value
