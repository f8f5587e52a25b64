use Rattle.std.proofs.Common.{◌≡◌, ℕ, ◌-◌, T, List, ◌++◌}
use Rattle.std.specs.Slice.Iter.{iter_rest}
use Rattle.std.specs.Iterator.Adapters.{rev_source}
use Rattle.algebra.specs.Tuples.{all_valid, list_ops}
use Rattle.algebra.specs.Sharing.{total}
use Rattle.sharing.proofs.Summing.{part_at}
use Rattle.sharing.proofs.dealing.interpolate.Given as goal

abbrev pub invariant-loop-j : goal.invariant-loop-j
invariant-loop-j g l =
    let G = g.G.Group.ops l.g in
    let q = l.helpers.scheme.q in
    let hs = l.helpers.list.now in
    (done : List ℕ) × (hs ≡ iter_rest (rev_source l.j-iterator) ++ done)
    × (T (all_valid G l.shares) → (l.out ≡ total (list_ops G (q - 1)) (part_at G q hs l.p l.shares) done) × T (all_valid G l.out))
