use Rattle.std.proofs.Common.{◌≡◌, ℕ, ◌-◌, T, List, ◌++◌, length}
use Rattle.std.specs.Slice.Iter.{iter_rest}
use Rattle.std.specs.Iterator.Adapters.{rev_source}
use Rattle.algebra.specs.Dealing.{weight_at}
use Rattle.algebra.specs.Scalars.{act}
use Rattle.algebra.specs.Tuples.{all_valid, list_ops}
use Rattle.sharing.proofs.points.add_weighted.Given as goal

abbrev pub invariant-loop-k : goal.invariant-loop-k
invariant-loop-k g l =
    let G = g.G.Group.ops l.g in
    let q = l.scheme.q in
    (done : List ℕ) × (l.helpers.list.now ≡ iter_rest (rev_source l.k-iterator) ++ done)
    × (length l.from ≡ q - 1) × (length l.to ≡ q - 1)
    × (T (all_valid G l.m) → l.from ≡ act (list_ops G (q - 1)) (weight_at q done l.p l.j) l.m)
