use Rattle.std.proofs.Common.{T}
use Rattle.algebra.specs.Tuples.{all_valid}
use Rattle.sharing.proofs.Negating.{Summed, Negated}
use Rattle.sharing.proofs.tuples.negatives.Given as goal

abbrev pub invariant-loop-k : goal.invariant-loop-k
invariant-loop-k g l =
    let G = g.G.Group.ops l.g in
    T (all_valid G l.from) → Summed G l.from l.k l.sum l.to

abbrev pub invariant-loop-k-2 : goal.invariant-loop-k-2
invariant-loop-k-2 g l =
    let G = g.G.Group.ops l.g in
    T (all_valid G l.from) → Negated G l.from l.k l.rest l.to
