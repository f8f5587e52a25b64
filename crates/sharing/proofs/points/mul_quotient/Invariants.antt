use Rattle.std.proofs.Common.{◌≡◌, ◌+◌, ◌-◌, ◌*◌, ◌%◌, true, T, List, get_or}
use Rattle.algebra.specs.Circle.{Quotient}
use Rattle.algebra.specs.Tuples.{all_valid, ok}
use Rattle.algebra.proofs.Walks.{Walked}
use Rattle.sharing.proofs.Weights.{q_some}
use Rattle.sharing.proofs.points.mul_quotient.Given as goal

abbrev pub invariant-loop-done : goal.invariant-loop-done
invariant-loop-done g l =
    let G = g.G.Group.ops l.g in
    (l.to ≡ (l.scheme.q - 1 + l.done * l.d) % l.scheme.q) × (l.less ≡ get_or l.m l.to G.zero)
    × (T (all_valid G l.m) → l.dear ≡ true → l.negative ≡ G.minus l.less)
    × (T (all_valid G l.m) → (r : List _) → T (ok G (l.scheme.q - 1) r) → Quotient G l.scheme.q l.d l.come (l.scheme.q - l.d) l.m r
    → Walked l.scheme.q l.d (q_some l.scheme) G (g.met.G.Group.laws l.g) r l.done l.sum l.out)
