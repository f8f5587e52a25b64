use Rattle.std.proofs.Common.{◌≡◌, ◌-◌, ◌≤◌, T, length, drop}
use Rattle.algebra.specs.Tuples.{all_valid}
use Rattle.sharing.proofs.Changing.{Changed}
use Rattle.sharing.proofs.points.change_point.Given as goal

abbrev pub invariant-loop-s : goal.invariant-loop-s
invariant-loop-s g l =
    let G = g.G.Group.ops l.g in
    ((below : l.i ≤ l.scheme.q) (n : length l.m ≡ l.scheme.q - 1) (v : T (all_valid G l.m)) → T (all_valid G l.initial.to)
    → Changed G (g.met.G.Group.laws l.g) l.scheme.q l.i l.m l.scheme.prime.1.0 below n v l.change l.initial.to l.s l.sum l.to)
    × (drop l.s l.to ≡ drop l.s l.initial.to)
