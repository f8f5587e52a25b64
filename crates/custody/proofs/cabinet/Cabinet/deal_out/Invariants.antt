use Rattle.std.proofs.Common.{◌-◌, T}
use Rattle.algebra.specs.Tuples.{all_valid}
use Rattle.algebra.specs.Dealing.{dealt}
use Rattle.history.proofs.SharedOut.{Shared}
use Rattle.custody.proofs.cabinet.Cabinet.deal_out.Given as goal

abbrev pub invariant-loop-holder : goal.invariant-loop-holder
invariant-loop-holder g l =
    let G = g.G.Group.ops l.self.group in
    let s = l.self.scheme in
    T (all_valid G l.initial.shares) → T (G.valid l.key) → T (all_valid G l.coefficients)
    → Shared G (g.met.G.Group.laws l.self.group) l.change (λ i. dealt G (s.q - 1) i l.key (s.t - 1) l.coefficients) (s.q - 1) s.n l.self.ledger.holders l.initial.shares (l.holder - 1) l.shares
