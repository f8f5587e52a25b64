use Rattle.std.proofs.Common.{◌-◌, sym, ◌∙◌, inl, inr, arith, ltb→lt}
use native.Mathlib.Nat.{add-mod-mod}
use Rattle.std.proofs.lemmas.Bool.{cases_lt}
use Rattle.groups.specs.Modulo.{rest}
use Rattle.groups.proofs.sums.SumsGroup.difference.Goals as goal

pub returns : goal.returns
returns c p q =
    let m = c.args.self.now.modulus in
    elim (cases_lt c.args.a c.args.b) [
      | inl l ↦ rest 0 (omega (arith, ltb→lt)) (omega (arith, ltb→lt))
      | inr l ↦ rest 1 (omega (arith, ltb→lt)) (omega (arith, ltb→lt))
    ] ∙ sym (add-mod-mod c.args.a (m - c.args.b) m)
