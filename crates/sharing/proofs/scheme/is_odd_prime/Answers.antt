use Rattle.std.proofs.Common.{◌≡◌, ◌-◌, ◌%◌, refl, rules, tests, arith}
use Rattle.std.proofs.lemmas.Iterator.{YieldsList-from_range, cases_from_all}
use Rattle.sharing.proofs.PrimeSearch.{odd_prime}
use Rattle.sharing.proofs.scheme.is_odd_prime.Goals as goal

pub returns : goal.returns
returns c =
    let m = c.args.m in
    odd_prime m c.all.result (omega arith) c.if-m-eq0.false
    (cases_from_all _ _ c.all.result (λ d. m % d ≡ 0 → ⊥) (λ d. m % d ≡ 0) c.all.ensures.ran (YieldsList-from_range 2 m (m - 2) refl refl)
    (λ x q k. search (rules, tests)) (λ x q k. search (rules, tests)))
