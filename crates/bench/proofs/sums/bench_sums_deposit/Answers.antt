use Rattle.bench.proofs.Repeated.{whether}
use Rattle.bench.proofs.sums.bench_sums_deposit.Goals as goal

pub returns : goal.returns
returns c =
    let rounds = rw c.in-Ok.ensures.1 at c.deposit_rounds.ensures in
    whether c.deposit_rounds.result _ _ c.is_ok.ensures.value rounds (λ x p. (c.in-Ok.ensures.0, p)) (λ e q h. (e, q))
