use Rattle.bench.proofs.Repeated.{whether}
use Rattle.bench.proofs.blocks.bench_blocks_deposit.Goals as goal

pub returns : goal.returns
returns c = whether c.deposit_rounds.result _ _ c.is_ok.ensures.value c.deposit_rounds.ensures (λ x p. p) (λ e q. (e, q))
