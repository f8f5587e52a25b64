use Rattle.std.proofs.Common.{refl}
use Rattle.history.specs.Calls.{depositing}
use Rattle.custody.proofs.cabinet.Cabinet.deposit.Goals as goal

pub returns : goal.returns
returns g c = record { step = c.deal.ensures.step (depositing c.args.key) refl refl; same = c.deal.ensures.same }
