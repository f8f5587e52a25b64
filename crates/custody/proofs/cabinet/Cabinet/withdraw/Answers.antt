use Rattle.std.proofs.Common.{refl}
use Rattle.history.specs.Calls.{withdrawing}
use Rattle.custody.proofs.cabinet.Cabinet.withdraw.Goals as goal

pub returns : goal.returns
returns g c = record { step = c.deal.ensures.step (withdrawing c.args.key) refl refl; same = c.deal.ensures.same }
