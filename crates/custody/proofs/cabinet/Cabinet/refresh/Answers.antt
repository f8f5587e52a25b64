use Rattle.std.proofs.Common.{sym, refl}
use Rattle.history.specs.Calls.{refreshing}
use Rattle.custody.proofs.cabinet.Cabinet.refresh.Goals as goal

pub returns : goal.returns
returns g c = record { step = c.deal.ensures.step refreshing refl (sym c.zero-zero.ensures); same = c.deal.ensures.same }
