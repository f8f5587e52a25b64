use Rattle.std.proofs.Common.{refl}
use Rattle.console.specs.Seats.{kept_of}
use Rattle.console.proofs.held.Held.obey.Goals as goal

pub returns-in-Sums : goal.returns-in-Sums
returns-in-Sums c = rw c.in-Sums.is (kept_of c.obey.new.self, refl, c.obey.ensures)

pub returns-in-Units : goal.returns-in-Units
returns-in-Units c = rw c.in-Units.is (kept_of c.obey-in-Units.new.self, refl, c.obey-in-Units.ensures)
