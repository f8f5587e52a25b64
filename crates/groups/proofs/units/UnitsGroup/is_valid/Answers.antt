use Rattle.std.proofs.Common.{rules}
use Rattle.groups.specs.Multiples.{tells_valid}
use Rattle.groups.proofs.units.UnitsGroup.is_valid.Goals as goal

pub returns : goal.returns
returns c = search (rules, tells_valid)
