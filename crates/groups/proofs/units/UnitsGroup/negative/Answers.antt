use Rattle.std.proofs.Common.{rules}
use Rattle.groups.specs.Multiples.{gives_negative}
use Rattle.groups.proofs.units.UnitsGroup.negative.Goals as goal

pub returns : goal.returns
returns c = search (rules, gives_negative)
