use Rattle.std.proofs.Common.{arith}
use Rattle.lines.proofs.Reading.{front_is, front_of, is_fine}
use Rattle.lines.proofs.parse.field.Goals as goal

pub number-requires : goal.number-requires
number-requires c = grind (arith, front_is, front_of)

pub returns-in-Some-clause-reads : goal.returns-in-Some-clause-reads
returns-in-Some-clause-reads c = grind (arith, front_of, is_fine)
