use Rattle.std.proofs.Common.{arith}
use Rattle.algebra.specs.Space.{ok_length}
use Rattle.groups.specs.Xors.{array_ok}
use Rattle.groups.proofs.blocks.BlocksEncodedGroup.read.Goals as goal

pub returns : goal.returns
returns c = grind (arith, array_ok, ok_length)
