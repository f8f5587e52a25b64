use Rattle.std.proofs.Common.{rules}
use Rattle.groups.specs.Xors.{array_valid}
use Rattle.groups.proofs.blocks.BlocksGroup.is_valid.Goals as goal

pub returns : goal.returns
returns c = search (rules, array_valid)
