use Rattle.std.proofs.Common.{rules}
use Rattle.sharing.proofs.Choosing.{holders}
use Rattle.sharing.proofs.helpers.Helpers.new.Goals as goal

pub invariant_of-result : goal.invariant_of-result
invariant_of-result c = record { known = holders c.args.scheme.n c.args.list.now (search rules) }
