use Rattle.algebra.proofs.Theorems.{stands}
use Rattle.algebra.proofs.sharing_stands.Goals as goal

pub returns-clause-theorem : goal.returns-clause-theorem
returns-clause-theorem g c = stands
