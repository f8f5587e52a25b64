-- The laws of every history, together.
use Rattle.algebra.specs.Group.{GroupOps, GroupLaws}
use Rattle.sharing.specs.declared.scheme.Scheme.{Scheme}
use Rattle.laws.specs.Promises.{Promises}
use Rattle.laws.proofs.Laws.{opens_to_total}
use Rattle.laws.proofs.Steady.{shares_as_dealt}
use Rattle.laws.proofs.Hiding.{few_shares_tell_nothing}

pub promises : {C : Type 0} (G : GroupOps C) → GroupLaws G → (s : Scheme) → Promises G s
promises G L s = record {
  opens_to_total = opens_to_total G L s;
  shares_as_dealt = shares_as_dealt G L s;
  few_shares_tell_nothing = few_shares_tell_nothing G L s;
}
