-- The number and the place of each refusal of a group.
use Rattle.std.specs.Prelude.{ℕ}
use Rattle.groups.specs.declared.fault.GroupFault.{GroupFault}
use Rattle.groups.specs.declared.fault.GroupFault.TheVariants.{Modulus, Encoding}

abbrev pub refusal : GroupFault → ℕ × ℕ
refusal Modulus = (2, 0)
refusal Encoding = (23, 0)
