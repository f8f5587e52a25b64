-- The number and the place of each refusal of the cabinet.
use Rattle.std.specs.Prelude.{ℕ}
use Rattle.sharing.specs.declared.fault.CabinetFault.{CabinetFault}
use Rattle.sharing.specs.declared.fault.CabinetFault.TheVariants.{Scheme, MemoryLength, InvalidShare, EpochLimit, InvalidKey, CoefficientCount, InvalidCoefficient, UnknownHolder, WrongPresence, HelperCount, UnknownHelper, RepeatedHelper, MissingHelper, Disagreement}

abbrev pub refusal : CabinetFault → ℕ × ℕ
refusal Scheme = (1, 0)
refusal (MemoryLength right) = (3, right)
refusal (InvalidShare index) = (4, index)
refusal EpochLimit = (5, 0)
refusal InvalidKey = (6, 0)
refusal (CoefficientCount right) = (7, right)
refusal (InvalidCoefficient index) = (8, index)
refusal UnknownHolder = (9, 0)
refusal WrongPresence = (10, 0)
refusal (HelperCount count) = (11, count)
refusal (UnknownHelper position) = (12, position)
refusal (RepeatedHelper position) = (13, position)
refusal (MissingHelper position) = (14, position)
refusal (Disagreement coordinate) = (15, coordinate)
