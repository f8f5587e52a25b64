-- Why a cabinet cannot be made.
use Rattle.std.specs.Prelude.{◌≡◌, ℕ, ◌-◌, ◌*◌, ◌≢◌}
use Rattle.algebra.specs.Primes.{LeastOddPrime}
use Rattle.sharing.specs.Schemes.{Allowed}
use Rattle.sharing.specs.declared.fault.CabinetFault.{CabinetFault}
use Rattle.sharing.specs.declared.fault.CabinetFault.TheVariants.{Scheme, MemoryLength}

pub data Unmade (t n shares : ℕ) (e : CabinetFault) : Type 0 where
  -- no scheme has this threshold and this many holders
  no_scheme : (Allowed t n → ⊥) → e ≡ Scheme → Unmade t n shares e
  -- the share memory is not n tuples of q - 1 elements
  no_room : (q : ℕ) → Allowed t n → LeastOddPrime n q → (shares ≢ n * (q - 1)) → e ≡ MemoryLength (n * (q - 1)) → Unmade t n shares e
