-- The cabinet that a console holds, whichever its group.
use Rattle.std.specs.Prelude.{◌≡◌, ℕ, Result}
use Rattle.algebra.specs.Group.{GroupOps}
use Rattle.groups.specs.declared.sums.Sums.{Sums}
use Rattle.groups.specs.declared.units.Units.{Units}
use Rattle.groups.specs.Sums.{sums}
use Rattle.groups.specs.Units.{units}
use Rattle.sharing.specs.declared.fault.CabinetFault.{CabinetFault}
use Rattle.history.specs.Calls.{Call}
use Rattle.console.specs.declared.held.Held.{Held}
use Rattle.console.specs.declared.held.Held.TheVariants.{Sums as HeldSums, Units as HeldUnits}
use Rattle.console.specs.Seats.{Kept, kept_of}
use Rattle.console.specs.Requests.{Replied}

pub data Holding : Type 0 where
  over_sums : Kept Sums → Holding
  over_units : Kept Units → Holding

abbrev pub holding : Held → Holding
holding (HeldSums s) = over_sums (kept_of s)
holding (HeldUnits s) = over_units (kept_of s)

abbrev pub sums_of : Sums → GroupOps ℕ
sums_of g = sums g.modulus

abbrev pub units_of : Units → GroupOps ℕ
units_of g = units g.modulus

-- the call c on the cabinet that is held: the group stays, and so does all that the call does not change
abbrev pub Answers : Holding → Call ℕ → Result ℕ CabinetFault → Holding → Type 0
Answers (over_sums k) c r after = (k' : Kept Sums) × (after ≡ over_sums k') × Replied sums_of k c r k'
Answers (over_units k) c r after = (k' : Kept Units) × (after ≡ over_units k') × Replied units_of k c r k'
