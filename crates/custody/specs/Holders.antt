-- What a cabinet tells of a holder.
use Rattle.std.specs.Prelude.{◌≡◌, ℕ, ◌-◌, ◌≤◌, false, Ok, Err, Result, slice_index_or}
use Rattle.sharing.specs.declared.fault.CabinetFault.{CabinetFault}
use Rattle.sharing.specs.declared.fault.CabinetFault.TheVariants.{UnknownHolder}
use Rattle.sharing.specs.declared.scheme.Scheme.{Scheme}
use Rattle.history.specs.declared.ledger.Holder.{Holder}
use Rattle.history.specs.declared.ledger.Ledger.{Ledger}
use Rattle.history.specs.Ledgers.{holder}

-- holders have the numbers from 1 to n
abbrev pub Known : Scheme → ℕ → Type 0
Known s h = (1 ≤ h) × (h ≤ s.n)

-- the record of the holder h, or that the scheme has no such holder
abbrev pub Recorded : Scheme → Ledger → ℕ → Result Holder CabinetFault → Type 0
Recorded s l h (Ok r) = Known s h × (r ≡ slice_index_or l.holders (h - 1) (holder false 0))
Recorded s l h (Err e) = (Known s h → ⊥) × (e ≡ UnknownHolder)
