-- The public part of a cabinet's state.
use Rattle.std.specs.Prelude.{ℕ, ◌-◌, Bool, true, false, ◌&&◌, List, replicate, nat_le, nat_lt, slice_index_or, slice_set}
use Rattle.history.specs.declared.ledger.Holder.{Holder}
use Rattle.history.specs.declared.ledger.Ledger.{Ledger}

-- whether a holder's share is present, and the epoch at which that last changed
abbrev pub holder : Bool → ℕ → Holder
holder p c = record { present = p; changed = c }

-- at the making
abbrev pub fresh : Ledger
fresh = record { epoch = 0; holders = replicate 30 (holder true 0) }

-- holders have the numbers from 1 on; a number that no scheme has is not present
abbrev pub is_present : List Holder → ℕ → Bool
is_present hs h = nat_lt 0 h && (nat_le h 30 && (slice_index_or hs (h - 1) (holder false 0)).present)

-- the holder h changed to present or missing
abbrev pub with_holder : ℕ → Bool → Ledger → Ledger
with_holder h p l = record { epoch = l.epoch; holders = slice_set l.holders (h - 1) (holder p l.epoch) }

-- the next epoch
abbrev pub at_epoch : ℕ → Ledger → Ledger
at_epoch e l = record { epoch = e; holders = l.holders }
