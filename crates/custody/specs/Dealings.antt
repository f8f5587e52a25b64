-- A dealing by its direction and by the key that is dealt, which for a refresh is zero.
use Rattle.std.specs.Prelude.{◌≡◌, ℕ, ◌-◌, ◌*◌, T, not, List, ◌∷◌, Option, nat_le}
use Rattle.algebra.specs.Group.{GroupOps}
use Rattle.algebra.specs.Tuples.{all_valid}
use Rattle.algebra.specs.Rows.{rows, row_at, put_row, flat}
use Rattle.algebra.specs.Dealing.{dealt}
use Rattle.sharing.specs.declared.fault.CabinetFault.{CabinetFault}
use Rattle.sharing.specs.declared.fault.CabinetFault.TheVariants.{EpochLimit, InvalidKey}
use Rattle.sharing.specs.declared.scheme.Scheme.{Scheme}
use Rattle.sharing.specs.declared.shares.Change.{Change}
use Rattle.sharing.specs.Verdicts.{row}
use Rattle.history.specs.declared.ledger.Holder.{Holder}
use Rattle.history.specs.Ledgers.{is_present}
use Rattle.history.specs.Calls.{State, Deal, dealing, Outcome}
use Rattle.history.specs.Rules.{last_epoch, coefficient_rows}
use Rattle.history.specs.Steps.{direction, key_of, credited, shared_out, step}

-- the lengths that the scheme fixes: of the share memory, of so many tuples of working memory, and of the coefficients
pub record Sized (s : Scheme) (tuples shares working coefficients : ℕ) : Type 0 where
  pub full : shares ≡ s.n * (s.q - 1)
  pub room : working ≡ tuples * (s.q - 1)
  pub count : coefficients ≡ (s.t - 1) * (s.q - 1)

-- what holds where the shares, the key and the coefficients are valid
abbrev pub OfValid : {C : Type 0} → GroupOps C → List C → C → List C → Type 0 → Type 0
OfValid G shares key cs P = T (all_valid G shares) → T (G.valid key) → T (all_valid G cs) → P

module _ {C : Type 0} (G : GroupOps C) (s : Scheme) where
  -- an epoch to come, a valid key and the coefficients
  abbrev pub keyed_rows : ℕ → C → List C → List (Option CabinetFault)
  keyed_rows epoch key cs = row (nat_le last_epoch epoch) EpochLimit ∷ row (not (G.valid key)) InvalidKey ∷ coefficient_rows G s cs

  -- the share memory after the holder h was dealt to, where its share is present
  abbrev pub keyed_to : Change → List Holder → ℕ → List C → C → List C → List C
  keyed_to change holders h shares key cs =
      put_row (s.q - 1) (h - 1) (credited G change (is_present holders h) (dealt G (s.q - 1) h key (s.t - 1) cs) (row_at (s.q - 1) (h - 1) shares)) shares

  -- the share memory after the holders that are present were dealt to
  abbrev pub keyed_out : Change → List Holder → List C → C → List C → List C
  keyed_out change holders shares key cs =
      flat (shared_out G change (λ i. dealt G (s.q - 1) i key (s.t - 1) cs) 1 holders (rows (s.q - 1) s.n shares))

  -- what every dealing in this direction of this key answers and leaves
  abbrev pub Deals : State C → List C → Change → C → List C → Outcome C → Type 0
  Deals st working change key cs after = (d : Deal C) → direction d ≡ change → key_of G d ≡ key → step G s st working (dealing d cs) ≡ after
