-- What a call is refused for: the rows of the table, in its order. The first that applies is the fault.
use Rattle.std.specs.Prelude.{ℕ, ◌-◌, ◌*◌, Bool, true, false, not, List, [], ◌∷◌, ◌++◌, length, Option, nat_le, slice_index}
use Rattle.algebra.specs.Group.{GroupOps}
use Rattle.algebra.specs.Tuples.{invalid_at}
use Rattle.algebra.specs.Rows.{first_place}
use Rattle.sharing.specs.declared.fault.CabinetFault.{CabinetFault}
use Rattle.sharing.specs.declared.fault.CabinetFault.TheVariants.{MemoryLength, InvalidShare, EpochLimit, InvalidKey, CoefficientCount, InvalidCoefficient, WrongPresence, MissingHelper}
use Rattle.sharing.specs.declared.scheme.Scheme.{Scheme}
use Rattle.sharing.specs.Verdicts.{row, located, length_row, first}
use Rattle.sharing.specs.Helpers.{helper_rows}
use Rattle.sharing.specs.Shares.{holder_row}
use Rattle.history.specs.declared.ledger.Holder.{Holder}
use Rattle.history.specs.Ledgers.{is_present}
use Rattle.history.specs.Calls.{State, Deal, depositing, withdrawing, refreshing, Call, dealing, revoking, repairing, opening}

abbrev pub differs : Bool → Bool → Bool
differs true b = not b
differs false b = b

abbrev pub last_epoch : ℕ
last_epoch = 1000000

-- the helper at the position i is not present
abbrev pub missing_at : List Holder → List ℕ → ℕ → Bool
missing_at holders hs i = not (is_present holders (slice_index hs i))

-- t different holders of the scheme, all present
abbrev pub list_rows : Scheme → List Holder → List ℕ → List (Option CabinetFault)
list_rows s holders hs = helper_rows s hs ++ (located MissingHelper (first_place (missing_at holders hs) 0 (length hs)) ∷ [])

-- a holder of the scheme that is present, or that is missing, as it should be
abbrev pub change_rows : Scheme → List Holder → Bool → ℕ → List (Option CabinetFault)
change_rows s holders present h = holder_row s h ∷ row (differs present (is_present holders h)) WrongPresence ∷ []

module _ {C : Type 0} (G : GroupOps C) (s : Scheme) where
  -- share memory of the right length
  abbrev pub share_row : List C → Option CabinetFault
  share_row shares = length_row MemoryLength (s.n * (s.q - 1)) (length shares)

  -- valid shares
  abbrev pub valid_row : List C → Option CabinetFault
  valid_row shares = located InvalidShare (first_place (invalid_at G shares) 0 (length shares))

  -- share memory and working memory of the right lengths, and valid shares
  abbrev pub memory_rows : List C → ℕ → List (Option CabinetFault)
  memory_rows shares lent = share_row shares ∷ length_row MemoryLength (4 * (s.q - 1)) lent ∷ valid_row shares ∷ []

  -- a valid key, where there is one
  abbrev pub key_rows : Deal C → List (Option CabinetFault)
  key_rows (depositing key) = row (not (G.valid key)) InvalidKey ∷ []
  key_rows (withdrawing key) = row (not (G.valid key)) InvalidKey ∷ []
  key_rows refreshing = []

  -- t - 1 tuples of valid coefficients
  abbrev pub coefficient_rows : List C → List (Option CabinetFault)
  coefficient_rows cs =
      length_row CoefficientCount ((s.t - 1) * (s.q - 1)) (length cs)
      ∷ located InvalidCoefficient (first_place (invalid_at G cs) 0 (length cs))
      ∷ []

  -- an epoch to come, the key and the coefficients
  abbrev pub deal_rows : ℕ → Deal C → List C → List (Option CabinetFault)
  deal_rows epoch d cs = row (nat_le last_epoch epoch) EpochLimit ∷ (key_rows d ++ coefficient_rows cs)

  -- the first row that applies to a call that is lent working memory of so many elements; revoking takes none
  abbrev pub fault : State C → ℕ → Call C → Option CabinetFault
  fault st lent (dealing d cs) = first (memory_rows st.shares lent ++ deal_rows st.ledger.epoch d cs)
  fault st lent (revoking h) = first (share_row st.shares ∷ valid_row st.shares ∷ change_rows s st.ledger.holders true h)
  fault st lent (repairing h hs) = first (memory_rows st.shares lent ++ (change_rows s st.ledger.holders false h ++ list_rows s st.ledger.holders hs))
  fault st lent (opening hs) = first (memory_rows st.shares lent ++ list_rows s st.ledger.holders hs)
