-- One step: what a call answers and leaves, accepted or refused.
use Rattle.std.specs.Prelude.{ℕ, ◌+◌, ◌-◌, ◌*◌, Bool, true, false, List, [], ◌∷◌, length, Some, None, Option, slice_index_or}
use Rattle.algebra.specs.Group.{GroupOps}
use Rattle.algebra.specs.Tuples.{tuple_zero, nonzero_at}
use Rattle.algebra.specs.Rows.{rows, put_row, flat, first_place}
use Rattle.algebra.specs.Dealing.{dealt, tuple_at}
use Rattle.sharing.specs.declared.fault.CabinetFault.{CabinetFault}
use Rattle.sharing.specs.declared.fault.CabinetFault.TheVariants.{Disagreement}
use Rattle.sharing.specs.declared.scheme.Scheme.{Scheme}
use Rattle.sharing.specs.declared.shares.Change.{Change}
use Rattle.sharing.specs.declared.shares.Change.TheVariants.{Add, Subtract}
use Rattle.sharing.specs.Shares.{changed}
use Rattle.history.specs.declared.ledger.Holder.{Holder}
use Rattle.history.specs.Ledgers.{fresh, with_holder, at_epoch}
use Rattle.history.specs.Calls.{State, Deal, depositing, withdrawing, refreshing, Call, dealing, revoking, repairing, opening, Answer, epoch_is, holder_is, key_is, refused, Outcome}
use Rattle.history.specs.Rules.{fault}

-- whether a dealing adds what is dealt or takes it away
abbrev pub direction : {C : Type 0} → Deal C → Change
direction (depositing key) = Add
direction (withdrawing key) = Subtract
direction refreshing = Add

module _ {C : Type 0} (G : GroupOps C) where
  -- the key that is dealt: a refresh deals zero
  abbrev pub key_of : Deal C → C
  key_of (depositing key) = key
  key_of (withdrawing key) = key
  key_of refreshing = G.zero

  -- a share changed by what was dealt, where its holder is present
  abbrev pub credited : Change → Bool → List C → List C → List C
  credited d true ys r = changed G d r ys
  credited d false ys r = r

  -- the shares of some holders, of which the first has the number i: each that is present is changed by f of its number
  abbrev pub shared_out : Change → (ℕ → List C) → ℕ → List Holder → List (List C) → List (List C)
  shared_out d f i hs [] = []
  shared_out d f i [] (r ∷ rs) = r ∷ rs
  shared_out d f i (h ∷ hs) (r ∷ rs) = credited d h.present (f i) r ∷ shared_out d f (i + 1) hs rs

  -- what an opened tuple tells: its coordinate 0 is the key, and a coordinate above 0 that is not zero is a disagreement
  abbrev pub told_by : Option ℕ → List C → Answer C
  told_by None m = key_is (slice_index_or m 0 G.zero)
  told_by (Some i) m = refused (Disagreement i)

  abbrev pub told : List C → Answer C
  told m = told_by (first_place (nonzero_at G m) 1 (length m - 1)) m

module _ {C : Type 0} (G : GroupOps C) (s : Scheme) where
  -- the share memory after a dealing to the holders that are present
  abbrev pub dealt_out : List Holder → List C → Deal C → List C → List C
  dealt_out holders shares d cs =
      flat (shared_out G (direction d) (λ i. dealt G (s.q - 1) i (key_of G d) (s.t - 1) cs) 1 holders (rows (s.q - 1) s.n shares))

  -- the state at the making
  abbrev pub made : State C
  made = record { ledger = fresh; shares = tuple_zero G (s.n * (s.q - 1)) }

  abbrev pub state_after : State C → Call C → State C
  state_after st (dealing d cs) =
      record { ledger = at_epoch (st.ledger.epoch + 1) st.ledger; shares = dealt_out st.ledger.holders st.shares d cs }
  -- a revoked holder is missing, and its share is zeros
  state_after st (revoking h) =
      record { ledger = with_holder h false st.ledger; shares = put_row (s.q - 1) (h - 1) (tuple_zero G (s.q - 1)) st.shares }
  -- a repaired holder is present, and its share is the tuple at its number
  state_after st (repairing h hs) =
      record { ledger = with_holder h true st.ledger; shares = put_row (s.q - 1) (h - 1) (tuple_at G s.q hs h st.shares) st.shares }
  state_after st (opening hs) = st

  abbrev pub answer_to : State C → Call C → Answer C
  answer_to st (dealing d cs) = epoch_is (st.ledger.epoch + 1)
  answer_to st (revoking h) = holder_is h
  answer_to st (repairing h hs) = holder_is h
  answer_to st (opening hs) = told G (tuple_at G s.q hs 0 st.shares)

  -- an accepted call that uses the working memory, and an opening that finds disagreement, leave zeros there
  abbrev pub working_after : List C → Call C → List C
  working_after working (dealing d cs) = tuple_zero G (length working)
  working_after working (revoking h) = working
  working_after working (repairing h hs) = tuple_zero G (length working)
  working_after working (opening hs) = tuple_zero G (length working)

  abbrev pub accepted : State C → List C → Call C → Outcome C
  accepted st working c = record { answer = answer_to st c; state = state_after st c; working = working_after working c }

  -- a refused call changes nothing
  abbrev pub decided : Option CabinetFault → State C → List C → Outcome C → Outcome C
  decided (Some f) st working next = record { answer = refused f; state = st; working = working }
  decided None st working next = next

  abbrev pub step : State C → List C → Call C → Outcome C
  step st working c = decided (fault G s st (length working) c) st working (accepted st working c)
