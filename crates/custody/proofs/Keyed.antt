-- A dealing of a key in a direction, as a step: a deposit, a withdrawal or a refresh.
use Rattle.std.proofs.Common.{◌≡◌, ℕ, ◌+◌, Bool, true, false, not, T, leb, List, [], ◌∷◌, ◌++◌, length, Some, None, Ok, Err, Option, Result, sym, refl, ap, ◌∙◌, subst, ap₂}
use Rattle.std.specs.Result.{IsErrAnd}
use Rattle.algebra.specs.Group.{GroupOps, GroupLaws}
use Rattle.algebra.specs.Tuples.{tuple_zero}
use Rattle.sharing.specs.declared.fault.CabinetFault.{CabinetFault}
use Rattle.sharing.specs.declared.fault.CabinetFault.TheVariants.{EpochLimit, InvalidKey}
use Rattle.sharing.specs.declared.scheme.Scheme.{Scheme}
use Rattle.sharing.specs.declared.shares.Change.{Change}
use Rattle.sharing.specs.Verdicts.{row, first, verdict}
use Rattle.history.specs.Ledgers.{at_epoch}
use Rattle.history.specs.Calls.{State, Deal, depositing, withdrawing, refreshing, dealing, epoch_is, answered}
use Rattle.history.specs.Rules.{last_epoch, memory_rows, coefficient_rows, deal_rows, fault}
use Rattle.history.specs.Steps.{key_of}
use Rattle.history.proofs.Refusals.{refused_step}
use Rattle.history.proofs.Stepping.{dealt_step}
use Rattle.custody.specs.Dealings.{OfValid, keyed_rows, keyed_out, Deals}

same_rest : {F : Type 0} (os bs cs : List (Option F)) → first bs ≡ first cs → first (os ++ bs) ≡ first (os ++ cs)
same_rest [] bs cs e = e
same_rest (None ∷ os) bs cs e = same_rest os bs cs e
same_rest (Some f ∷ os) bs cs e = refl

passed : (b : Bool) (os : List (Option CabinetFault)) → T b → first (row (not b) InvalidKey ∷ os) ≡ first os
passed true os t = refl
passed false os t = absurd t

module _ {C : Type 0} (G : GroupOps C) (L : GroupLaws G) (s : Scheme) where
  -- a refresh deals zero, which is valid
  keyed : (epoch : ℕ) (d : Deal C) (cs : List C) → first (keyed_rows G s epoch (key_of G d) cs) ≡ first (deal_rows G s epoch d cs)
  keyed epoch (depositing key) cs = refl
  keyed epoch (withdrawing key) cs = refl
  keyed epoch refreshing cs =
      same_rest (row (leb last_epoch epoch) EpochLimit ∷ []) (row (not (G.valid G.zero)) InvalidKey ∷ coefficient_rows G s cs) (coefficient_rows G s cs)
      (passed (G.valid G.zero) (coefficient_rows G s cs) L.zero_valid)

  module _ (st : State C) (working : List C) (change : Change) (key : C) (cs : List C) where
    -- the rows of a dealing, by the key that is dealt
    abbrev pub rows_of : List (Option CabinetFault)
    rows_of = memory_rows G s st.shares (length working) ++ keyed_rows G s st.ledger.epoch key cs

    fault_of : (d : Deal C) → key_of G d ≡ key → first rows_of ≡ fault G s st (length working) (dealing d cs)
    fault_of d e =
        ap (λ (k : C). first (memory_rows G s st.shares (length working) ++ keyed_rows G s st.ledger.epoch k cs)) (sym e)
        ∙ same_rest (memory_rows G s st.shares (length working)) (keyed_rows G s st.ledger.epoch (key_of G d) cs) (deal_rows G s st.ledger.epoch d cs) (keyed st.ledger.epoch d cs)

    pub refused_deal : (r : Result ℕ CabinetFault) (e : CabinetFault) → IsErrAnd r (λ x. x ≡ e) → Err e ≡ verdict (first rows_of)
        → Deals G s st working change key cs (record { answer = answered epoch_is r; state = st; working = working })
    refused_deal r e p v d f h = refused_step G s epoch_is st working (dealing d cs) r e p (v ∙ ap verdict (fault_of d h))

    pub accepted_deal : (shares' working' : List C) (m : ℕ) → Ok tt ≡ verdict (first rows_of)
        → OfValid G st.shares key cs (shares' ≡ keyed_out G s change st.ledger.holders st.shares key cs)
        → working' ≡ tuple_zero G m → length working' ≡ length working
        → Deals G s st working change key cs (record { answer = epoch_is (st.ledger.epoch + 1); state = record { ledger = at_epoch (st.ledger.epoch + 1) st.ledger; shares = shares' }; working = working' })
    accepted_deal shares' working' m v deal zeros same d f h =
        dealt_step G L s st working d cs shares' working' m (v ∙ ap verdict (fault_of d h))
        (λ p q r. deal p (subst (λ (k : C). T (G.valid k)) h q) r ∙ ap₂ (λ (x : Change) (k : C). keyed_out G s x st.ledger.holders st.shares k cs) (sym f) (sym h))
        zeros same
