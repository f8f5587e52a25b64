-- What an accepted call has passed, and that the rows on share memory pass where it is right.
use Rattle.std.proofs.Common.{◌≡◌, ℕ, zero, suc, ◌+◌, ◌-◌, ◌*◌, ◌<◌, ◌≤◌, Bool, true, false, not, T, leb, List, [], ◌∷◌, ◌++◌, length, get_or, Some, None, Option, refl, ap, ◌∙◌, arith}
use Rattle.std.specs.List.{AllByRecursion}
use Rattle.std.proofs.lemmas.Bool.{cond-false, not_from_true, not-false}
use Rattle.algebra.specs.Group.{GroupOps, GroupLaws}
use Rattle.algebra.specs.Tuples.{all_valid, invalid_at}
use Rattle.algebra.specs.Valid.{valid_at}
use Rattle.algebra.specs.Theorems.{Distinct}
use Rattle.algebra.specs.Rows.{first_place}
use Rattle.sharing.specs.declared.fault.CabinetFault.{CabinetFault}
use Rattle.sharing.specs.declared.fault.CabinetFault.TheVariants.{MemoryLength, InvalidShare, EpochLimit, InvalidKey, CoefficientCount, InvalidCoefficient}
use Rattle.sharing.specs.declared.scheme.Scheme.{Scheme}
use Rattle.sharing.specs.Verdicts.{row, located, length_row, first}
use Rattle.sharing.proofs.Verdicts.{first_none, both_none, length_fits, row_passes, first_passes}
use Rattle.sharing.proofs.Choosing.{all_places}
use Rattle.history.specs.declared.ledger.Holder.{Holder}
use Rattle.history.specs.declared.ledger.Ledger.{Ledger}
use Rattle.history.specs.Ledgers.{is_present}
use Rattle.history.specs.Calls.{State, Deal, depositing, withdrawing, refreshing, Call, dealing, revoking, repairing, opening}
use Rattle.history.specs.Rules.{list_rows, change_rows, share_row, valid_row, memory_rows, key_rows, coefficient_rows, deal_rows, last_epoch, fault}
use Rattle.history.specs.Steps.{key_of}
use Rattle.history.proofs.Refusals.{may_deal, changing, quorum}
use Rattle.laws.specs.Histories.{public_fault}

-- a test that fails everywhere has no first place
pub nowhere_from : (p : ℕ → Bool) (i k : ℕ) → ((j : ℕ) → i ≤ j → j < i + k → p j ≡ false) → first_place p i k ≡ None
nowhere_from p i zero h = refl
nowhere_from p i (suc k) h =
    cond-false (p i) (Some i) (first_place p (i + 1) k) (h i (omega arith) (omega arith)) ∙ nowhere_from p (i + 1) k (λ j l m. h j (omega arith) (omega arith))

pub true_from : (b : Bool) → T b → b ≡ true
true_from true h = refl
true_from false h = absurd h

module _ {F : Type 0} where
  -- rows that pass leave the verdict to the others
  pub skip_first : (o : Option F) (os : List (Option F)) → o ≡ None → first (o ∷ os) ≡ first os
  skip_first o os e = ap (λ (p : Option F). first (p ∷ os)) e

  pub skip_second : (b o : Option F) (os : List (Option F)) → o ≡ None → first (b ∷ o ∷ os) ≡ first (b ∷ os)
  skip_second None o os e = skip_first o os e
  skip_second (Some f) o os e = refl

  pub both_pass : (os bs : List (Option F)) → first os ≡ None → first bs ≡ None → first (os ++ bs) ≡ None
  both_pass [] bs e f = f
  both_pass (None ∷ os) bs e f = both_pass os bs e f
  both_pass (Some g ∷ os) bs e f = cc

module _ {C : Type 0} (G : GroupOps C) where
  pub valid_nowhere : (xs : List C) → T (all_valid G xs) → first_place (invalid_at G xs) 0 (length xs) ≡ None
  valid_nowhere xs h = nowhere_from (invalid_at G xs) 0 (length xs) (λ j l m. not_from_true (G.valid (get_or xs j G.zero)) (true_from _ (valid_at G xs j G.zero (omega arith) h)))

-- helpers that were accepted
pub record Listed (s : Scheme) (holders : List Holder) (hs : List ℕ) : Type 0 where
  pub right : length hs ≡ s.t
  pub known : AllByRecursion (λ h. (1 ≤ h) × (h ≤ s.n)) hs
  pub different : Distinct hs
  pub there : AllByRecursion (λ h. is_present holders h ≡ true) hs

-- the rows on working memory and on the last epoch
abbrev pub lent_row : Scheme → ℕ → Option CabinetFault
lent_row s lent = length_row MemoryLength (4 * (s.q - 1)) lent

abbrev late : ℕ → Option CabinetFault
late epoch = row (leb last_epoch epoch) EpochLimit

module _ {C : Type 0} (G : GroupOps C) (L : GroupLaws G) (s : Scheme) where
  -- a dealing that was accepted
  pub record Proper (d : Deal C) (cs : List C) : Type 0 where
    pub key : T (G.valid (key_of G d))
    pub count : length cs ≡ (s.t - 1) * (s.q - 1)
    pub valid : T (all_valid G cs)

  key_passes : (d : Deal C) → T (G.valid (key_of G d)) → first (key_rows G s d) ≡ None
  key_passes (depositing k) h = first_passes _ [] (row_passes (not (G.valid k)) InvalidKey (not_from_true (G.valid k) (true_from (G.valid k) h))) refl
  key_passes (withdrawing k) h = first_passes _ [] (row_passes (not (G.valid k)) InvalidKey (not_from_true (G.valid k) (true_from (G.valid k) h))) refl
  key_passes refreshing h = refl

  coefficients_pass : (cs : List C) → length cs ≡ (s.t - 1) * (s.q - 1) → T (all_valid G cs) → first (coefficient_rows G s cs) ≡ None
  coefficients_pass cs e h =
      first_passes _ _ (length_fits CoefficientCount ((s.t - 1) * (s.q - 1)) (length cs) e)
      (first_passes _ [] (ap (located InvalidCoefficient) (valid_nowhere G cs h)) refl)

  pub proper : (epoch : ℕ) (d : Deal C) (cs : List C) → first (deal_rows G s epoch d cs) ≡ None → Proper d cs
  proper epoch d cs e = let m = may_deal G s L epoch d cs e in record { key = m.key_valid; count = m.count; valid = m.coefficients }

  -- another dealing at the same epoch is accepted too
  pub same_passes : (epoch : ℕ) (d : Deal C) (cs : List C) → first (deal_rows G s epoch d cs) ≡ None → (d' : Deal C) (cs' : List C) → Proper d' cs' → first (deal_rows G s epoch d' cs') ≡ None
  same_passes epoch d cs e d' cs' p =
      let a = first_none (late epoch) (key_rows G s d ++ coefficient_rows G s cs) e in
      first_passes (late epoch) (key_rows G s d' ++ coefficient_rows G s cs') a.0 (both_pass (key_rows G s d') (coefficient_rows G s cs') (key_passes d' p.key) (coefficients_pass cs' p.count p.valid))

  pub dealing_proper : (st : State C) (lent : ℕ) (d : Deal C) (cs : List C) → fault G s st lent (dealing d cs) ≡ None → Proper d cs
  dealing_proper st lent d cs e = proper st.ledger.epoch d cs (both_none (memory_rows G s st.shares lent) (deal_rows G s st.ledger.epoch d cs) e).1

  -- what the public rows tell of accepted calls
  pub deal_none : (l : Ledger) (lent : ℕ) (d : Deal C) (cs : List C) → public_fault G s l lent (dealing d cs) ≡ None → first (deal_rows G s l.epoch d cs) ≡ None
  deal_none l lent d cs e = (first_none (lent_row s lent) (deal_rows G s l.epoch d cs) e).1

  changeable : (holders : List Holder) (present : Bool) (h : ℕ) → first (change_rows s holders present h) ≡ None → (1 ≤ h) × (h ≤ s.n)
  changeable holders present h e = let c = changing G s holders present h e in (c.low, c.high)

  listed : (holders : List Holder) (hs : List ℕ) → first (list_rows s holders hs) ≡ None → Listed s holders hs
  listed holders hs e =
      let q = quorum G s holders hs e in
      record {
        right = q.chosen.right;
        known = all_places (λ h. (1 ≤ h) × (h ≤ s.n)) hs q.chosen.known;
        different = q.chosen.different;
        there = all_places (λ h. is_present holders h ≡ true) hs (λ k l. not-false (is_present holders (get_or hs k 0)) (q.present k l));
      }

  pub revoke_none : (l : Ledger) (lent h : ℕ) → public_fault G s l lent (revoking h) ≡ None → (1 ≤ h) × (h ≤ s.n)
  revoke_none l lent h e = changeable l.holders true h e

  pub repair_none : (l : Ledger) (lent h : ℕ) (hs : List ℕ) → public_fault G s l lent (repairing h hs) ≡ None → ((1 ≤ h) × (h ≤ s.n)) × Listed s l.holders hs
  repair_none l lent h hs e =
      let a = first_none (lent_row s lent) (change_rows s l.holders false h ++ list_rows s l.holders hs) e in
      let b = both_none (change_rows s l.holders false h) (list_rows s l.holders hs) a.1 in
      (changeable l.holders false h b.0, listed l.holders hs b.1)

  pub open_none : (l : Ledger) (lent : ℕ) (hs : List ℕ) → public_fault G s l lent (opening hs) ≡ None → Listed s l.holders hs
  open_none l lent hs e = listed l.holders hs (first_none (lent_row s lent) (list_rows s l.holders hs) e).1

  -- a state with the cabinet's own memory
  pub record Sound (st : State C) : Type 0 where
    pub size : length st.shares ≡ s.n * (s.q - 1)
    pub valid : T (all_valid G st.shares)
    pub table : length st.ledger.holders ≡ 30

  pub sound_fault : (st : State C) → Sound st → (lent : ℕ) (c : Call C) → fault G s st lent c ≡ public_fault G s st.ledger lent c
  sound_fault st o lent c = go c
    where
      long : share_row G s st.shares ≡ None
      long = length_fits MemoryLength (s.n * (s.q - 1)) (length st.shares) o.size

      good : valid_row G s st.shares ≡ None
      good = ap (located InvalidShare) (valid_nowhere G st.shares o.valid)

      go : (c : Call C) → fault G s st lent c ≡ public_fault G s st.ledger lent c
      go (dealing d cs) = skip_first _ _ long ∙ skip_second _ _ _ good
      go (revoking h) = skip_first _ _ long ∙ skip_first _ _ good
      go (repairing h hs) = skip_first _ _ long ∙ skip_second _ _ _ good
      go (opening hs) = skip_first _ _ long ∙ skip_second _ _ _ good
