-- What is known where no row applies, and where one does.
use Rattle.std.proofs.Common.{◌≡◌, ℕ, ◌-◌, ◌*◌, ◌<◌, ◌≤◌, Bool, true, false, not, ◌||◌, T, ltb, leb, List, [], ◌∷◌, length, None, Ok, Err, Option, Result, sym, ap, ◌∙◌}
use Rattle.std.proofs.lemmas.Float.{T_from_true}
use Rattle.std.proofs.lemmas.Bool.{not-false, leb-false, ltb-false, or_parts}
use Rattle.std.specs.Result.{IsErrAnd}
use Rattle.algebra.specs.Group.{GroupOps, GroupLaws}
use Rattle.algebra.specs.Tuples.{all_valid, invalid_at}
use Rattle.algebra.specs.Rows.{first_place}
use Rattle.algebra.proofs.Places.{all_from_nowhere}
use Rattle.sharing.specs.declared.fault.CabinetFault.{CabinetFault}
use Rattle.sharing.specs.declared.fault.CabinetFault.TheVariants.{MemoryLength, InvalidShare, EpochLimit, InvalidKey, CoefficientCount, InvalidCoefficient, UnknownHolder, WrongPresence, MissingHelper}
use Rattle.sharing.specs.declared.scheme.Scheme.{Scheme}
use Rattle.sharing.specs.Verdicts.{row, located, first, verdict}
use Rattle.sharing.specs.Helpers.{helper_rows}
use Rattle.sharing.proofs.Verdicts.{verdict_ok, verdict_err, first_none, both_none, row_none, length_none, located_none, everywhere}
use Rattle.sharing.proofs.Choosing.{Chosen, chosen}
use Rattle.history.specs.declared.ledger.Holder.{Holder}
use Rattle.history.specs.Ledgers.{is_present}
use Rattle.history.specs.Calls.{State, Deal, depositing, withdrawing, refreshing, Call, Answer, Outcome, answered}
use Rattle.history.specs.Rules.{differs, last_epoch, share_row, valid_row, memory_rows, key_rows, coefficient_rows, deal_rows, change_rows, list_rows, missing_at, fault}
use Rattle.history.specs.Steps.{key_of, accepted, decided, step}

-- what a `?` that passes a refusal on returns
pub passed_on : {X F : Type 0} (r : Result X F) (e : F) → IsErrAnd r (λ x. x ≡ e) → r ≡ Err e
passed_on (Ok x) e h = absurd h
passed_on (Err y) e h = ap Err h

not_differing : (a b : Bool) → differs a b ≡ false → b ≡ a
not_differing true b e = not-false b e
not_differing false b e = e

module _ {C : Type 0} (G : GroupOps C) (s : Scheme) where
  -- share memory as it should be
  pub record Lent (shares : List C) : Type 0 where
    pub full : length shares ≡ s.n * (s.q - 1)
    pub valid : T (all_valid G shares)

  -- share and working memory as they should be
  pub record Memory (shares : List C) (lent : ℕ) : Type 0 where
    pub full : length shares ≡ s.n * (s.q - 1)
    pub room : lent ≡ 4 * (s.q - 1)
    pub valid : T (all_valid G shares)

  pub record Dealing (epoch : ℕ) (d : Deal C) (cs : List C) : Type 0 where
    pub early : epoch < last_epoch
    pub key_valid : T (G.valid (key_of G d))
    pub count : length cs ≡ (s.t - 1) * (s.q - 1)
    pub coefficients : T (all_valid G cs)

  -- a holder of the scheme that is present, or missing, as it should be
  pub record Changing (holders : List Holder) (present : Bool) (h : ℕ) : Type 0 where
    pub low : 1 ≤ h
    pub high : h ≤ s.n
    pub presence : is_present holders h ≡ present

  -- t different holders, all present
  pub record Quorum (holders : List Holder) (hs : List ℕ) : Type 0 where
    pub listed : first (helper_rows s hs) ≡ None
    pub chosen : Chosen s hs
    pub present : (k : ℕ) → k < length hs → missing_at holders hs k ≡ false

  lent_full : (shares : List C) → share_row G s shares ≡ None → length shares ≡ s.n * (s.q - 1)
  lent_full shares e = length_none MemoryLength (s.n * (s.q - 1)) (length shares) e

  lent_valid : (shares : List C) → valid_row G s shares ≡ None → T (all_valid G shares)
  lent_valid shares e = all_from_nowhere G shares (located_none InvalidShare (first_place (invalid_at G shares) 0 (length shares)) e)

  pub lent : (shares : List C) → share_row G s shares ≡ None → valid_row G s shares ≡ None → Lent shares
  lent shares e f = record { full = lent_full shares e; valid = lent_valid shares f }

  pub memory : (shares : List C) (lent : ℕ) → first (memory_rows G s shares lent) ≡ None → Memory shares lent
  memory shares lent e =
      let a = first_none _ _ e in
      let b = first_none _ _ a.1 in
      let c = first_none _ _ b.1 in
      record {
        full = lent_full shares a.0;
        room = length_none MemoryLength (4 * (s.q - 1)) lent b.0;
        valid = lent_valid shares c.0;
      }

  given_valid : (key : C) → first (row (not (G.valid key)) InvalidKey ∷ []) ≡ None → T (G.valid key)
  given_valid key e = T_from_true (G.valid key) (not-false (G.valid key) (row_none (not (G.valid key)) InvalidKey (first_none _ _ e).0))

  -- a refresh deals zero, which is valid
  dealt_valid : GroupLaws G → (d : Deal C) → first (key_rows G s d) ≡ None → T (G.valid (key_of G d))
  dealt_valid L (depositing key) e = given_valid key e
  dealt_valid L (withdrawing key) e = given_valid key e
  dealt_valid L refreshing e = L.zero_valid

  pub may_deal : GroupLaws G → (epoch : ℕ) (d : Deal C) (cs : List C) → first (deal_rows G s epoch d cs) ≡ None → Dealing epoch d cs
  may_deal L epoch d cs e =
      let a = first_none _ _ e in
      let b = both_none (key_rows G s d) (coefficient_rows G s cs) a.1 in
      let c = first_none _ _ b.1 in
      let x = first_none _ _ c.1 in
      record {
        early = leb-false last_epoch epoch (row_none (leb last_epoch epoch) EpochLimit a.0);
        key_valid = dealt_valid L d b.0;
        count = length_none CoefficientCount ((s.t - 1) * (s.q - 1)) (length cs) c.0;
        coefficients = all_from_nowhere G cs (located_none InvalidCoefficient (first_place (invalid_at G cs) 0 (length cs)) x.0);
      }

  pub changing : (holders : List Holder) (present : Bool) (h : ℕ) → first (change_rows s holders present h) ≡ None → Changing holders present h
  changing holders present h e =
      let a = first_none _ _ e in
      let b = first_none _ _ a.1 in
      let q = or_parts (ltb h 1) (ltb s.n h) (row_none (ltb h 1 || ltb s.n h) UnknownHolder a.0) in
      record {
        low = ltb-false h 1 q.0;
        high = ltb-false s.n h q.1;
        presence = not_differing present (is_present holders h) (row_none (differs present (is_present holders h)) WrongPresence b.0);
      }

  pub quorum : (holders : List Holder) (hs : List ℕ) → first (list_rows s holders hs) ≡ None → Quorum holders hs
  quorum holders hs e =
      let a = both_none (helper_rows s hs) (located MissingHelper (first_place (missing_at holders hs) 0 (length hs)) ∷ []) e in
      let b = first_none _ _ a.1 in
      record { listed = a.0; chosen = chosen s hs a.0; present = everywhere (missing_at holders hs) MissingHelper (length hs) b.0 }

  -- a call that was refused leaves everything as it was, whatever it would have done
  pub refused_step : {X : Type 0} (f : X → Answer C) (st : State C) (working : List C) (c : Call C) (r : Result X CabinetFault) (e : CabinetFault)
      → IsErrAnd r (λ x. x ≡ e) → Err e ≡ verdict (fault G s st (length working) c)
      → step G s st working c ≡ record { answer = answered f r; state = st; working = working }
  refused_step f st working c r e p v =
      let with : Answer C → Outcome C = λ a. record { answer = a; state = st; working = working } in
      ap (λ (o : Option CabinetFault). decided G s o st working (accepted G s st working c)) (verdict_err (fault G s st (length working) c) e (sym v))
      ∙ ap (λ (x : Result _ CabinetFault). with (answered f x)) (sym (passed_on r e p))

  -- a call that was accepted
  pub accepted_step : (st : State C) (working : List C) (c : Call C) (after : Outcome C)
      → Ok tt ≡ verdict (fault G s st (length working) c) → accepted G s st working c ≡ after → step G s st working c ≡ after
  accepted_step st working c after v n =
      ap (λ (o : Option CabinetFault). decided G s o st working (accepted G s st working c)) (verdict_ok (fault G s st (length working) c) (sym v)) ∙ n
