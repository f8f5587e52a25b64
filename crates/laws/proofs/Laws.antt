-- What follows at each entry of a history and at its end: the shares are as dealt, and openings return the total.
use Rattle.std.proofs.Common.{◌≡◌, ℕ, suc, ◌-◌, ◌*◌, ◌<◌, Bool, true, false, cond, not, eqb, List, [], ◌∷◌, length, Some, None, Option, sym, refl, ap, ◌∙◌, subst, ap₂, arith}
use Rattle.std.specs.List.{AllByRecursion}
use Rattle.std.proofs.ByRecursion.{All-weaker}
use Rattle.algebra.specs.Group.{GroupOps, GroupLaws}
use Rattle.algebra.specs.Tuples.{tuple_zero}
use Rattle.algebra.specs.Scalars.{point}
use Rattle.algebra.specs.Sharing.{value}
use Rattle.algebra.proofs.Lagrange.{all_both}
use Rattle.sharing.specs.declared.fault.CabinetFault.{CabinetFault}
use Rattle.sharing.specs.declared.fault.CabinetFault.TheVariants.{MemoryLength, HelperCount, UnknownHelper, RepeatedHelper, MissingHelper, Disagreement}
use Rattle.sharing.specs.declared.scheme.Scheme.{Scheme}
use Rattle.sharing.specs.Faults.{refusal}
use Rattle.sharing.specs.Verdicts.{row, located, first}
use Rattle.history.specs.declared.ledger.Ledger.{Ledger}
use Rattle.history.specs.Ledgers.{is_present}
use Rattle.history.specs.Calls.{State, Call, dealing, revoking, repairing, opening, key_is, refused}
use Rattle.history.specs.Rules.{list_rows, fault}
use Rattle.history.specs.Steps.{made}
use Rattle.laws.specs.Histories.{Request, Entry, outcome, left_by, history, share_of, public_fault, gathered, added, total_at, credit, dealt_to}
use Rattle.laws.specs.Promises.{InScheme, Opens, OpensToTotal}
use Rattle.laws.proofs.Verdicts.{lent_row, sound_fault}
use Rattle.laws.proofs.Along.{all_trace, gathered_both, along, at_last}
use Rattle.laws.proofs.Keeps.{there_at, O, Poly, grown, Shared, Worth, credit_value, worth, keep, start_shared, start_worth, foretold_by, foretells}

module _ {C : Type 0} (G : GroupOps C) (L : GroupLaws G) (s : Scheme) where
  module _ (xs : List (Request C)) where
    -- the polynomial dealt up to an epoch
    abbrev pub poly : ℕ → Poly G L s
    poly e = gathered (grown G L s) e [] (history G s xs)

    pub poly_worth : (e : ℕ) → Worth G L s (poly e) (total_at G e (history G s xs))
    poly_worth e = gathered_both G s L (grown G L s) (added G) (Worth G L s) (λ d cs P a p u. worth G L s d cs p P a u) xs (made G s) e [] G.zero (start_worth G L s)

    pub poly_dealt_to : (h e : ℕ) → dealt_to G s h e (history G s xs) ≡ (value (O G L s) (poly e) (point h)).0
    poly_dealt_to h e = gathered_both G s L (grown G L s) (credit G s h) (λ P m. m ≡ (value (O G L s) P (point h)).0) (λ d cs P m p r. credit_value G L s d cs p h P m r) xs (made G s) e [] (tuple_zero G (s.q - 1)) refl

    poly_shared : AllByRecursion (λ x. Shared G L s x.before (poly x.before.ledger.epoch)) (history G s xs)
    poly_shared = along (grown G L s) G s (Shared G L s) (keep G L s) xs (made G s) [] (start_shared G L s)

    -- the shares of a state are as dealt
    abbrev pub Dealt : State C → Type 0
    Dealt st = (h : ℕ) → InScheme s h → share_of G s h st ≡ cond (is_present st.ledger.holders h) (dealt_to G s h st.ledger.epoch (history G s xs)) (tuple_zero G (s.q - 1))

    is_dealt : (st : State C) → Shared G L s st (poly st.ledger.epoch) → Dealt st
    is_dealt st j h b =
        let l : h - 1 < s.n = omega (arith, b.0, b.1) in
        let k : suc (h - 1) ≡ h = omega (arith, b.0) in
        j.each (h - 1) l
        ∙ ap₂ (λ c i. cond c (value (O G L s) (poly st.ledger.epoch) (point i)).0 (tuple_zero G (s.q - 1))) (sym (there_at s st.ledger.holders h b)) k
        ∙ ap (λ m. cond (is_present st.ledger.holders h) m (tuple_zero G (s.q - 1))) (sym (poly_dealt_to h st.ledger.epoch))

    pub all_dealt : AllByRecursion (λ x. Dealt x.before) (history G s xs)
    all_dealt = All-weaker _ (λ x. Dealt x.before) (λ x. is_dealt x.before) (history G s xs) poly_shared

    pub last_dealt : Dealt (left_by G s xs)
    last_dealt = is_dealt (left_by G s xs) (at_last (grown G L s) G s (Shared G L s) (keep G L s) xs (made G s) [] (start_shared G L s))

    -- each answer is what the ledger and the total foretell
    abbrev pub Foretold : Entry C → Type 0
    Foretold x = x.answer ≡ foretold_by G L s (public_fault G s x.before.ledger (length x.request.working) x.request.call) x.before.ledger (total_at G x.before.ledger.epoch (history G s xs)) x.request.call

    foretold : (x : Entry C) → x.answer ≡ (outcome G s x.before x.request).answer → Shared G L s x.before (poly x.before.ledger.epoch) → Foretold x
    foretold x h j =
        let st = x.before in
        let c = x.request.call in
        let f = sound_fault G L s st j.sound (length x.request.working) c in
        let a = total_at G st.ledger.epoch (history G s xs) in
        h ∙ foretells G L s (fault G s st (length x.request.working) c) st x.request.working c (poly st.ledger.epoch) a (sym f) j (poly_worth st.ledger.epoch) ∙ ap (λ v. foretold_by G L s v st.ledger a c) f

    pub all_foretold : AllByRecursion Foretold (history G s xs)
    all_foretold = All-weaker (λ x. (x.answer ≡ (outcome G s x.before x.request).answer) × Shared G L s x.before (poly x.before.ledger.epoch)) Foretold
        (λ x h. foretold x h.0 h.1) (history G s xs)
        (all_both _ _ _ (all_trace G s (λ x. x.answer ≡ (outcome G s x.before x.request).answer) (λ st x. refl) xs (made G s)) poly_shared)

  -- no row on memory or helpers is a disagreement
  abbrev Small : Option CabinetFault → Type 0
  Small None = Unit {0}
  Small (Some f) = (refusal f).0 < 15

  small_first : (os : List (Option CabinetFault)) → AllByRecursion Small os → Small (first os)
  small_first [] h = tt
  small_first (None ∷ os) h = small_first os h.1
  small_first (Some f ∷ os) h = h.0

  small_row : (b : Bool) (f : CabinetFault) → (refusal f).0 < 15 → Small (row b f)
  small_row true f h = h
  small_row false f h = tt

  small_located : (f : ℕ → CabinetFault) → ((i : ℕ) → (refusal (f i)).0 < 15) → (o : Option ℕ) → Small (located f o)
  small_located f h None = tt
  small_located f h (Some i) = h i

  agrees : (l : Ledger) (lent : ℕ) (hs : List ℕ) (i : ℕ) → public_fault G s l lent (opening hs) ≡ Some (Disagreement i) → ⊥
  agrees l lent hs i e =
      let z : 15 < 15 = subst Small e (small_first (lent_row s lent ∷ list_rows s l.holders hs) (
        small_row (not (eqb lent (4 * (s.q - 1)))) (MemoryLength (4 * (s.q - 1))) (omega arith),
        (
          small_row (not (eqb (length hs) s.t)) (HelperCount (length hs)) (omega arith),
          (small_located UnknownHelper (λ i. omega arith) _, (small_located RepeatedHelper (λ i. omega arith) _, (small_located MissingHelper (λ i. omega arith) _, tt))),
        ),
      )) in
      omega arith

  not_refused : (l : Ledger) (k : C) (c : Call C) (f : CabinetFault) → foretold_by G L s None l k c ≡ refused f → ⊥
  not_refused l k (dealing d cs) f e = cc
  not_refused l k (revoking h) f e = cc
  not_refused l k (repairing h hs) f e = cc
  not_refused l k (opening hs) f e = cc

  opens_by : (x : Entry C) (k : C) (v : Option CabinetFault) → public_fault G s x.before.ledger (length x.request.working) x.request.call ≡ v
      → x.answer ≡ foretold_by G L s v x.before.ledger k x.request.call → Opens G s k x
  opens_by x k (Some f) e h = record {
    opened = λ hs c n. let m : public_fault G s x.before.ledger (length x.request.working) x.request.call ≡ None = ap (public_fault G s x.before.ledger (length x.request.working)) c ∙ n in
        cc;
    returned = λ hs r c a. cc;
    agreed = λ hs i c a. let m : f ≡ Disagreement i = cc in
        agrees x.before.ledger (length x.request.working) hs i
        (ap (public_fault G s x.before.ledger (length x.request.working)) (sym c) ∙ e ∙ ap Some m);
    own_memory = λ g a. let m : f ≡ g = cc in e ∙ ap Some m;
  }
  opens_by x k None e h = record {
    opened = λ hs c n. h ∙ ap (foretold_by G L s None x.before.ledger k) c;
    returned = λ hs r c a. let m : x.answer ≡ key_is k = h ∙ ap (foretold_by G L s None x.before.ledger k) c in cc;
    agreed = λ hs i c a. not_refused x.before.ledger k x.request.call (Disagreement i) (sym h ∙ a);
    own_memory = λ g a. absurd (not_refused x.before.ledger k x.request.call g (sym h ∙ a));
  }

  pub opens_to_total : OpensToTotal G s
  opens_to_total xs = All-weaker (Foretold xs) (λ x. Opens G s (total_at G x.before.ledger.epoch (history G s xs)) x) (λ x h. opens_by x _ _ refl h) (history G s xs) (all_foretold xs)
