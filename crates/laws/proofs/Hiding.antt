-- Two histories that differ in their keys and masks are alike to whoever holds the shares of B.
use Rattle.std.proofs.Common.{◌≡◌, ℕ, suc, ◌+◌, ◌-◌, ◌<◌, true, false, cond, T, List, [], ◌∷◌, length, Some, None, Option, sym, refl, ap, ◌∙◌, subst, ap₂}
use Rattle.std.specs.List.{AllZip, AllByRecursion}
use Rattle.std.proofs.ByRecursion.{All-weaker}
use Rattle.algebra.specs.Group.{GroupOps, GroupLaws}
use Rattle.algebra.specs.Tuples.{tuple_zero, tuple_plus, tuple_less}
use Rattle.algebra.specs.Dealing.{dealt}
use Rattle.algebra.proofs.Lagrange.{all_both}
use Rattle.sharing.specs.declared.fault.CabinetFault.{CabinetFault}
use Rattle.sharing.specs.declared.scheme.Scheme.{Scheme}
use Rattle.sharing.proofs.Verdicts.{first_none, first_passes}
use Rattle.history.specs.declared.ledger.Ledger.{Ledger}
use Rattle.history.specs.Ledgers.{is_present, with_holder, at_epoch}
use Rattle.history.specs.Calls.{State, Deal, depositing, withdrawing, refreshing, Call, dealing, revoking, repairing, opening, Answer, key_is, refused}
use Rattle.history.specs.Rules.{deal_rows, fault}
use Rattle.history.specs.Steps.{key_of, made, accepted, decided}
use Rattle.laws.specs.Histories.{Request, Entry, outcome, run, trace, left_by, history, share_of, public_fault, by_epoch, counted, gathered, total_at, credit, dealt_to}
use Rattle.laws.specs.Disguises.{mask, rekeyed, disguised, disguise}
use Rattle.laws.specs.Promises.{InScheme, Seen, Alike, Kept, Hides, FewSharesTellNothing}
use Rattle.laws.proofs.Verdicts.{lent_row, Proper, proper, same_passes, deal_none}
use Rattle.laws.proofs.Keeps.{foretold_by}
use Rattle.laws.proofs.Laws.{Dealt, all_dealt, last_dealt, Foretold, all_foretold}
use Rattle.laws.proofs.Steady.{Fine, fine_made, fine_after, fine_fault}
use Rattle.laws.proofs.Masks.{Blind, all_blind, masked_count, masked_valid, masked_dealt, masks}

module _ {X : Type 0} where
  each_weaker : (R Q : X → X → Type 0) → ((x y : X) → R x y → Q x y) → (xs ys : List X) → AllZip R xs ys → AllZip Q xs ys
  each_weaker R Q f [] [] e = tt
  each_weaker R Q f [] (y ∷ ys) e = absurd e
  each_weaker R Q f (x ∷ xs) [] e = absurd e
  each_weaker R Q f (x ∷ xs) (y ∷ ys) e = (f x y e.0, each_weaker R Q f xs ys e.1)

  each_with : (R : X → X → Type 0) (P Q : X → Type 0) (xs ys : List X) → AllZip R xs ys → AllByRecursion P xs → AllByRecursion Q ys → AllZip (λ x y. R x y × P x × Q y) xs ys
  each_with R P Q [] [] e p q = tt
  each_with R P Q [] (y ∷ ys) e p q = absurd e
  each_with R P Q (x ∷ xs) [] e p q = absurd e
  each_with R P Q (x ∷ xs) (y ∷ ys) e p q = ((e.0, p.0, q.0), each_with R P Q xs ys e.1 p.1 q.1)

-- what is gathered of dealings that count alike is the same
gathered_same : {C A : Type 0} (f : Deal C → List C → A → A) (e : ℕ) (xs ys : List (Entry C))
    → AllZip (λ x y. (a : A) → counted f e y.request.call y.answer a ≡ counted f e x.request.call x.answer a) xs ys
    → (a : A) → gathered f e a ys ≡ gathered f e a xs
gathered_same f e [] [] r a = refl
gathered_same f e [] (y ∷ ys) r a = absurd r
gathered_same f e (x ∷ xs) [] r a = absurd r
gathered_same f e (x ∷ xs) (y ∷ ys) r a = ap (λ b. gathered f e b ys) (r.0 a) ∙ gathered_same f e xs ys r.1 _

module _ {C : Type 0} (G : GroupOps C) (L : GroupLaws G) (s : Scheme) (B : List ℕ) where
  -- a call with the key new, by its verdict
  abbrev masked : C → Option CabinetFault → Call C → Call C
  masked new (Some f) c = c
  masked new None (dealing d cs) = rekeyed G s B new d cs
  masked new None (revoking h) = revoking h
  masked new None (repairing h hs) = repairing h hs
  masked new None (opening hs) = opening hs

  refused_stays : (new : C) (f : CabinetFault) (c : Call C) → disguised G s B new (refused f) c ≡ c
  refused_stays new f (dealing d cs) = refl
  refused_stays new f (revoking h) = refl
  refused_stays new f (repairing h hs) = refl
  refused_stays new f (opening hs) = refl

  disguised_is : (new : C) (v : Option CabinetFault) (st : State C) (w : List C) (c : Call C) → disguised G s B new (decided G s v st w (accepted G s st w c)).answer c ≡ masked new v c
  disguised_is new (Some f) st w c = refused_stays new f c
  disguised_is new None st w (dealing d cs) = refl
  disguised_is new None st w (revoking h) = refl
  disguised_is new None st w (repairing h hs) = refl
  disguised_is new None st w (opening hs) = refl

  module _ (new : C) (good : T (G.valid new)) (l : Ledger) (lent : ℕ) (d : Deal C) (cs : List C) (e : public_fault G s l lent (dealing d cs) ≡ None) where
    was_proper : Proper G L s d cs
    was_proper = proper G L s l.epoch d cs (deal_none G L s l lent d cs e)

    -- a dealing of the key new, masked, in place of one that was accepted
    replaced : (d' : Deal C) → key_of G d' ≡ new → public_fault G s l lent (dealing d' (tuple_plus G cs (mask G s B (key_of G d) new))) ≡ None
    replaced d' k =
        let p = was_proper in
        let a = first_none (lent_row s lent) (deal_rows G s l.epoch d cs) e in
        let cs' : List C = tuple_plus G cs (mask G s B (key_of G d) new) in
        first_passes (lent_row s lent) (deal_rows G s l.epoch d' cs') a.0 (same_passes G L s l.epoch d cs a.1 d' cs' (record {
          key = subst (λ x. T (G.valid x)) (sym k) good;
          count = masked_count G L s B (key_of G d) new p.key good cs p.count p.valid;
          valid = masked_valid G L s B (key_of G d) new p.key good cs p.count p.valid;
        }))

    -- it deals the same to whoever is blind
    replaced_deals : length B < s.t → (h : ℕ) → Blind G L s B h → dealt G (s.q - 1) h new (s.t - 1) (tuple_plus G cs (mask G s B (key_of G d) new)) ≡ dealt G (s.q - 1) h (key_of G d) (s.t - 1) cs
    replaced_deals few h blind = let p = was_proper in masked_dealt G L s B (key_of G d) new p.key good cs p.count p.valid few h blind

  masked_verdict : (new : C) → T (G.valid new) → (v : Option CabinetFault) (l : Ledger) (lent : ℕ) (c : Call C) → public_fault G s l lent c ≡ v → public_fault G s l lent (masked new v c) ≡ v
  masked_verdict new good (Some f) l lent c e = e
  masked_verdict new good None l lent (dealing (depositing k) cs) e = replaced new good l lent (depositing k) cs e (depositing new) refl
  masked_verdict new good None l lent (dealing (withdrawing k) cs) e = replaced new good l lent (withdrawing k) cs e (withdrawing new) refl
  masked_verdict new good None l lent (dealing refreshing cs) e = e
  masked_verdict new good None l lent (revoking h) e = e
  masked_verdict new good None l lent (repairing h hs) e = e
  masked_verdict new good None l lent (opening hs) e = e

  masked_ledger : (new : C) (v : Option CabinetFault) (st other : State C) (w : List C) (c : Call C) → other.ledger ≡ st.ledger
      → (decided G s v other w (accepted G s other w (masked new v c))).state.ledger ≡ (decided G s v st w (accepted G s st w c)).state.ledger
  masked_ledger new (Some f) st other w c e = e
  masked_ledger new None st other w (dealing (depositing k) cs) e = ap (λ (l : Ledger). at_epoch (l.epoch + 1) l) e
  masked_ledger new None st other w (dealing (withdrawing k) cs) e = ap (λ (l : Ledger). at_epoch (l.epoch + 1) l) e
  masked_ledger new None st other w (dealing refreshing cs) e = ap (λ (l : Ledger). at_epoch (l.epoch + 1) l) e
  masked_ledger new None st other w (revoking h) e = ap (with_holder h false) e
  masked_ledger new None st other w (repairing h hs) e = ap (with_holder h true) e
  masked_ledger new None st other w (opening hs) e = e

  masked_foretold : (new : C) (v : Option CabinetFault) (l : Ledger) (c : Call C) (a b : C) → ((hs : List ℕ) → c ≡ opening hs → v ≡ None → b ≡ a) → foretold_by G L s v l b (masked new v c) ≡ foretold_by G L s v l a c
  masked_foretold new (Some f) l c a b h = refl
  masked_foretold new None l (dealing (depositing k) cs) a b h = refl
  masked_foretold new None l (dealing (withdrawing k) cs) a b h = refl
  masked_foretold new None l (dealing refreshing cs) a b h = refl
  masked_foretold new None l (revoking k) a b h = refl
  masked_foretold new None l (repairing k hs) a b h = refl
  masked_foretold new None l (opening hs) a b h = ap key_is (h hs refl refl)

  module _ (few : length B < s.t) where
    -- a masked dealing gives the same to whoever is blind
    masked_counted : (h : ℕ) → Blind G L s B h → (new : C) → T (G.valid new) → (v : Option CabinetFault) (l : Ledger) (lent : ℕ) (c : Call C) → public_fault G s l lent c ≡ v
        → (e : ℕ) (r : Answer C) (a : List C) → counted (credit G s h) e (masked new v c) r a ≡ counted (credit G s h) e c r a
    masked_counted h blind new good (Some f) l lent c v e r a = refl
    masked_counted h blind new good None l lent (dealing (depositing k) cs) v e r a =
        ap (λ y. cond (by_epoch e r) (tuple_plus G a y) a) (replaced_deals new good l lent (depositing k) cs v few h blind)
    masked_counted h blind new good None l lent (dealing (withdrawing k) cs) v e r a =
        ap (λ y. cond (by_epoch e r) (tuple_less G a y) a) (replaced_deals new good l lent (withdrawing k) cs v few h blind)
    masked_counted h blind new good None l lent (dealing refreshing cs) v e r a = refl
    masked_counted h blind new good None l lent (revoking k) v e r a = refl
    masked_counted h blind new good None l lent (repairing k hs) v e r a = refl
    masked_counted h blind new good None l lent (opening hs) v e r a = refl

    abbrev verdict_of : Entry C → Option CabinetFault
    verdict_of x = public_fault G s x.before.ledger (length x.request.working) x.request.call

    -- an entry and the masked one, at the same ledger
    pub record Twin (x y : Entry C) : Type 0 where
      pub ledger : y.before.ledger ≡ x.before.ledger
      pub working : y.request.working ≡ x.request.working
      pub new : C
      pub good : T (G.valid new)
      pub call : y.request.call ≡ masked new (verdict_of x) x.request.call

    -- the masked request
    abbrev twin_of : C → State C → Request C → Request C
    twin_of new st x = record { call = disguised G s B new (outcome G s st x).answer x.call; working = x.working }

    same_ledger : (new : C) → T (G.valid new) → (st other : State C) (x : Request C) → Fine G L s st → Fine G L s other → other.ledger ≡ st.ledger
        → (outcome G s other (twin_of new st x)).state.ledger ≡ (outcome G s st x).state.ledger
    same_ledger new good st other x j k e =
        let c = x.call in
        let w = x.working in
        let v : Option CabinetFault = fault G s st (length w) c in
        let same : fault G s other (length w) (masked new v c) ≡ v
        = fine_fault G L s other k (length w) (masked new v c) ∙ ap (λ l. public_fault G s l (length w) (masked new v c)) e ∙ masked_verdict new good v st.ledger (length w) c (sym (fine_fault G L s st j (length w) c)) in
        ap (λ d. (decided G s (fault G s other (length w) d) other w (accepted G s other w d)).state.ledger) (disguised_is new v st w c)
        ∙ ap (λ u. (decided G s u other w (accepted G s other w (masked new v c))).state.ledger) same
        ∙ masked_ledger new v st other w c e

    twins : (xs : List (Request C)) (keys : ℕ → C) → ((i : ℕ) → T (G.valid (keys i))) → (st other : State C) → Fine G L s st → Fine G L s other → other.ledger ≡ st.ledger
        → AllZip Twin (trace G s st xs) (trace G s other (disguise G s B keys (trace G s st xs)))
    twins [] keys good st other j k e = tt
    twins (x ∷ xs) keys good st other j k e =
        let y : Request C = twin_of (keys 0) st x in (
          record {
            ledger = e;
            working = refl;
            new = keys 0;
            good = good 0;
            call = disguised_is (keys 0) (fault G s st (length x.working) x.call) st x.working x.call ∙ ap (λ v. masked (keys 0) v x.call) (fine_fault G L s st j (length x.working) x.call);
          },
          twins xs (λ i. keys (suc i)) (λ i. good (suc i)) (outcome G s st x).state (outcome G s other y).state (fine_after G L s st x j) (fine_after G L s other y k) (same_ledger (keys 0) (good 0) st other x j k e),
        )

    last_ledger : (xs : List (Request C)) (keys : ℕ → C) → ((i : ℕ) → T (G.valid (keys i))) → (st other : State C) → Fine G L s st → Fine G L s other → other.ledger ≡ st.ledger
        → (run G s other (disguise G s B keys (trace G s st xs))).ledger ≡ (run G s st xs).ledger
    last_ledger [] keys good st other j k e = e
    last_ledger (x ∷ xs) keys good st other j k e =
        let y : Request C = twin_of (keys 0) st x in
        last_ledger xs (λ i. keys (suc i)) (λ i. good (suc i)) (outcome G s st x).state (outcome G s other y).state (fine_after G L s st x j) (fine_after G L s other y k) (same_ledger (keys 0) (good 0) st other x j k e)

    module _ (inside : AllByRecursion (InScheme s) B) (xs : List (Request C)) (keys : ℕ → C) (good : (i : ℕ) → T (G.valid (keys i)))
        (kept : Kept G s (history G s xs) (history G s (disguise G s B keys (history G s xs)))) where
      abbrev ys : List (Request C)
      ys = disguise G s B keys (history G s xs)

      abbrev KeptAt : Entry C → Type 0
      KeptAt x = (hs : List ℕ) (k : C) → x.request.call ≡ opening hs → x.answer ≡ key_is k → total_at G x.before.ledger.epoch (history G s ys) ≡ total_at G x.before.ledger.epoch (history G s xs)

      -- the answer to the masked call
      same_answer : (x y : Entry C) → Twin x y → Foretold G L s xs x → Foretold G L s ys y → KeptAt x → y.answer ≡ x.answer
      same_answer x y t f g h =
          let l : Ledger = x.before.ledger in
          let n : ℕ = length x.request.working in
          let c = x.request.call in
          let v = verdict_of x in
          let old = total_at G l.epoch (history G s xs) in
          let new = total_at G l.epoch (history G s ys) in
          g
          ∙ ap₂ (λ (m : Ledger) w. foretold_by G L s (public_fault G s m (length w) y.request.call) m (total_at G m.epoch (history G s ys)) y.request.call) t.ledger t.working
          ∙ ap (λ d. foretold_by G L s (public_fault G s l n d) l new d) t.call
          ∙ ap (λ u. foretold_by G L s u l new (masked t.new v c)) (masked_verdict t.new t.good v l n c refl)
          ∙ masked_foretold t.new v l c old new (λ hs i u. h hs old i (f ∙ ap₂ (λ u d. foretold_by G L s u l old d) u i))
          ∙ sym f

      -- two entries with one answer
      pub record Pair (x y : Entry C) : Type 0 where
        pub twin : Twin x y
        pub answers : y.answer ≡ x.answer
        pub dealt_x : Dealt G L s xs x.before
        pub dealt_y : Dealt G L s ys y.before

      pairs : AllZip Pair (history G s xs) (history G s ys)
      pairs = each_weaker (λ x y. Twin x y × (Foretold G L s xs x × (KeptAt x × Dealt G L s xs x.before)) × (Foretold G L s ys y × Dealt G L s ys y.before)) Pair
          (λ x y p. record { twin = p.0; answers = same_answer x y p.0 p.1.0 p.2.0 p.1.1.0; dealt_x = p.1.1.1; dealt_y = p.2.1 })
          (history G s xs) (history G s ys)
          (each_with Twin (λ x. Foretold G L s xs x × (KeptAt x × Dealt G L s xs x.before)) (λ y. Foretold G L s ys y × Dealt G L s ys y.before) (history G s xs) (history G s ys)
          (twins xs keys good (made G s) (made G s) (fine_made G L s) (fine_made G L s) refl)
          (all_both (Foretold G L s xs) (λ x. KeptAt x × Dealt G L s xs x.before) (history G s xs) (all_foretold G L s xs) (all_both KeptAt (λ x. Dealt G L s xs x.before) (history G s xs) kept (all_dealt G L s xs)))
          (all_both (Foretold G L s ys) (λ y. Dealt G L s ys y.before) (history G s ys) (all_foretold G L s ys) (all_dealt G L s ys)))

      -- whoever is blind was dealt the same
      same_dealt : (h : ℕ) → Blind G L s B h → (e : ℕ) → dealt_to G s h e (history G s ys) ≡ dealt_to G s h e (history G s xs)
      same_dealt h blind e = gathered_same (credit G s h) e (history G s xs) (history G s ys)
          (each_weaker Pair (λ x y. (a : List C) → counted (credit G s h) e y.request.call y.answer a ≡ counted (credit G s h) e x.request.call x.answer a)
          (λ x y p a. ap₂ (λ c r. counted (credit G s h) e c r a) p.twin.call p.answers
          ∙ masked_counted h blind p.twin.new p.twin.good (verdict_of x) x.before.ledger (length x.request.working) x.request.call refl e x.answer a)
          (history G s xs) (history G s ys) pairs)
          (tuple_zero G (s.q - 1))

      same_share : (st other : State C) → other.ledger ≡ st.ledger → Dealt G L s xs st → Dealt G L s ys other → (h : ℕ) → InScheme s h → Blind G L s B h → share_of G s h other ≡ share_of G s h st
      same_share st other e p q h b blind =
          q h b
          ∙ ap (λ (l : Ledger). cond (is_present l.holders h) (dealt_to G s h l.epoch (history G s ys)) (tuple_zero G (s.q - 1))) e
          ∙ ap (λ m. cond (is_present st.ledger.holders h) m (tuple_zero G (s.q - 1))) (same_dealt h blind st.ledger.epoch)
          ∙ sym (p h b)

      same_seen : (st other : State C) → other.ledger ≡ st.ledger → Dealt G L s xs st → Dealt G L s ys other → Seen G s B st other
      same_seen st other e p q = record {
        ledger = e;
        shares = All-weaker (λ h. InScheme s h × Blind G L s B h) (λ h. share_of G s h other ≡ share_of G s h st) (λ h b. same_share st other e p q h b.0 b.1) B (all_both (InScheme s) (Blind G L s B) B inside (all_blind G L s B inside));
      }

      pub hides : Hides G s B xs ys
      hides = record {
        calls = each_weaker Pair (Alike G s B) (λ x y p. record { answers = p.answers; before = same_seen x.before y.before p.twin.ledger p.dealt_x p.dealt_y }) (history G s xs) (history G s ys) pairs;
        last = same_seen (left_by G s xs) (left_by G s ys) (last_ledger xs keys good (made G s) (made G s) (fine_made G L s) (fine_made G L s) refl) (last_dealt G L s xs) (last_dealt G L s ys);
      }

pub few_shares_tell_nothing : {C : Type 0} (G : GroupOps C) → GroupLaws G → (s : Scheme) → FewSharesTellNothing G s
few_shares_tell_nothing G L s B inside few = (masks G L s B, λ xs keys good kept. hides G L s B few inside xs keys good kept)
