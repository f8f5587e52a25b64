-- Revokings and repairs leave each present holder's share as it would be without them.
use Rattle.std.proofs.Common.{◌≡◌, ℕ, ◌+◌, ◌-◌, ◌<◌, Bool, true, false, cond, leb, List, [], ◌∷◌, length, Some, None, Option, sym, refl, ap, ◌∙◌, arith}
use lib.ListN.{get_or-replicate}
use Rattle.std.proofs.lemmas.Bool.{cond-true, cond-false, true≢false, false≢true}
use Rattle.algebra.specs.Group.{GroupOps, GroupLaws}
use Rattle.sharing.specs.declared.fault.CabinetFault.{CabinetFault}
use Rattle.sharing.specs.declared.scheme.Scheme.{Scheme}
use Rattle.sharing.specs.Verdicts.{first}
use Rattle.history.specs.declared.ledger.Holder.{Holder}
use Rattle.history.specs.declared.ledger.Ledger.{Ledger}
use Rattle.history.specs.Ledgers.{holder, fresh, is_present}
use Rattle.history.specs.Calls.{State, Deal, Call, dealing, revoking, repairing, opening, Answer}
use Rattle.history.specs.Rules.{deal_rows, fault}
use Rattle.history.specs.Steps.{made, accepted, decided}
use Rattle.laws.specs.Histories.{Request, outcome, run, trace, left_by, history, public_fault, changes_presence, steady, counted, gathered, credit, dealt_to}
use Rattle.laws.specs.Promises.{InScheme, SharesAsDealt}
use Rattle.laws.proofs.Verdicts.{lent_row, sound_fault}
use Rattle.laws.proofs.Keeps.{there_at, Poly, Shared, keep, start_shared}
use Rattle.laws.proofs.Laws.{last_dealt}

abbrev is_dealing : {C : Type 0} → Call C → Bool
is_dealing (dealing d cs) = true
is_dealing (revoking h) = false
is_dealing (repairing h hs) = false
is_dealing (opening hs) = false

module _ {C : Type 0} (G : GroupOps C) (L : GroupLaws G) (s : Scheme) where
  -- a state of some history
  abbrev pub Fine : State C → Type 0
  Fine st = (P : Poly G L s) × Shared G L s st P

  pub fine_made : Fine (made G s)
  fine_made = ([], start_shared G L s)

  pub fine_after : (st : State C) (x : Request C) → Fine st → Fine (outcome G s st x).state
  fine_after st x j = (_, keep G L s st x j.0 j.1)

  pub fine_fault : (st : State C) → Fine st → (lent : ℕ) (c : Call C) → fault G s st lent c ≡ public_fault G s st.ledger lent c
  fine_fault st j = sound_fault G L s st j.1.sound

  -- a dealing is treated by the epoch alone
  same_public : (l m : Ledger) (lent : ℕ) (c : Call C) → is_dealing c ≡ true → m.epoch ≡ l.epoch → public_fault G s m lent c ≡ public_fault G s l lent c
  same_public l m lent (dealing d cs) f e = ap (λ n. first (lent_row s lent ∷ deal_rows G s n d cs)) e
  same_public l m lent (revoking h) f e = absurd (false≢true f)
  same_public l m lent (repairing h hs) f e = absurd (false≢true f)
  same_public l m lent (opening hs) f e = absurd (false≢true f)

  same_epoch : (v : Option CabinetFault) (st other : State C) (w : List C) (c : Call C) → other.ledger.epoch ≡ st.ledger.epoch
      → (decided G s v other w (accepted G s other w c)).state.ledger.epoch ≡ (decided G s v st w (accepted G s st w c)).state.ledger.epoch
  same_epoch (Some f) st other w c e = e
  same_epoch None st other w (dealing d cs) e = ap (λ n. n + 1) e
  same_epoch None st other w (revoking h) e = e
  same_epoch None st other w (repairing h hs) e = e
  same_epoch None st other w (opening hs) e = e

  -- no other call moves the epoch
  quiet : (v : Option CabinetFault) (st : State C) (w : List C) (c : Call C) → is_dealing c ≡ false → (decided G s v st w (accepted G s st w c)).state.ledger.epoch ≡ st.ledger.epoch
  quiet (Some f) st w c d = refl
  quiet None st w (dealing d cs) f = absurd (true≢false f)
  quiet None st w (revoking h) d = refl
  quiet None st w (repairing h hs) d = refl
  quiet None st w (opening hs) d = refl

  stays : (v : Option CabinetFault) (st : State C) (w : List C) (c : Call C) → changes_presence c ≡ false → (decided G s v st w (accepted G s st w c)).state.ledger.holders ≡ st.ledger.holders
  stays (Some f) st w c d = refl
  stays None st w (dealing d cs) f = refl
  stays None st w (revoking h) d = absurd (true≢false d)
  stays None st w (repairing h hs) d = absurd (true≢false d)
  stays None st w (opening hs) d = refl

  module _ {A : Type 0} (f : Deal C → List C → A → A) (e : ℕ) where
    no_count : (c : Call C) → is_dealing c ≡ false → (r : Answer C) (a : A) → counted f e c r a ≡ a
    no_count (dealing d cs) g r a = absurd (true≢false g)
    no_count (revoking h) g r a = refl
    no_count (repairing h hs) g r a = refl
    no_count (opening hs) g r a = refl

    same_count : (v : Option CabinetFault) (st other : State C) (w : List C) (c : Call C) → is_dealing c ≡ true → other.ledger.epoch ≡ st.ledger.epoch
        → (a : A) → counted f e c (decided G s v other w (accepted G s other w c)).answer a ≡ counted f e c (decided G s v st w (accepted G s st w c)).answer a
    same_count (Some g) st other w c d h a = refl
    same_count None st other w (dealing d cs) g h a = ap (λ n. cond (leb (n + 1) e) (f d cs a) a) h
    same_count None st other w (revoking k) d h a = refl
    same_count None st other w (repairing k hs) d h a = refl
    same_count None st other w (opening hs) d h a = absurd (false≢true d)

    -- two lists of requests from two states of one epoch
    abbrev Agree : State C → List (Request C) → State C → List (Request C) → A → Type 0
    Agree st xs other ys a = (gathered f e a (trace G s other ys) ≡ gathered f e a (trace G s st xs)) × ((run G s other ys).ledger.epoch ≡ (run G s st xs).ledger.epoch)

    -- whatever the two states, if they are of one epoch
    abbrev Next : List (Request C) → List (Request C) → A → Type 0
    Next xs ys a = (st other : State C) → Fine st → Fine other → other.ledger.epoch ≡ st.ledger.epoch → Agree st xs other ys a

    drop_left : (x : Request C) → is_dealing x.call ≡ false → (xs ys : List (Request C)) (a : A) → Next xs ys a → Next (x ∷ xs) ys a
    drop_left x d xs ys a next st other j k h =
        let q = quiet (fault G s st (length x.working) x.call) st x.working x.call d in
        let n = next (outcome G s st x).state other (fine_after st x j) k (h ∙ sym q) in
        (n.0 ∙ ap (λ b. gathered f e b (trace G s (outcome G s st x).state xs)) (sym (no_count x.call d (outcome G s st x).answer a)), n.1)

    drop_right : (x : Request C) → is_dealing x.call ≡ false → (xs ys : List (Request C)) (a : A) → Next xs ys a → Next xs (x ∷ ys) a
    drop_right x d xs ys a next st other j k h =
        let q = quiet (fault G s other (length x.working) x.call) other x.working x.call d in
        let n = next st (outcome G s other x).state j (fine_after other x k) (q ∙ h) in
        (ap (λ b. gathered f e b (trace G s (outcome G s other x).state ys)) (no_count x.call d (outcome G s other x).answer a) ∙ n.0, n.1)

    both : (x : Request C) → is_dealing x.call ≡ true → (xs ys : List (Request C)) (a : A) → ((b : A) → Next xs ys b) → Next (x ∷ xs) (x ∷ ys) a
    both x d xs ys a next st other j k h =
        let c = x.call in
        let w = x.working in
        let v = fine_fault other k (length w) c ∙ same_public st.ledger other.ledger (length w) c d h ∙ sym (fine_fault st j (length w) c) in
        let u : Option CabinetFault = fault G s st (length w) c in
        let n = next (counted f e c (outcome G s st x).answer a) (outcome G s st x).state (outcome G s other x).state (fine_after st x j) (fine_after other x k)
        (ap (λ v. (decided G s v other w (accepted G s other w c)).state.ledger.epoch) v ∙ same_epoch u st other w c h) in
        (ap (λ b. gathered f e b (trace G s (outcome G s other x).state ys)) (ap (λ v. counted f e c (decided G s v other w (accepted G s other w c)).answer a) v ∙ same_count u st other w c d h a) ∙ n.0, n.1)

    agree : (xs : List (Request C)) (a : A) → Next xs (steady xs) a
    agree [] a = λ st other j k h. (refl, h)
    agree (x ∷ xs) a = go (agree xs) x.call refl
      where
        go : ((b : A) → Next xs (steady xs) b) → (c : Call C) → x.call ≡ c → Next (x ∷ xs) (cond (changes_presence c) (steady xs) (x ∷ steady xs)) a
        go next (dealing d cs) m = both x (ap is_dealing m) xs (steady xs) a next
        go next (revoking h) m = drop_left x (ap is_dealing m) xs (steady xs) a (next a)
        go next (repairing h hs) m = drop_left x (ap is_dealing m) xs (steady xs) a (next a)
        go next (opening hs) m = drop_left x (ap is_dealing m) xs (x ∷ steady xs) a (drop_right x (ap is_dealing m) xs (steady xs) a (next a))

  all_stay : (xs : List (Request C)) (st : State C) → (run G s st (steady xs)).ledger.holders ≡ st.ledger.holders
  all_stay [] st = refl
  all_stay (x ∷ xs) st = go (all_stay xs) (changes_presence x.call) refl
    where
      go : ((st : State C) → (run G s st (steady xs)).ledger.holders ≡ st.ledger.holders) → (b : Bool) → changes_presence x.call ≡ b → (run G s st (cond b (steady xs) (x ∷ steady xs))).ledger.holders ≡ st.ledger.holders
      go next true d = next st
      go next false d = next (outcome G s st x).state ∙ stays (fault G s st (length x.working) x.call) st x.working x.call d

  fresh_present : (h : ℕ) → InScheme s h → is_present fresh.holders h ≡ true
  fresh_present h b =
      let l : h - 1 < 30 = omega (arith, b.0, b.1, s.allowed) in
      there_at s fresh.holders h b ∙ ap (λ (x : Holder). x.present) (get_or-replicate 30 (h - 1) (holder true 0) (holder false 0) l)

  pub shares_as_dealt : SharesAsDealt G s
  shares_as_dealt xs h b =
      let last = last_dealt G L s xs h b in
      let e = (left_by G s xs).ledger.epoch in
      let a = agree (credit G s h) e xs _ (made G s) (made G s) fine_made fine_made refl in
      record {
        dealt = λ p. last ∙ cond-true _ _ _ p;
        steadily = λ p. last ∙ cond-true _ _ _ p ∙ sym a.0 ∙ ap (λ m. dealt_to G s h m (history G s (steady xs))) (sym a.1)
            ∙ sym (last_dealt G L s (steady xs) h b ∙ cond-true _ _ _ (ap (λ hs. is_present hs h) (all_stay xs (made G s)) ∙ fresh_present h b));
        missing = λ p. last ∙ cond-false _ _ _ p;
      }
