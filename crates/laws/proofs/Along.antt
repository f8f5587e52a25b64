-- What holds at every entry of a trace, and at its end.
use Rattle.std.proofs.Common.{◌≡◌, ℕ, ◌+◌, ◌≤◌, Bool, true, false, cond, leb, List, [], ◌∷◌, length, Some, None, Option, sym, refl, ap, ◌∙◌, subst, arith}
use Rattle.std.specs.List.{AllByRecursion}
use Rattle.std.proofs.ByRecursion.{All-weaker}
use Rattle.std.proofs.lemmas.Bool.{le-leb, lt-leb}
use Rattle.algebra.specs.Group.{GroupOps, GroupLaws}
use Rattle.sharing.specs.declared.fault.CabinetFault.{CabinetFault}
use Rattle.sharing.specs.declared.scheme.Scheme.{Scheme}
use Rattle.history.specs.Calls.{State, Deal, Call, dealing, revoking, repairing, opening, Answer, epoch_is, refused}
use Rattle.history.specs.Rules.{fault}
use Rattle.history.specs.Steps.{accepted, decided}
use Rattle.laws.specs.Histories.{Request, Entry, outcome, run, trace, counted, gathered}
use Rattle.laws.proofs.Verdicts.{Proper, dealing_proper}

module _ {C A : Type 0} (f : Deal C → List C → A → A) where
  -- a call at the epoch m, and the epoch after it
  pub record Turn (m : ℕ) (c : Call C) (r : Answer C) (n : ℕ) : Type 0 where
    pub later : m ≤ n
    pub settles : (e : ℕ) → n ≤ e → (a : A) → counted f e c r a ≡ counted f n c r a
    pub not_yet : (e : ℕ) → e ≤ m → (a : A) → counted f e c r a ≡ a

  still : (m : ℕ) (c : Call C) (r : Answer C) → ((e : ℕ) (a : A) → counted f e c r a ≡ a) → Turn m c r m
  still m c r q = record { later = omega arith; settles = λ e h a. q e a ∙ sym (q m a); not_yet = λ e h a. q e a }

  dealt : (m : ℕ) (d : Deal C) (cs : List C) → Turn m (dealing d cs) (epoch_is (m + 1)) (m + 1)
  dealt m d cs = record {
    later = omega arith;
    settles = λ e h a. ap (λ b. cond b (f d cs a) a) (le-leb (m + 1) e h ∙ sym (le-leb (m + 1) (m + 1) (omega arith)));
    not_yet = λ e h a. ap (λ b. cond b (f d cs a) a) (lt-leb (m + 1) e (omega arith));
  }

  pub refused_counts : (e : ℕ) (c : Call C) (g : CabinetFault) (a : A) → counted f e c (refused g) a ≡ a
  refused_counts e (dealing d cs) g a = refl
  refused_counts e (revoking h) g a = refl
  refused_counts e (repairing h hs) g a = refl
  refused_counts e (opening hs) g a = refl

  module _ (G : GroupOps C) (s : Scheme) where
    turn_by : (v : Option CabinetFault) (st : State C) (w : List C) (c : Call C)
        → Turn st.ledger.epoch c (decided G s v st w (accepted G s st w c)).answer (decided G s v st w (accepted G s st w c)).state.ledger.epoch
    turn_by (Some g) st w c = still st.ledger.epoch c (refused g) (λ e a. refused_counts e c g a)
    turn_by None st w (dealing d cs) = dealt st.ledger.epoch d cs
    turn_by None st w (revoking h) = still st.ledger.epoch (revoking h) _ (λ e a. refl)
    turn_by None st w (repairing h hs) = still st.ledger.epoch (repairing h hs) _ (λ e a. refl)
    turn_by None st w (opening hs) = still st.ledger.epoch (opening hs) _ (λ e a. refl)

    turn : (st : State C) (x : Request C) → Turn st.ledger.epoch x.call (outcome G s st x).answer (outcome G s st x).state.ledger.epoch
    turn st x = turn_by (fault G s st (length x.working) x.call) st x.working x.call

    pub nothing_yet : (xs : List (Request C)) (st : State C) (e : ℕ) → e ≤ st.ledger.epoch → (a : A) → gathered f e a (trace G s st xs) ≡ a
    nothing_yet [] st e h a = refl
    nothing_yet (x ∷ xs) st e h a =
        let t = turn st x in
        let l : st.ledger.epoch ≤ (outcome G s st x).state.ledger.epoch = t.later in
        ap (λ b. gathered f e b (trace G s (outcome G s st x).state xs)) (t.not_yet e h a) ∙ nothing_yet xs (outcome G s st x).state e (omega arith) a

    module _ (J : State C → A → Type 0)
        (keep : (st : State C) (x : Request C) (a : A) → J st a → J (outcome G s st x).state (counted f (outcome G s st x).state.ledger.epoch x.call (outcome G s st x).answer a)) where
      -- a state r reached from st, where a was gathered before
      abbrev Since : State C → A → List (Entry C) → State C → Type 0
      Since st a es r = (st.ledger.epoch ≤ r.ledger.epoch) × J r (gathered f r.ledger.epoch a es)

      -- one request earlier
      sooner : (st : State C) (x : Request C) (a : A) (es : List (Entry C)) (r : State C)
          → Since (outcome G s st x).state (counted f (outcome G s st x).state.ledger.epoch x.call (outcome G s st x).answer a) es r
          → Since st a (record { before = st; request = x; answer = (outcome G s st x).answer } ∷ es) r
      sooner st x a es r h =
          let t = turn st x in
          let l : st.ledger.epoch ≤ (outcome G s st x).state.ledger.epoch = t.later in
          let k : (outcome G s st x).state.ledger.epoch ≤ r.ledger.epoch = h.0 in
          (omega arith, subst (λ b. J r (gathered f r.ledger.epoch b es)) (sym (t.settles r.ledger.epoch k a)) h.1)

      since_all : (xs : List (Request C)) (st : State C) (a : A) → J st a → AllByRecursion (λ y. Since st a (trace G s st xs) y.before) (trace G s st xs)
      since_all [] st a j = tt
      since_all (x ∷ xs) st a j = (
        (omega arith, subst (J st) (sym (nothing_yet (x ∷ xs) st st.ledger.epoch (omega arith) a)) j),
        All-weaker _ (λ y. Since st a (trace G s st (x ∷ xs)) y.before) (λ y. sooner st x a (trace G s (outcome G s st x).state xs) y.before) (trace G s (outcome G s st x).state xs)
            (since_all xs (outcome G s st x).state _ (keep st x a j)),
      )

      since_last : (xs : List (Request C)) (st : State C) (a : A) → J st a → Since st a (trace G s st xs) (run G s st xs)
      since_last [] st a j = (omega arith, j)
      since_last (x ∷ xs) st a j = sooner st x a (trace G s (outcome G s st x).state xs) _ (since_last xs (outcome G s st x).state _ (keep st x a j))

      -- J holds before every request, of what was gathered by the epoch then
      pub along : (xs : List (Request C)) (st : State C) (a : A) → J st a → AllByRecursion (λ y. J y.before (gathered f y.before.ledger.epoch a (trace G s st xs))) (trace G s st xs)
      along xs st a j = All-weaker _ (λ y. J y.before (gathered f y.before.ledger.epoch a (trace G s st xs))) (λ y h. h.1) (trace G s st xs) (since_all xs st a j)

      pub at_last : (xs : List (Request C)) (st : State C) (a : A) → J st a → J (run G s st xs) (gathered f (run G s st xs).ledger.epoch a (trace G s st xs))
      at_last xs st a j = (since_last xs st a j).1

module _ {C : Type 0} (G : GroupOps C) (s : Scheme) where
  -- a property of every request, with the state before it and its answer
  pub all_trace : (Q : Entry C → Type 0) → ((st : State C) (x : Request C) → Q (record { before = st; request = x; answer = (outcome G s st x).answer })) → (xs : List (Request C)) (st : State C) → AllByRecursion Q (trace G s st xs)
  all_trace Q q [] st = tt
  all_trace Q q (x ∷ xs) st = (q st x, all_trace Q q xs (outcome G s st x).state)

  -- two sums over the same dealings stay related
  module _ (L : GroupLaws G) {A B : Type 0} (f : Deal C → List C → A → A) (g : Deal C → List C → B → B) (R : A → B → Type 0)
      (keep : (d : Deal C) (cs : List C) (a : A) (b : B) → Proper G L s d cs → R a b → R (f d cs a) (g d cs b)) where
    both_by : (v : Option CabinetFault) (st : State C) (w : List C) (c : Call C) → fault G s st (length w) c ≡ v → (e : ℕ) (a : A) (b : B) → R a b
        → R (counted f e c (decided G s v st w (accepted G s st w c)).answer a) (counted g e c (decided G s v st w (accepted G s st w c)).answer b)
    both_by (Some h) st w (dealing d cs) v e a b r = r
    both_by None st w (dealing d cs) v e a b r = go (leb (st.ledger.epoch + 1) e)
      where
        go : (t : Bool) → R (cond t (f d cs a) a) (cond t (g d cs b) b)
        go true = keep d cs a b (dealing_proper G L s st (length w) d cs v) r
        go false = r
    both_by v st w (revoking h) p e a b r = r
    both_by v st w (repairing h hs) p e a b r = r
    both_by v st w (opening hs) p e a b r = r

    pub gathered_both : (xs : List (Request C)) (st : State C) (e : ℕ) (a : A) (b : B) → R a b → R (gathered f e a (trace G s st xs)) (gathered g e b (trace G s st xs))
    gathered_both [] st e a b r = r
    gathered_both (x ∷ xs) st e a b r = gathered_both xs (outcome G s st x).state e _ _ (both_by (fault G s st (length x.working) x.call) st x.working x.call refl e a b r)
