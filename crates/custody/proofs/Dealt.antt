-- A holder's share after dealing, present or not.
use Rattle.std.proofs.Common.{◌≡◌, ℕ, ◌+◌, ◌-◌, ◌*◌, ◌<◌, ◌≤◌, Bool, true, T, List, length, None, Ok, Err, Option, Result, ap, ◌∙◌, subst, arith, MatchResult}
use Rattle.algebra.specs.Group.{GroupOps, GroupLaws}
use Rattle.algebra.specs.Tuples.{all_valid, ok}
use Rattle.algebra.specs.Space.{ok_length, ok_valid}
use Rattle.algebra.specs.Dealing.{dealt}
use Rattle.algebra.proofs.Dealings.{dealt_ok}
use Rattle.algebra.specs.Rows.{row_at, put_row}
use Rattle.sharing.specs.declared.fault.CabinetFault.{CabinetFault}
use Rattle.sharing.specs.declared.scheme.Scheme.{Scheme}
use Rattle.sharing.specs.declared.shares.Change.{Change}
use Rattle.sharing.specs.Shares.{changed}
use Rattle.sharing.specs.Verdicts.{verdict}
use Rattle.history.specs.declared.ledger.Holder.{Holder}
use Rattle.history.specs.Ledgers.{is_present}
use Rattle.history.specs.Steps.{credited}
use Rattle.history.proofs.SharedOut.{row_credited, Shared, present_at, share_step, share_end}
use Rattle.custody.specs.Dealings.{OfValid, keyed_to, keyed_out}

-- an accepted call was not refused
pub never_refused : {F X : Type 0} (f : F) (x : X) → ◌≡◌ {A = Result X F} (Err f) (Ok x) → ⊥
never_refused f x e = cc

module _ {C : Type 0} (G : GroupOps C) (L : GroupLaws G) (d : Change) (w h : ℕ) (k : C) (cs xs ys after : List C) (b : Bool) where
  pub dealt_present : (Q : CabinetFault → Type 0) (r : Result (Unit {0}) CabinetFault) (o : Option CabinetFault) → o ≡ None → r ≡ verdict o → b ≡ true
      → MatchResult r (λ _. OfValid G xs k cs (after ≡ put_row w h (changed G d (row_at w h xs) ys) xs)) Q
      → MatchResult r (λ _. OfValid G xs k cs (after ≡ put_row w h (credited G d b ys (row_at w h xs)) xs)) (λ _. ⊥)
  dealt_present Q (Ok u) o e v t f = λ p q s. f p q s ∙ row_credited G L d w h xs ys b t
  dealt_present Q (Err x) o e v t f = never_refused x tt (v ∙ ap verdict e)

module _ {C : Type 0} (G : GroupOps C) (L : GroupLaws G) (s : Scheme) (d : Change) (hs : List Holder) (k : C) (cs : List C) where
  abbrev Out : List C → ℕ → List C → Type 0
  Out = Shared G L d (λ i. dealt G (s.q - 1) i k (s.t - 1) cs) (s.q - 1) s.n hs

  -- the holders below this one are dealt to, and then this one too
  pub deal_step : (xs₀ xs after : List C) (holder : ℕ) → 1 ≤ holder → holder ≤ s.n → length xs ≡ s.n * (s.q - 1) → length cs ≡ (s.t - 1) * (s.q - 1)
      → OfValid G xs k cs (after ≡ keyed_to G s d hs holder xs k cs)
      → T (G.valid k) → T (all_valid G cs) → Out xs₀ (holder - 1) xs → Out xs₀ (holder + 1 - 1) after
  deal_step xs₀ xs after holder low high full count deal q r inv =
      let w : ℕ = s.q - 1 in
      let h : ℕ = holder - 1 in
      let wide : 0 < w = omega (arith, s.above, s.allowed) in
      let e : holder ≡ h + 1 = omega arith in
      let next : h + 1 ≡ holder + 1 - 1 = omega arith in
      let c : (s.t - 1) * w ≤ length cs = omega arith in
      let ok : (i : ℕ) → T (ok G w (dealt G w i k (s.t - 1) cs)) = λ i. dealt_ok G L w i (s.t - 1) k cs wide c q r in
      subst (λ (i : ℕ). Out xs₀ i after) next
      (share_step G L d (λ i. dealt G w i k (s.t - 1) cs) w s.n hs
      (λ i. ok_length G w (dealt G w i k (s.t - 1) cs) (ok i)) (λ i. ok_valid G w (dealt G w i k (s.t - 1) cs) (ok i))
      xs₀ xs after h (is_present hs holder) (omega arith) full (present_at hs holder low (omega (arith, s.allowed)))
      (λ p. deal p q r ∙ ap (λ (i : ℕ). put_row w h (credited G d (is_present hs holder) (dealt G w i k (s.t - 1) cs) (row_at w h xs)) xs) e) inv)

  pub deal_end : (xs₀ xs : List C) (h : ℕ) → s.n ≤ h → length xs ≡ s.n * (s.q - 1) → Out xs₀ h xs → xs ≡ keyed_out G s d hs xs₀ k cs
  deal_end = share_end G L d (λ i. dealt G (s.q - 1) i k (s.t - 1) cs) (s.q - 1) s.n hs
