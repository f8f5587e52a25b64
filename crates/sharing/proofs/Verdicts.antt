-- What is known where no row of a table applies, and where one does.
use Rattle.std.proofs.Common.{◌≡◌, ℕ, ◌+◌, ◌<◌, Bool, true, false, not, eqb, List, [], ◌∷◌, ◌++◌, Some, None, Ok, Err, Option, Result, refl, ap, ◌∙◌, subst, arith}
use Rattle.std.proofs.lemmas.Bool.{not-false, eqb-true, eq-eqb}
use Rattle.algebra.specs.Rows.{first_place}
use Rattle.algebra.proofs.Places.{nowhere}
use Rattle.sharing.specs.Verdicts.{row, located, length_row, first, verdict}

never : {X : Type 0} {x : X} → ◌≡◌ {A = Option X} (Some x) None → ⊥
never e = let z : ◌≡◌ {A = ℕ} 0 1 = cc in omega arith

pub fails_everywhere : (p : ℕ → Bool) (n : ℕ) → first_place p 0 n ≡ None → (k : ℕ) → k < n → p k ≡ false
fails_everywhere p n e k l = let a : 0 + k ≡ k = omega arith in subst (λ (j : ℕ). p j ≡ false) a (nowhere p 0 n k e l)

module _ {F : Type 0} where
  pub verdict_ok : (o : Option F) → verdict o ≡ Ok tt → o ≡ None
  verdict_ok None e = refl
  verdict_ok (Some f) e = let z : ◌≡◌ {A = ℕ} 0 1 = cc in absurd (omega arith)

  pub verdict_err : (o : Option F) (f : F) → verdict o ≡ Err f → o ≡ Some f
  verdict_err None f e = let z : ◌≡◌ {A = ℕ} 0 1 = cc in absurd (omega arith)
  verdict_err (Some g) f e = cc

  pub first_none : (o : Option F) (os : List (Option F)) → first (o ∷ os) ≡ None → (o ≡ None) × (first os ≡ None)
  first_none None os e = (refl, e)
  first_none (Some f) os e = absurd (never e)

  -- rows after rows
  pub both_none : (os bs : List (Option F)) → first (os ++ bs) ≡ None → (first os ≡ None) × (first bs ≡ None)
  both_none [] bs e = (refl, e)
  both_none (None ∷ os) bs e = both_none os bs e
  both_none (Some f ∷ os) bs e = absurd (never e)

  -- the second of two checks goes on where the first found nothing
  pub then_refused : (os bs : List (Option F)) (f : F) → Err f ≡ verdict (first os) → Err f ≡ verdict (first (os ++ bs))
  then_refused [] bs f e = let z : ◌≡◌ {A = ℕ} 0 1 = cc in absurd (omega arith)
  then_refused (None ∷ os) bs f e = then_refused os bs f e
  then_refused (Some g ∷ os) bs f e = e

  pub then_checked : (os bs : List (Option F)) (r : Result (Unit {0}) F) → Ok tt ≡ verdict (first os) → r ≡ verdict (first bs) → r ≡ verdict (first (os ++ bs))
  then_checked [] bs r e f = f
  then_checked (None ∷ os) bs r e f = then_checked os bs r e f
  then_checked (Some g ∷ os) bs r e f = let z : ◌≡◌ {A = ℕ} 0 1 = cc in absurd (omega arith)

  pub row_none : (b : Bool) (f : F) → row b f ≡ None → b ≡ false
  row_none true f e = absurd (never e)
  row_none false f e = refl

  pub length_none : (f : ℕ → F) (right len : ℕ) → length_row f right len ≡ None → len ≡ right
  length_none f right len e = eqb-true len right (not-false (eqb len right) (row_none (not (eqb len right)) (f right) e))

  pub located_none : (f : ℕ → F) (o : Option ℕ) → located f o ≡ None → o ≡ None
  located_none f None e = refl
  located_none f (Some i) e = absurd (never e)

  -- the test of a row that found no place fails everywhere
  pub everywhere : (p : ℕ → Bool) (f : ℕ → F) (n : ℕ) → located f (first_place p 0 n) ≡ None → (k : ℕ) → k < n → p k ≡ false
  everywhere p f n e = fails_everywhere p n (located_none f (first_place p 0 n) e)

  -- rows that do not apply
  pub length_fits : (f : ℕ → F) (right len : ℕ) → len ≡ right → length_row f right len ≡ None
  length_fits f right len e = ap (λ (b : Bool). row (not b) (f right)) (eq-eqb len right e)

  pub row_passes : (b : Bool) (f : F) → b ≡ false → row b f ≡ None
  row_passes b f e = ap (λ (c : Bool). row c f) e

  pub first_passes : (o : Option F) (os : List (Option F)) → o ≡ None → first os ≡ None → first (o ∷ os) ≡ None
  first_passes o os e f = ap (λ (p : Option F). first (p ∷ os)) e ∙ f
