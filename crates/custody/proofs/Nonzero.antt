-- The first element of a tuple that is not zero, past the one at 0.
use Rattle.std.proofs.Common.{◌≡◌, ℕ, zero, suc, ◌+◌, ◌-◌, ◌<◌, Bool, true, false, not, T, List, length, get_or, drop, Some, None, Option, sym, ap, ◌∙◌, subst, not-suc-le-zero, arith, MatchOption}
use Rattle.std.specs.List.{AllWithin, HoldsAt}
use Rattle.std.specs.Option.{option_map}
use Rattle.std.proofs.lemmas.List.{get_or_default, get_or-drop, length-drop}
use Rattle.algebra.specs.Group.{GroupOps, GroupLaws}
use Rattle.algebra.specs.Tuples.{all_valid, nonzero_at}
use Rattle.algebra.specs.Valid.{valid_read}
use Rattle.algebra.specs.Rows.{first_place}
use Rattle.laws.proofs.Verdicts.{nowhere_from}

-- the first place at which the test holds is j places on
first_at : (p : ℕ → Bool) (i j n : ℕ) → j < n → p (i + j) ≡ true → ((k : ℕ) → k < j → p (i + k) ≡ false) → Some (i + j) ≡ first_place p i n
first_at p i j zero l e h = absurd (not-suc-le-zero l)
first_at p i zero (suc n) l e h = let a : i + 0 ≡ i = omega arith in cc
first_at p i (suc j) (suc n) l e h =
    let a : i + 0 ≡ i = omega arith in
    let b : i + 1 + j ≡ i + suc j = omega arith in
    let f : p (i + 0) ≡ false = h 0 (omega arith) in
    let g : Some (i + 1 + j) ≡ first_place p (i + 1) n = first_at p (i + 1) j n (omega arith) (ap p b ∙ e) (λ k m. let c : i + 1 + k ≡ i + suc k = omega arith in ap p c ∙ h (suc k) (omega arith)) in
    cc

module _ {C : Type 0} (G : GroupOps C) (L : GroupLaws G) (m : List C) (z : C) where
  -- what an element's comparison with the zero that was read answers
  abbrev pub Differs : Bool → C → Type 0
  Differs b x = T (G.valid x) → T (G.valid z) → not (G.same x z) ≡ b

  module _ (zero : z ≡ G.zero) (p : T (all_valid G m)) where
    differs_at : (b : Bool) (k : ℕ) → k < length (drop 1 m) → HoldsAt (Differs b) (drop 1 m) k → nonzero_at G m (1 + k) ≡ b
    differs_at b k l h =
        let i : 1 + k < length m = omega (arith, length-drop 1 m) in
        let x : C = get_or m (1 + k) G.zero in
        let e : get_or (drop 1 m) k G.zero ≡ x = get_or-drop 1 m k G.zero in
        ap (λ (y : C). not (G.same x y)) (sym zero)
        ∙ subst (λ (y : C). T (G.valid y) → T (G.valid z) → not (G.same y z) ≡ b) e (h G.zero)
        (valid_read G m (1 + k) x i (get_or_default m (1 + k) G.zero x i) p) (subst (λ (y : C). T (G.valid y)) (sym zero) L.zero_valid)

    pub first_nonzero : (r : Option ℕ) → MatchOption r (AllWithin (Differs false) (drop 1 m) 0 (length (drop 1 m))) (λ i. (i < length (drop 1 m)) × HoldsAt (Differs true) (drop 1 m) i × AllWithin (Differs false) (drop 1 m) 0 i)
        → option_map (λ i. i + 1) r ≡ first_place (nonzero_at G m) 1 (length m - 1)
    first_nonzero None h =
        sym (nowhere_from (nonzero_at G m) 1 (length m - 1)
        (λ j a b. let e : 1 + (j - 1) ≡ j = omega arith in
        ap (nonzero_at G m) (sym e) ∙ differs_at false (j - 1) (omega (arith, length-drop 1 m)) (λ d. h (j - 1) d (omega arith) (omega (arith, length-drop 1 m)))))
    first_nonzero (Some i) h =
        let e : i + 1 ≡ 1 + i = omega arith in
        ap Some e ∙ first_at (nonzero_at G m) 1 i (length m - 1) (omega (arith, h.0, length-drop 1 m)) (differs_at true i h.0 h.1)
        (λ k l. differs_at false k (omega (arith, h.0)) (λ d. h.2 k d (omega arith) l))
