-- What the library's `position` and `find` answer, as the first place at which a test holds.
use Rattle.std.proofs.Common.{◌≡◌, ℕ, zero, suc, ◌+◌, ◌<◌, Bool, cond, List, [], ◌∷◌, length, get_or, Some, Option, sym, refl, ap, ap₂, ◌∙◌, add-zero, arith}
use Rattle.std.specs.List.{position, position_from, find, range_with_len}
use Rattle.std.specs.Option.{option_map}
use Rattle.std.proofs.lemmas.Iterator.Adapters.{position_from-zero, option_map_id}
use Rattle.algebra.specs.Rows.{first_place}

-- a test of elements, and the same test at places
module _ {X : Type 0} (test : X → Bool) (p : ℕ → Bool) where
  place_from : (xs : List X) (i : ℕ) → ((k : ℕ) (d : X) → k < length xs → test (get_or xs k d) ≡ p (i + k)) → position_from test i xs ≡ first_place p i (length xs)
  place_from [] i same = refl
  place_from (x ∷ xs) i same =
      ap₂ (λ (b : Bool) (r : Option ℕ). cond b (Some i) r) (same 0 x (omega arith) ∙ ap p (add-zero i))
      (place_from xs (i + 1) (λ k d l. let e : i + suc k ≡ i + 1 + k = omega arith in same (suc k) d (omega arith) ∙ ap p e))

  pub position_place : (xs : List X) → ((k : ℕ) (d : X) → k < length xs → test (get_or xs k d) ≡ p k) → position test xs ≡ first_place p 0 (length xs)
  position_place xs same = position_from-zero test xs ∙ place_from xs 0 (λ k d l. let e : k ≡ 0 + k = omega arith in same k d l ∙ ap p e)

-- at numbers that are places themselves
find_from : (p : ℕ → Bool) (i n : ℕ) → find p (range_with_len i n) ≡ first_place p i n
find_from p i zero = refl
find_from p i (suc n) = ap (cond (p i) (Some i)) (find_from p (i + 1) n)

pub find_place : (p : ℕ → Bool) (i n : ℕ) (r : Option ℕ) → option_map (λ x. x) r ≡ find p (range_with_len i n) → r ≡ first_place p i n
find_place p i n r e = sym (option_map_id r) ∙ e ∙ find_from p i n
