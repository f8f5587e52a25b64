-- Rows of a long list: what a write to one leaves.
use Rattle.std.proofs.Common.{◌≡◌, ℕ, zero, suc, ◌+◌, ◌-◌, ◌*◌, ◌<◌, ◌≤◌, T, List, [], ◌∷◌, ◌++◌, length, get_or, take, drop, set, sym, refl, ap, ◌∙◌, le_refl, le_of_suc-le-suc, not-suc-le-zero, suc-mul, zero-add, zero-mul, arith}
use Rattle.std.proofs.lemmas.Nat.{mul-le}
use borrow.Rule.Slice.PartMut.{put_mid}
use Rattle.std.proofs.lemmas.List.{drop-drop, drop-take, take_at, drop_at, take-append-le, take-take, drop-append-le, length-take-le, length-drop, take-append-drop, nil_from_length}
use Rattle.algebra.specs.Group.{GroupOps}
use Rattle.algebra.specs.Tuples.{all_valid}
use Rattle.algebra.specs.Valid.{head_valid, tail_valid, cons_valid}
use Rattle.algebra.specs.Rows.{rows, row_at, put_row, flat}

module _ {X : Type 0} where
  pub part_row : (w a : ℕ) (xs : List X) → take (a + w - a) (drop a xs) ≡ take w (drop a xs)
  part_row w a xs = let e : a + w - a ≡ w = omega arith in ap (λ (k : ℕ). take k (drop a xs)) e

  pub put_part : (w a : ℕ) (xs ys : List X) → put_mid a (a + w - a) xs ys ≡ take a xs ++ (ys ++ drop (a + w) xs)
  put_part w a xs ys =
      let e : a + w - a ≡ w = omega arith in
      ap (λ (k : ℕ). put_mid a k xs ys) e ∙ ap (λ (d : List X). take a xs ++ (ys ++ d)) (drop-drop w a xs)

module _ {C : Type 0} (G : GroupOps C) where
  pub take_valid : (n : ℕ) (xs : List C) → T (all_valid G xs) → T (all_valid G (take n xs))
  take_valid zero xs h = tt
  take_valid (suc n) [] h = tt
  take_valid (suc n) (x ∷ xs) h = cons_valid G x (take n xs) (head_valid G x xs h) (take_valid n xs (tail_valid G x xs h))

  pub drop_valid : (n : ℕ) (xs : List C) → T (all_valid G xs) → T (all_valid G (drop n xs))
  drop_valid zero xs h = h
  drop_valid (suc n) [] h = tt
  drop_valid (suc n) (x ∷ xs) h = drop_valid n xs (tail_valid G x xs h)

  pub part_valid : (n a : ℕ) (xs : List C) → T (all_valid G xs) → T (all_valid G (take n (drop a xs)))
  part_valid n a xs h = take_valid n (drop a xs) (drop_valid a xs h)

pub row_end : (h n w : ℕ) → h < n → h * w + w ≤ n * w
row_end h n w l = rw suc-mul at (mul-le (suc h) w n w l (le_refl w))

-- the row before j ends within j rows or more
pub row_before : (j n w : ℕ) → 0 < j → j ≤ n → (j - 1) * w + w ≤ n * w
row_before j n w p l = let k : j - 1 < n = omega arith in row_end (j - 1) n w k

module _ {X : Type 0} where
  pub length_rows : (w n : ℕ) (xs : List X) → length (rows w n xs) ≡ n
  length_rows w zero xs = refl
  length_rows w (suc n) xs = ap suc (length_rows w n (drop w xs))

  pub get_or_rows : (w n h : ℕ) (xs d : List X) → h < n → get_or (rows w n xs) h d ≡ row_at w h xs
  get_or_rows w zero h xs d l = absurd (not-suc-le-zero l)
  get_or_rows w (suc n) zero xs d l = ap (λ (k : ℕ). take w (drop k xs)) (sym (zero-mul w))
  get_or_rows w (suc n) (suc h) xs d l =
      let e : w + h * w ≡ suc h * w = omega (arith, suc-mul h w) in
      get_or_rows w n h (drop w xs) d (le_of_suc-le-suc l) ∙ ap (take w) (drop-drop (h * w) w xs) ∙ ap (λ (k : ℕ). take w (drop k xs)) e

module _ {X : Type 0} where
  pub put_own : (w h : ℕ) (xs : List X) → put_row w h (row_at w h xs) xs ≡ xs
  put_own w h xs =
      ap (λ (d : List X). take (h * w) xs ++ (row_at w h xs ++ d)) (sym (drop-drop w (h * w) xs))
      ∙ ap (λ (d : List X). take (h * w) xs ++ d) (take-append-drop w (drop (h * w) xs))
      ∙ take-append-drop (h * w) xs

  put_first : (w : ℕ) (ys xs : List X) → put_row w 0 ys xs ≡ ys ++ drop w xs
  put_first w ys xs = let e : 0 * w + w ≡ w = omega (arith, zero-mul w) in rw (zero-mul w, zero-add w)

  -- a row is written
  pub rows_put : (w n h : ℕ) (ys xs : List X) → h < n → length ys ≡ w → n * w ≤ length xs → rows w n (put_row w h ys xs) ≡ set (rows w n xs) h ys
  rows_put w zero h ys xs l e f = absurd (not-suc-le-zero l)
  rows_put w (suc n) zero ys xs l e f =
      ap (rows w (suc n)) (put_first w ys xs)
      ∙ ap (λ (r : List X). r ∷ rows w n (drop w (ys ++ drop w xs))) (take_at ys (drop w xs) w e)
      ∙ ap (λ (r : List X). ys ∷ rows w n r) (drop_at ys (drop w xs) w e)
  rows_put w (suc n) (suc h) ys xs l e f =
      let a : suc h * w ≡ w + h * w = omega (arith, suc-mul h w) in
      let l' : h < n = le_of_suc-le-suc l in
      let m : h * w + w ≤ n * w = row_end h n w l' in
      let m' : suc n * w ≡ n * w + w = suc-mul n w in
      let le : w + h * w ≤ length xs = omega arith in
      let lt : length (take (w + h * w) xs) ≡ w + h * w = length-take-le (w + h * w) xs le in
      let wt : w ≤ length (take (w + h * w) xs) = omega arith in
      let ww : w ≤ w + h * w = omega arith in
      let ld : n * w ≤ length (drop w xs) = omega (arith, length-drop w xs) in
      let s : w + h * w + w ≡ w + (h * w + w) = omega arith in
      let tail : List X = ys ++ drop (w + h * w + w) xs in
      let head : take w (take (w + h * w) xs ++ tail) ≡ take w xs = take-append-le w (take (w + h * w) xs) tail wt ∙ take-take w (w + h * w) xs ww in
      let rest : drop w (take (w + h * w) xs ++ tail) ≡ put_row w h ys (drop w xs) =
      drop-append-le w (take (w + h * w) xs) tail wt
      ∙ ap (λ (t : List X). t ++ tail) (drop-take w (h * w) xs)
      ∙ ap (λ (t : List X). take (h * w) (drop w xs) ++ (ys ++ t)) (ap (λ (k : ℕ). drop k xs) s ∙ sym (drop-drop (h * w + w) w xs)) in
      ap (λ (k : ℕ). rows w (suc n) (take k xs ++ (ys ++ drop (k + w) xs))) a
      ∙ ap (λ (r : List X). r ∷ rows w n (drop w (take (w + h * w) xs ++ tail))) head
      ∙ ap (λ (r : List X). take w xs ∷ rows w n r) rest
      ∙ ap (λ (rs : List (List X)). take w xs ∷ rs) (rows_put w n h ys (drop w xs) l' e ld)

  pub flat_rows : (w n : ℕ) (xs : List X) → length xs ≡ n * w → flat (rows w n xs) ≡ xs
  flat_rows w zero xs e = sym (nil_from_length xs (e ∙ zero-mul w))
  flat_rows w (suc n) xs e =
      let d : length (drop w xs) ≡ n * w = omega (arith, length-drop w xs, suc-mul n w) in
      ap (λ (t : List X). take w xs ++ t) (flat_rows w n (drop w xs) d) ∙ take-append-drop w xs
