-- Rows of the share memory: of a list made of rows, and after a write to one.
use Rattle.std.proofs.Common.{◌≡◌, ℕ, ◌+◌, ◌-◌, ◌*◌, ◌<◌, ◌≤◌, T, List, [], ◌∷◌, length, get_or, take, drop, set, replicate, sym, refl, ap, ◌∙◌, ap₂, suc-mul, zero-mul, arith, length-append}
use Rattle.std.specs.List.{AllByRecursion}
use Rattle.std.proofs.ByRecursion.{All-weaker}
use Rattle.std.proofs.lemmas.List.{take_at, drop_at, length-take-le, length-drop, get_or-set_same, get_or-set_other, take-replicate, drop-replicate}
use Rattle.algebra.specs.Group.{GroupOps}
use Rattle.algebra.specs.Tuples.{all_valid, ok}
use Rattle.algebra.specs.Valid.{append_valid}
use Rattle.algebra.specs.Space.{ok_length, ok_valid}
use Rattle.algebra.specs.Rows.{rows, row_at, put_row, flat}
use Rattle.algebra.proofs.RowLists.{get_or_rows, rows_put, length_rows, row_end}

module _ {X : Type 0} (w : ℕ) where
  pub rows_flat : (rs : List (List X)) → AllByRecursion (λ r. length r ≡ w) rs → rows w (length rs) (flat rs) ≡ rs
  rows_flat [] h = refl
  rows_flat (r ∷ rs) h =
      ap₂ (λ a b. a ∷ rows w (length rs) b) (take_at r (flat rs) w h.0) (drop_at r (flat rs) w h.0) ∙ ap (λ b. r ∷ b) (rows_flat rs h.1)

  pub length_flat : (rs : List (List X)) → AllByRecursion (λ r. length r ≡ w) rs → length (flat rs) ≡ length rs * w
  length_flat [] h = sym (zero-mul w)
  length_flat (r ∷ rs) h = omega (arith, length-append r (flat rs), length_flat rs h.1, h.0, suc-mul (length rs) w)

  row_put : (n i j : ℕ) (ys xs : List X) → i < n → j < n → length ys ≡ w → length xs ≡ n * w → row_at w i (put_row w j ys xs) ≡ get_or (set (rows w n xs) j ys) i []
  row_put n i j ys xs k l e f = sym (get_or_rows w n i _ [] k) ∙ ap (λ r. get_or r i []) (rows_put w n j ys xs l e (omega arith))

  pub row_put_same : (n j : ℕ) (ys xs : List X) → j < n → length ys ≡ w → length xs ≡ n * w → row_at w j (put_row w j ys xs) ≡ ys
  row_put_same n j ys xs l e f = row_put n j j ys xs l l e f ∙ get_or-set_same (rows w n xs) j ys [] (omega (arith, length_rows w n xs))

  pub row_put_other : (n i j : ℕ) (ys xs : List X) → i < n → j < n → (i ≡ j → ⊥) → length ys ≡ w → length xs ≡ n * w → row_at w i (put_row w j ys xs) ≡ row_at w i xs
  row_put_other n i j ys xs k l d e f = row_put n i j ys xs k l e f ∙ get_or-set_other (rows w n xs) j i ys [] d ∙ get_or_rows w n i xs [] k

  pub length_put : (n j : ℕ) (ys xs : List X) → j < n → length ys ≡ w → length xs ≡ n * w → length (put_row w j ys xs) ≡ n * w
  length_put n j ys xs l e f =
      let m : j * w + w ≤ n * w = row_end j n w l in
      let a : length (take (j * w) xs) ≡ j * w = length-take-le (j * w) xs (omega arith) in
      let b : length (drop (j * w + w) xs) ≡ length xs - (j * w + w) = length-drop (j * w + w) xs in
      simp length-append (omega arith)

  pub row_replicate : (n i : ℕ) (x : X) → i < n → row_at w i (replicate (n * w) x) ≡ replicate w x
  row_replicate n i x l =
      let m : i * w + w ≤ n * w = row_end i n w l in
      ap (take w) (drop-replicate (i * w) (n * w) x) ∙ take-replicate w (n * w - i * w) x (omega arith)

module _ {C : Type 0} (G : GroupOps C) (w : ℕ) where
  all_lengths : (rs : List (List C)) → AllByRecursion (λ r. T (ok G w r)) rs → AllByRecursion (λ r. length r ≡ w) rs
  all_lengths rs h = All-weaker (λ r. T (ok G w r)) (λ r. length r ≡ w) (λ r k. ok_length G w r k) rs h

  pub flat_rows_are : (rs : List (List C)) → AllByRecursion (λ r. T (ok G w r)) rs → rows w (length rs) (flat rs) ≡ rs
  flat_rows_are rs h = rows_flat w rs (all_lengths rs h)

  pub row_flat : (rs : List (List C)) → AllByRecursion (λ r. T (ok G w r)) rs → (i : ℕ) → i < length rs → row_at w i (flat rs) ≡ get_or rs i []
  row_flat rs h i l = sym (get_or_rows w (length rs) i (flat rs) [] l) ∙ ap (λ r. get_or r i []) (flat_rows_are rs h)

  pub flat_long : (rs : List (List C)) → AllByRecursion (λ r. T (ok G w r)) rs → length (flat rs) ≡ length rs * w
  flat_long rs h = length_flat w rs (all_lengths rs h)

  pub flat_valid : (rs : List (List C)) → AllByRecursion (λ r. T (ok G w r)) rs → T (all_valid G (flat rs))
  flat_valid [] h = tt
  flat_valid (r ∷ rs) h = append_valid G r (flat rs) (ok_valid G w r h.0) (flat_valid rs h.1)
