-- What is valid stays so.
use Rattle.std.specs.Prelude.{◌≡◌, ℕ, zero, suc, ◌<◌, Bool, true, false, T, List, [], ◌∷◌, ◌++◌, length, slice_index_or, refl}
use Rattle.std.proofs.Common.{sym, ap, subst, le_of_suc-le-suc, not-suc-le-zero}
use Rattle.std.proofs.Math.Nat.{suc_inj}
use Rattle.algebra.specs.Group.{GroupOps, GroupLaws}
use Rattle.algebra.specs.Tuples.{both, all_valid, tuple_zero, tuple_plus, tuple_minus, last, moved, times_x}

pub both_left : (a b : Bool) → T (both a b) → T a
both_left true b h = tt
both_left false b h = h

pub both_right : (a b : Bool) → T (both a b) → T b
both_right true b h = h
both_right false b h = absurd h

pub both_of : (a b : Bool) → T a → T b → T (both a b)
both_of true b h k = k
both_of false b h k = h

module _ {C : Type 0} (G : GroupOps C) where
  pub head_valid : (x : C) (xs : List C) → T (all_valid G (x ∷ xs)) → T (G.valid x)
  head_valid x xs h = both_left (G.valid x) (all_valid G xs) h

  pub tail_valid : (x : C) (xs : List C) → T (all_valid G (x ∷ xs)) → T (all_valid G xs)
  tail_valid x xs h = both_right (G.valid x) (all_valid G xs) h

  pub cons_valid : (x : C) (xs : List C) → T (G.valid x) → T (all_valid G xs) → T (all_valid G (x ∷ xs))
  cons_valid x xs h k = both_of (G.valid x) (all_valid G xs) h k

  pub append_valid : (xs ys : List C) → T (all_valid G xs) → T (all_valid G ys) → T (all_valid G (xs ++ ys))
  append_valid [] ys h k = k
  append_valid (x ∷ xs) ys h k = cons_valid x (xs ++ ys) (head_valid x xs h) (append_valid xs ys (tail_valid x xs h) k)

  pub valid_at : (xs : List C) (i : ℕ) (d : C) → i < length xs → T (all_valid G xs) → T (G.valid (slice_index_or xs i d))
  valid_at [] i d l h = absurd (not-suc-le-zero l)
  valid_at (x ∷ xs) zero d l h = head_valid x xs h
  valid_at (x ∷ xs) (suc i) d l h = valid_at xs i d (le_of_suc-le-suc l) (tail_valid x xs h)

  -- the element that was read at i
  pub valid_read : (xs : List C) (i : ℕ) (x : C) → i < length xs → x ≡ slice_index_or xs i x → T (all_valid G xs) → T (G.valid x)
  valid_read xs i x l e h = subst (λ (y : C). T (G.valid y)) (sym e) (valid_at xs i x l h)

  pub last_valid : (x : C) (xs : List C) → T (G.valid x) → T (all_valid G xs) → T (G.valid (last x xs))
  last_valid x [] h k = h
  last_valid x (y ∷ ys) h k = last_valid y ys (head_valid y ys k) (tail_valid y ys k)

module _ {C : Type 0} (G : GroupOps C) (L : GroupLaws G) where
  pub less_valid : (a b : C) → T (G.valid a) → T (G.valid b) → T (G.valid (G.plus a (G.minus b)))
  less_valid a b h k = L.plus_valid a (G.minus b) h (L.minus_valid b k)

  pub zero_tuple_valid : (n : ℕ) → T (all_valid G (tuple_zero G n))
  zero_tuple_valid zero = tt
  zero_tuple_valid (suc n) = cons_valid G G.zero (tuple_zero G n) L.zero_valid (zero_tuple_valid n)

  pub plus_tuple_valid : (xs ys : List C) → T (all_valid G xs) → T (all_valid G ys) → T (all_valid G (tuple_plus G xs ys))
  plus_tuple_valid [] ys h k = tt
  plus_tuple_valid (x ∷ xs) [] h k = tt
  plus_tuple_valid (x ∷ xs) (y ∷ ys) h k =
      cons_valid G (G.plus x y) (tuple_plus G xs ys) (L.plus_valid x y (head_valid G x xs h) (head_valid G y ys k))
      (plus_tuple_valid xs ys (tail_valid G x xs h) (tail_valid G y ys k))

  pub minus_tuple_valid : (xs : List C) → T (all_valid G xs) → T (all_valid G (tuple_minus G xs))
  minus_tuple_valid [] h = tt
  minus_tuple_valid (x ∷ xs) h =
      cons_valid G (G.minus x) (tuple_minus G xs) (L.minus_valid x (head_valid G x xs h)) (minus_tuple_valid xs (tail_valid G x xs h))

  pub moved_valid : (c a : C) (xs : List C) → T (G.valid c) → T (G.valid a) → T (all_valid G xs) → T (all_valid G (moved G c a xs))
  moved_valid c a [] p q h = tt
  moved_valid c a (y ∷ ys) p q h =
      cons_valid G (G.plus a (G.minus c)) (moved G c y ys) (less_valid a c q p)
      (moved_valid c y ys p (head_valid G y ys h) (tail_valid G y ys h))

  pub times_x_valid : (xs : List C) → T (all_valid G xs) → T (all_valid G (times_x G xs))
  times_x_valid [] h = tt
  times_x_valid (x ∷ xs) h =
      let p : T (G.valid x) = head_valid G x xs h in
      let q : T (all_valid G xs) = tail_valid G x xs h in
      let r : T (G.valid (last x xs)) = last_valid G x xs p q in
      cons_valid G (G.minus (last x xs)) (moved G (last x xs) x xs) (L.minus_valid (last x xs) r) (moved_valid (last x xs) x xs r p q)

module _ {C : Type 0} (G : GroupOps C) where
  pub length_plus : (xs ys : List C) → length ys ≡ length xs → length (tuple_plus G xs ys) ≡ length xs
  length_plus [] ys e = refl
  length_plus (x ∷ xs) [] e = e
  length_plus (x ∷ xs) (y ∷ ys) e = ap suc (length_plus xs ys (suc_inj e))

  pub length_minus : (xs : List C) → length (tuple_minus G xs) ≡ length xs
  length_minus [] = refl
  length_minus (x ∷ xs) = ap suc (length_minus xs)

  pub length_moved : (c a : C) (xs : List C) → length (moved G c a xs) ≡ length xs
  length_moved c a [] = refl
  length_moved c a (y ∷ ys) = ap suc (length_moved c y ys)

  pub length_times_x : (xs : List C) → length (times_x G xs) ≡ length xs
  length_times_x [] = refl
  length_times_x (x ∷ xs) = ap suc (length_moved (last x xs) x xs)
