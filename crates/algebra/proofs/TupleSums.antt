-- What the laws of a commutative group give, on valid elements and on tuples of them.
use Rattle.std.proofs.Common.{◌≡◌, ℕ, zero, suc, T, List, [], ◌∷◌, ◌++◌, length, replicate, sym, refl, ap, ◌∙◌, suc-ne-zero}
use native.Mathlib.Nat.{suc_inj}
use Rattle.algebra.specs.Group.{GroupOps, GroupLaws}
use Rattle.algebra.specs.Tuples.{all_valid, tuple_zero, tuple_plus, tuple_minus, last, moved, times_x}
use Rattle.algebra.specs.Valid.{head_valid, tail_valid, last_valid}

module _ {C : Type 0} (G : GroupOps C) (L : GroupLaws G) where
  pub zero_plus : (a : C) → T (G.valid a) → G.plus G.zero a ≡ a
  zero_plus a h = L.plus_comm G.zero a L.zero_valid h ∙ L.plus_zero a h

  pub minus_zero : G.minus G.zero ≡ G.zero
  minus_zero = sym (zero_plus (G.minus G.zero) (L.minus_valid G.zero L.zero_valid)) ∙ L.plus_minus G.zero L.zero_valid

  pub less_zero : (a : C) → T (G.valid a) → G.plus a (G.minus G.zero) ≡ a
  less_zero a h = ap (G.plus a) minus_zero ∙ L.plus_zero a h

  -- (a + b) + (c + d) = (a + c) + (b + d)
  pub exchange : (a b c d : C) → T (G.valid a) → T (G.valid b) → T (G.valid c) → T (G.valid d) → G.plus (G.plus a b) (G.plus c d) ≡ G.plus (G.plus a c) (G.plus b d)
  exchange a b c d p q r s =
      let cd : T (G.valid (G.plus c d)) = L.plus_valid c d r s in
      let bd : T (G.valid (G.plus b d)) = L.plus_valid b d q s in
      L.plus_assoc a b (G.plus c d) p q cd
      ∙ ap (G.plus a) (sym (L.plus_assoc b c d q r s) ∙ ap (λ (z : C). G.plus z d) (L.plus_comm b c q r) ∙ L.plus_assoc c b d r q s)
      ∙ sym (L.plus_assoc a c (G.plus b d) p r bd)

  -- a number that brings a to zero is its negative
  pub minus_unique : (a b : C) → T (G.valid a) → T (G.valid b) → G.plus a b ≡ G.zero → b ≡ G.minus a
  minus_unique a b p q e =
      let n : T (G.valid (G.minus a)) = L.minus_valid a p in
      sym (zero_plus b q)
      ∙ ap (λ (z : C). G.plus z b) (sym (L.plus_minus a p) ∙ L.plus_comm a (G.minus a) p n)
      ∙ L.plus_assoc (G.minus a) a b n p q
      ∙ ap (G.plus (G.minus a)) e
      ∙ L.plus_zero (G.minus a) n

  pub minus_plus : (a b : C) → T (G.valid a) → T (G.valid b) → G.minus (G.plus a b) ≡ G.plus (G.minus a) (G.minus b)
  minus_plus a b p q =
      let m : T (G.valid (G.minus a)) = L.minus_valid a p in
      let n : T (G.valid (G.minus b)) = L.minus_valid b q in
      sym (minus_unique (G.plus a b) (G.plus (G.minus a) (G.minus b)) (L.plus_valid a b p q) (L.plus_valid (G.minus a) (G.minus b) m n)
      (exchange a b (G.minus a) (G.minus b) p q m n ∙ ap (λ (z : C). G.plus z (G.plus b (G.minus b))) (L.plus_minus a p) ∙ ap (G.plus G.zero) (L.plus_minus b q) ∙ L.plus_zero G.zero L.zero_valid))

  -- (a + b) - (c + d) = (a - c) + (b - d)
  pub less_plus : (a b c d : C) → T (G.valid a) → T (G.valid b) → T (G.valid c) → T (G.valid d) → G.plus (G.plus a b) (G.minus (G.plus c d)) ≡ G.plus (G.plus a (G.minus c)) (G.plus b (G.minus d))
  less_plus a b c d p q r s =
      ap (G.plus (G.plus a b)) (minus_plus c d r s) ∙ exchange a b (G.minus c) (G.minus d) p q (L.minus_valid c r) (L.minus_valid d s)

  -- the same of tuples
  cons : (x y : C) (xs ys : List C) → x ≡ y → xs ≡ ys → x ∷ xs ≡ y ∷ ys
  cons x y xs ys e f = ap (λ (z : C). z ∷ xs) e ∙ ap (λ (zs : List C). y ∷ zs) f

  pub tuple_comm : (xs ys : List C) → T (all_valid G xs) → T (all_valid G ys) → tuple_plus G xs ys ≡ tuple_plus G ys xs
  tuple_comm [] [] h k = refl
  tuple_comm [] (y ∷ ys) h k = refl
  tuple_comm (x ∷ xs) [] h k = refl
  tuple_comm (x ∷ xs) (y ∷ ys) h k =
      cons _ _ _ _ (L.plus_comm x y (head_valid G x xs h) (head_valid G y ys k)) (tuple_comm xs ys (tail_valid G x xs h) (tail_valid G y ys k))

  pub tuple_assoc : (xs ys zs : List C) → T (all_valid G xs) → T (all_valid G ys) → T (all_valid G zs) → tuple_plus G (tuple_plus G xs ys) zs ≡ tuple_plus G xs (tuple_plus G ys zs)
  tuple_assoc [] ys zs h k l = refl
  tuple_assoc (x ∷ xs) [] zs h k l = refl
  tuple_assoc (x ∷ xs) (y ∷ ys) [] h k l = refl
  tuple_assoc (x ∷ xs) (y ∷ ys) (z ∷ zs) h k l =
      cons _ _ _ _ (L.plus_assoc x y z (head_valid G x xs h) (head_valid G y ys k) (head_valid G z zs l))
      (tuple_assoc xs ys zs (tail_valid G x xs h) (tail_valid G y ys k) (tail_valid G z zs l))

  pub tuple_plus_zero : (xs : List C) → T (all_valid G xs) → tuple_plus G xs (tuple_zero G (length xs)) ≡ xs
  tuple_plus_zero [] h = refl
  tuple_plus_zero (x ∷ xs) h = cons _ _ _ _ (L.plus_zero x (head_valid G x xs h)) (tuple_plus_zero xs (tail_valid G x xs h))

  pub tuple_plus_minus : (xs : List C) → T (all_valid G xs) → tuple_plus G xs (tuple_minus G xs) ≡ tuple_zero G (length xs)
  tuple_plus_minus [] h = refl
  tuple_plus_minus (x ∷ xs) h = cons _ _ _ _ (L.plus_minus x (head_valid G x xs h)) (tuple_plus_minus xs (tail_valid G x xs h))

  last_plus : (x y : C) (xs ys : List C) → length xs ≡ length ys → last (G.plus x y) (tuple_plus G xs ys) ≡ G.plus (last x xs) (last y ys)
  last_plus x y [] [] e = refl
  last_plus x y [] (b ∷ ys) e = absurd (suc-ne-zero (length ys) (sym e))
  last_plus x y (a ∷ xs) [] e = absurd (suc-ne-zero (length xs) e)
  last_plus x y (a ∷ xs) (b ∷ ys) e = last_plus a b xs ys (suc_inj e)

  moved_plus : (c d x y : C) (xs ys : List C) → length xs ≡ length ys → T (G.valid c) → T (G.valid d) → T (G.valid x) → T (G.valid y) → T (all_valid G xs) → T (all_valid G ys) → moved G (G.plus c d) (G.plus x y) (tuple_plus G xs ys) ≡ tuple_plus G (moved G c x xs) (moved G d y ys)
  moved_plus c d x y [] ys e p q r s h k = refl
  moved_plus c d x y (a ∷ xs) [] e p q r s h k = absurd (suc-ne-zero (length xs) e)
  moved_plus c d x y (a ∷ xs) (b ∷ ys) e p q r s h k =
      cons _ _ _ _ (less_plus x y c d r s p q)
      (moved_plus c d a b xs ys (suc_inj e) p q (head_valid G a xs h) (head_valid G b ys k) (tail_valid G a xs h) (tail_valid G b ys k))

  pub times_x_plus : (xs ys : List C) → length xs ≡ length ys → T (all_valid G xs) → T (all_valid G ys) → times_x G (tuple_plus G xs ys) ≡ tuple_plus G (times_x G xs) (times_x G ys)
  times_x_plus [] ys e h k = refl
  times_x_plus (x ∷ xs) [] e h k = refl
  times_x_plus (x ∷ xs) (y ∷ ys) e h k =
      let hx : T (G.valid x) = head_valid G x xs h in
      let hy : T (G.valid y) = head_valid G y ys k in
      let tx : T (all_valid G xs) = tail_valid G x xs h in
      let ty : T (all_valid G ys) = tail_valid G y ys k in
      let lx : T (G.valid (last x xs)) = last_valid G x xs hx tx in
      let ly : T (G.valid (last y ys)) = last_valid G y ys hy ty in
      ap (λ (z : C). G.minus z ∷ moved G z (G.plus x y) (tuple_plus G xs ys)) (last_plus x y xs ys (suc_inj e))
      ∙ cons _ _ _ _ (minus_plus (last x xs) (last y ys) lx ly) (moved_plus (last x xs) (last y ys) x y xs ys (suc_inj e) lx ly hx hy tx ty)

  -- where the last is zero, x moves the others one place on
  last_push : (x a : C) (xs : List C) → last x (xs ++ (a ∷ [])) ≡ a
  last_push x a [] = refl
  last_push x a (y ∷ ys) = last_push y a ys

  moved_zero : (x a : C) (xs : List C) → T (G.valid x) → T (all_valid G xs) → moved G G.zero x (xs ++ (a ∷ [])) ≡ x ∷ xs
  moved_zero x a [] h k = cons _ _ _ _ (less_zero x h) refl
  moved_zero x a (y ∷ ys) h k = cons _ _ _ _ (less_zero x h) (moved_zero y a ys (head_valid G y ys k) (tail_valid G y ys k))

  pub times_x_push : (xs : List C) → T (all_valid G xs) → times_x G (xs ++ (G.zero ∷ [])) ≡ G.zero ∷ xs
  times_x_push [] h = cons _ _ _ _ minus_zero refl
  times_x_push (x ∷ xs) h =
      ap (λ (z : C). G.minus z ∷ moved G z x (xs ++ (G.zero ∷ []))) (last_push x G.zero xs)
      ∙ cons _ _ _ _ minus_zero (moved_zero x G.zero xs (head_valid G x xs h) (tail_valid G x xs h))

  -- x times (c, …, c) is (-c, 0, …, 0)
  last_same : (c : C) (n : ℕ) → last c (replicate n c) ≡ c
  last_same c zero = refl
  last_same c (suc n) = last_same c n

  moved_same : (c : C) (n : ℕ) → T (G.valid c) → moved G c c (replicate n c) ≡ tuple_zero G n
  moved_same c zero h = refl
  moved_same c (suc n) h = cons _ _ _ _ (L.plus_minus c h) (moved_same c n h)

  pub times_x_same : (c : C) (n : ℕ) → T (G.valid c) → times_x G (replicate (suc n) c) ≡ G.minus c ∷ tuple_zero G n
  times_x_same c n h =
      ap (λ (z : C). G.minus z ∷ moved G z c (replicate n c)) (last_same c n) ∙ ap (λ (zs : List C). G.minus c ∷ zs) (moved_same c n h)
