-- What stands at a place of a tuple, and the step of a loop that writes a list place by place.
use Rattle.std.proofs.Common.{◌≡◌, ℕ, zero, suc, ◌+◌, ◌-◌, ◌<◌, ◌≤◌, Bool, true, false, cond, not, T, List, [], ◌∷◌, ◌++◌, length, get_or, take, drop, set, Some, None, Option, sym, refl, ap, ◌∙◌, subst, le_of_suc-le-suc, not-suc-le-zero, add-zero, arith}
use lib.ListN.{get_or-replicate}
use Rattle.std.proofs.lemmas.List.{take_more, take_more_set, drop-set-lt, drop-drop, get_or-drop, get_or_read, take_all}
use Rattle.algebra.specs.Group.{GroupOps}
use Rattle.algebra.specs.Tuples.{all_valid, invalid_at, tuple_zero, tuple_plus, tuple_minus, tuple_less, last, moved}
use Rattle.algebra.specs.Valid.{both_of, length_minus}
use Rattle.algebra.specs.Rows.{first_place}

module _ {X : Type 0} where
  -- one place more of the result rs
  pub take_step : (xs rs : List X) (i : ℕ) (v : X) → i < length xs → i < length rs → take i xs ≡ take i rs → v ≡ get_or rs i v → take (i + 1) (set xs i v) ≡ take (i + 1) rs
  take_step xs rs i v h k e r =
      take_more_set xs i v h ∙ ap (λ (t : List X). t ++ (v ∷ [])) e ∙ ap (λ (w : X). take i rs ++ (w ∷ [])) r ∙ sym (take_more rs i v k)

  -- what is left is as it was
  pub drop_step : (xs ys : List X) (i : ℕ) (v : X) → drop i xs ≡ drop i ys → drop (i + 1) (set xs i v) ≡ drop (i + 1) ys
  drop_step xs ys i v e =
      let l : i < i + 1 = omega arith in
      drop-set-lt (i + 1) xs i v l ∙ sym (drop-drop 1 i xs) ∙ ap (drop 1) e ∙ drop-drop 1 i ys

  pub read_left : (xs ys : List X) (i : ℕ) (x : X) → drop i xs ≡ drop i ys → x ≡ get_or xs i x → x ≡ get_or ys i x
  read_left xs ys i x e r =
      r ∙ sym (ap (λ (k : ℕ). get_or xs k x) (add-zero i)) ∙ sym (get_or-drop i xs 0 x) ∙ ap (λ (t : List X). get_or t 0 x) e ∙ get_or-drop i ys 0 x ∙ ap (λ (k : ℕ). get_or ys k x) (add-zero i)

  -- all places are written
  pub take_end : (xs rs : List X) (i : ℕ) → length xs ≤ i → length rs ≤ i → take i xs ≡ take i rs → xs ≡ rs
  take_end xs rs i h k e = sym (take_all i xs h) ∙ e ∙ take_all i rs k

-- a loop that looks for the first place at which a test holds
module _ (p : ℕ → Bool) (i n : ℕ) (h : i < n) where
  place_step : first_place p i (n - i) ≡ cond (p i) (Some i) (first_place p (i + 1) (n - (i + 1)))
  place_step = let e : n - i ≡ suc (n - (i + 1)) = omega arith in ap (first_place p i) e

  pub place_found : {R : Option ℕ} → p i ≡ true → first_place p i (n - i) ≡ R → Some i ≡ R
  place_found e inv = sym (ap (λ (b : Bool). cond {A = Option ℕ} b (Some i) (first_place p (i + 1) (n - (i + 1)))) e) ∙ sym place_step ∙ inv

  pub place_next : {R : Option ℕ} → p i ≡ false → first_place p i (n - i) ≡ R → first_place p (i + 1) (n - (i + 1)) ≡ R
  place_next e inv = sym (ap (λ (b : Bool). cond {A = Option ℕ} b (Some i) (first_place p (i + 1) (n - (i + 1)))) e) ∙ sym place_step ∙ inv

cond_some : (b : Bool) (i : ℕ) (r : Option ℕ) → cond b (Some i) r ≡ None → (b ≡ false) × (r ≡ None)
cond_some true i r e = let z : ◌≡◌ {A = ℕ} 0 1 = cc in absurd (omega arith)
cond_some false i r e = (refl, e)

-- where there is no such place, the test fails at each
pub nowhere : (p : ℕ → Bool) (i k j : ℕ) → first_place p i k ≡ None → j < k → p (i + j) ≡ false
nowhere p i zero j e l = absurd (not-suc-le-zero l)
nowhere p i (suc k) zero e l = let a : i ≡ i + 0 = omega arith in subst (λ (m : ℕ). p m ≡ false) a (cond_some (p i) i (first_place p (i + 1) k) e).0
nowhere p i (suc k) (suc j) e l =
    let a : i + 1 + j ≡ i + suc j = omega arith in
    subst (λ (m : ℕ). p m ≡ false) a (nowhere p (i + 1) k j (cond_some (p i) i (first_place p (i + 1) k) e).1 (le_of_suc-le-suc l))

-- where no element is invalid, all are valid
pub all_from_nowhere : {C : Type 0} (G : GroupOps C) (xs : List C) → first_place (invalid_at G xs) 0 (length xs) ≡ None → T (all_valid G xs)
all_from_nowhere G xs e = all_from_each G xs (λ k l. let a : 0 + k ≡ k = omega arith in not_invalid (G.valid (get_or xs k G.zero)) (subst (λ (j : ℕ). invalid_at G xs j ≡ false) a (nowhere (invalid_at G xs) 0 (length xs) k e l)))
  where
    not_invalid : (b : Bool) → not b ≡ false → T b
    not_invalid true h = tt
    not_invalid false h = let z : ◌≡◌ {A = ℕ} 0 1 = cc in absurd (omega arith)

    all_from_each : {C : Type 0} (G : GroupOps C) (xs : List C) → ((k : ℕ) → k < length xs → T (G.valid (get_or xs k G.zero))) → T (all_valid G xs)
    all_from_each G [] h = tt
    all_from_each G (x ∷ xs) h = both_of (G.valid x) (all_valid G xs) (h 0 (omega arith)) (all_from_each G xs (λ k l. h (suc k) (omega arith)))

module _ {C : Type 0} (G : GroupOps C) where
  pub zero_at : (n i : ℕ) (v : C) → i < n → v ≡ G.zero → v ≡ get_or (tuple_zero G n) i v
  zero_at n i v h e = e ∙ sym (get_or-replicate n i G.zero v h)

  pub get_or_plus : (xs ys : List C) (i : ℕ) (d : C) → i < length xs → i < length ys → get_or (tuple_plus G xs ys) i d ≡ G.plus (get_or xs i d) (get_or ys i d)
  get_or_plus [] ys i d h k = absurd (not-suc-le-zero h)
  get_or_plus (x ∷ xs) [] i d h k = absurd (not-suc-le-zero k)
  get_or_plus (x ∷ xs) (y ∷ ys) zero d h k = refl
  get_or_plus (x ∷ xs) (y ∷ ys) (suc i) d h k = get_or_plus xs ys i d (le_of_suc-le-suc h) (le_of_suc-le-suc k)

  pub get_or_minus : (xs : List C) (i : ℕ) (d : C) → i < length xs → get_or (tuple_minus G xs) i d ≡ G.minus (get_or xs i d)
  get_or_minus [] i d h = absurd (not-suc-le-zero h)
  get_or_minus (x ∷ xs) zero d h = refl
  get_or_minus (x ∷ xs) (suc i) d h = get_or_minus xs i d (le_of_suc-le-suc h)

  pub get_or_moved : (c a : C) (xs : List C) (i : ℕ) (d : C) → i < length xs → get_or (moved G c a xs) i d ≡ G.plus (get_or (a ∷ xs) i d) (G.minus c)
  get_or_moved c a [] i d h = absurd (not-suc-le-zero h)
  get_or_moved c a (y ∷ ys) zero d h = refl
  get_or_moved c a (y ∷ ys) (suc i) d h = get_or_moved c y ys i d (le_of_suc-le-suc h)

  pub get_or_last : (x : C) (xs : List C) (d : C) → get_or (x ∷ xs) (length xs) d ≡ last x xs
  get_or_last x [] d = refl
  get_or_last x (y ∷ ys) d = get_or_last y ys d

  -- at elements that were read
  pub plus_at : (xs ys : List C) (i : ℕ) (x y v : C) → i < length xs → i < length ys → x ≡ get_or xs i x → y ≡ get_or ys i y → v ≡ G.plus x y → v ≡ get_or (tuple_plus G xs ys) i v
  plus_at xs ys i x y v h k p q e =
      let p' : x ≡ get_or xs i v = get_or_read xs i x h p v in
      let q' : y ≡ get_or ys i v = get_or_read ys i y k q v in
      e ∙ ap (λ (z : C). G.plus z y) p' ∙ ap (G.plus (get_or xs i v)) q' ∙ sym (get_or_plus xs ys i v h k)

  pub minus_at : (xs : List C) (i : ℕ) (x v : C) → i < length xs → x ≡ get_or xs i x → v ≡ G.minus x → v ≡ get_or (tuple_minus G xs) i v
  minus_at xs i x v h p e = e ∙ ap G.minus (get_or_read xs i x h p v) ∙ sym (get_or_minus xs i v h)

  pub less_at : (xs ys : List C) (i : ℕ) (x y v : C) → i < length xs → i < length ys → x ≡ get_or xs i x → y ≡ get_or ys i y → v ≡ G.plus x (G.minus y) → v ≡ get_or (tuple_less G xs ys) i v
  less_at xs ys i x y v h k p q e =
      plus_at xs (tuple_minus G ys) i x (G.minus y) v h (omega (arith, length_minus G ys)) p (minus_at ys i y (G.minus y) k q refl) e
