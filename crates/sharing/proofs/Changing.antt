-- A tuple that is changed by the point i times another, and then in its first element by a key.
use Rattle.std.proofs.Common.{◌≡◌, ℕ, ◌+◌, ◌-◌, ◌%◌, ◌<◌, ◌≤◌, T, List, [], ◌∷◌, length, get_or, take, set, sym, refl, ap, ◌∙◌, subst, ap₂, mod-eq_of_lt, arith}
use Rattle.std.proofs.Math.Nat.{add-mod_right}
use Rattle.std.proofs.lemmas.List.{get_or_read, get_or_past, get_or_default}
use Rattle.algebra.specs.Circle.{around}
use Rattle.algebra.specs.Group.{GroupOps, GroupLaws}
use Rattle.algebra.specs.Tuples.{all_valid, tuple_zero, tuple_plus, tuple_minus, ok, list_ops}
use Rattle.algebra.specs.Valid.{head_valid, tail_valid, less_valid, valid_read, length_plus, length_minus}
use Rattle.algebra.specs.Space.{tuple_ops, ok_of, ok_valid, ok_length}
use Rattle.algebra.specs.Scalars.{one, root, act, point}
use Rattle.algebra.specs.Dealing.{embedded}
use Rattle.algebra.proofs.Actions.{act_nil}
use Rattle.algebra.proofs.Around.{part_valid, plus_last, less_last, point_is}
use Rattle.algebra.proofs.Places.{take_step, take_end, plus_at, less_at}
use Rattle.algebra.proofs.Walks.{walk_sum}
use Rattle.algebra.proofs.TupleModule.{zero_tuple_plus, tuple_sums}
use Rattle.algebra.proofs.Dealings.{act_ok, act_equal}
use Rattle.sharing.specs.declared.shares.Change.{Change}
use Rattle.sharing.specs.declared.shares.Change.TheVariants.{Add, Subtract}
use Rattle.sharing.specs.Shares.{changed_element, changed}

module _ {C : Type 0} (G : GroupOps C) (L : GroupLaws G) where
  -- a tuple that was changed by ys, and then its first element by a key
  pub key_changed : (d : Change) (w : ℕ) (k x y : C) (xs ys after : List C) → 0 < w → length xs ≡ w → length ys ≡ w → T (G.valid k) → T (all_valid G xs) → T (all_valid G ys)
      → after ≡ changed G d xs ys → y ≡ get_or after 0 y → (T (G.valid y) → T (G.valid k) → x ≡ changed_element G d y k)
      → set after 0 x ≡ changed G d xs (tuple_plus G (embedded G w k) ys)
  key_changed d w k x y [] ys after some n m vk v u e r f = absurd (omega arith)
  key_changed d w k x y (a ∷ xs) [] after some n m vk v u e r f = absurd (omega arith)
  key_changed d w k x y (a ∷ xs) (b ∷ ys) after some n m vk v u e r f =
      ap (λ (l : List C). set l 0 x) e ∙ go d (r ∙ ap (λ (l : List C). get_or l 0 y) e) f
    where
      va : T (G.valid a)
      va = head_valid G a xs v

      vb : T (G.valid b)
      vb = head_valid G b ys u

      zeros : ys ≡ tuple_plus G (tuple_zero G (w - 1)) ys
      zeros = let rest : length ys ≡ w - 1 = omega arith in sym (zero_tuple_plus G L ys (tail_valid G b ys u)) ∙ ap (λ (n : ℕ). tuple_plus G (tuple_zero G n) ys) rest

      go : (d : Change) → y ≡ get_or (changed G d (a ∷ xs) (b ∷ ys)) 0 y → (T (G.valid y) → T (G.valid k) → x ≡ changed_element G d y k)
          → set (changed G d (a ∷ xs) (b ∷ ys)) 0 x ≡ changed G d (a ∷ xs) (tuple_plus G (embedded G w k) (b ∷ ys))
      go Add is add =
          let vy : T (G.valid y) = subst (λ (c : C). T (G.valid c)) (sym is) (L.plus_valid a b va vb) in
          ap₂ (λ (c : C) (l : List C). c ∷ tuple_plus G xs l) (add vy vk ∙ ap (λ (c : C). G.plus c k) is ∙ plus_last G L a b k va vb vk) zeros
      go Subtract is take-away =
          let vy : T (G.valid y) = subst (λ (c : C). T (G.valid c)) (sym is) (less_valid G L a b va vb) in
          ap₂ (λ (c : C) (l : List C). c ∷ tuple_plus G xs (tuple_minus G l)) (take-away vy vk ∙ ap (λ (c : C). G.plus c (G.minus k)) is ∙ less_last G L a b k va vb vk) zeros

  -- a loop that changes a tuple by the point i times m, from its first place on
  pub changed_at : (d : Change) (xs ys : List C) (s : ℕ) (x y v : C) → s < length xs → s < length ys → x ≡ get_or xs s x → y ≡ get_or ys s y → v ≡ changed_element G d x y → v ≡ get_or (changed G d xs ys) s v
  changed_at Add = plus_at G
  changed_at Subtract = less_at G

  pub length_changed : (d : Change) (xs ys : List C) → length ys ≡ length xs → length (changed G d xs ys) ≡ length xs
  length_changed Add xs ys e = length_plus G xs ys e
  length_changed Subtract xs ys e = length_plus G xs (tuple_minus G ys) (length_minus G ys ∙ e)

  -- the point 1 is one
  point_one : (w : ℕ) (m : List C) → length m ≡ w → T (all_valid G m) → act (list_ops G w) (point 1) m ≡ m
  point_one w m n v =
      act_equal G L w (point 1) one (λ a. ap ((tuple_ops G L w).add a) (act_nil (tuple_sums G L w) root) ∙ (tuple_sums G L w).add_nil a) m (ok_of G w m n v)

  pub change_one : (d : Change) (w i : ℕ) (xs m to : List C) → i ≡ 1 → length m ≡ w → T (all_valid G m) → to ≡ changed G d xs m → to ≡ changed G d xs (act (list_ops G w) (point i) m)
  change_one d w i xs m to e n v r =
      r ∙ sym (ap (changed G d xs) (ap (λ (k : ℕ). act (list_ops G w) (point k) m) e ∙ point_one w m n v))

  module _ (q i : ℕ) (m : List C) (two : 2 ≤ q) (l : i ≤ q) (n : length m ≡ q - 1) (v : T (all_valid G m)) where
    abbrev product : List C
    product = act (list_ops G (q - 1)) (point i) m

    product_ok : T (ok G (q - 1) product)
    product_ok = act_ok G L (q - 1) (point i) m (ok_of G (q - 1) m n v)

    -- the sum after s places, and the tuple with so many of them changed
    abbrev pub Changed : Change → List C → ℕ → C → List C → Type 0
    Changed d xs s sum to = (sum ≡ around G q product (q - 1 + s)) × (take s to ≡ take s (changed G d xs product))

    pub change_starts : (d : Change) (xs to : List C) (sum : C) → sum ≡ G.zero → Changed d xs 0 sum to
    change_starts d xs to sum e =
        let place : (q - 1 + 0) % q ≡ q - 1 = ap (λ (z : ℕ). z % q) (omega arith) ∙ mod-eq_of_lt (omega arith) in
        (e ∙ sym (ap (λ (z : ℕ). get_or product z G.zero) place ∙ get_or_past product (q - 1) G.zero (omega (arith, ok_length G (q - 1) product product_ok))), refl)

    pub change_step : (d : Change) (xs : List C) (s : ℕ) (sum more less rest sum' x y : C) (to : List C) → s < q - 1 → length xs ≡ q - 1 → length to ≡ q - 1 → T (all_valid G xs)
        → more ≡ get_or m s more → less ≡ get_or m ((s + (q - i)) % q) G.zero
        → (T (G.valid more) → T (G.valid less) → rest ≡ G.plus more (G.minus less))
        → (T (G.valid sum) → T (G.valid rest) → sum' ≡ G.plus sum rest)
        → x ≡ get_or xs s x → (T (G.valid x) → T (G.valid sum') → y ≡ changed_element G d x sum')
        → Changed d xs s sum to → Changed d xs (s + 1) sum' (set to s y)
    change_step d xs s sum more less rest sum' x y to h nx nt vx emore eless erest enext read change before =
        let lp : length product ≡ q - 1 = ok_length G (q - 1) product product_ok in
        let here : (c : ℕ) → (q - 1 + s + 1 + c) % q ≡ (s + c) % q = λ c. let e : q - 1 + s + 1 + c ≡ s + c + q = omega arith in ap (λ (z : ℕ). z % q) e ∙ add-mod_right (s + c) q in
        let zero_on : (s + 0) % q ≡ s = ap (λ (z : ℕ). z % q) (omega arith) ∙ mod-eq_of_lt (omega arith) in
        let is_more : more ≡ around G q m (q - 1 + s + 1 + 0) = get_or_read m s more (omega arith) emore G.zero ∙ sym (ap (λ (z : ℕ). get_or m z G.zero) (here 0 ∙ zero_on)) in
        let is_less : less ≡ around G q m (q - 1 + s + 1 + (q - i)) = eless ∙ sym (ap (λ (z : ℕ). get_or m z G.zero) (here (q - i))) in
        let next : sum' ≡ around G q product (q - 1 + s + 1) =
        walk_sum q 1 (omega arith) G L product 0 (q - i) m (q - 1 + s) sum more less rest sum' v product_ok (point_is G L q i two l m (ok_of G (q - 1) m n v)) before.0 is_more is_less erest enext in
        let place : (q - 1 + s + 1) % q ≡ s = ap (λ (z : ℕ). z % q) (omega arith) ∙ here 0 ∙ zero_on in
        let at : sum' ≡ get_or product s G.zero = next ∙ ap (λ (z : ℕ). get_or product z G.zero) place in
        let vs : T (G.valid sum') = subst (λ (c : C). T (G.valid c)) (sym at) (part_valid G L product s (ok_valid G (q - 1) product product_ok)) in
        let on : q - 1 + s + 1 ≡ q - 1 + (s + 1) = omega arith in (
          next ∙ ap (around G q product) on,
          take_step to (changed G d xs product) s y (omega arith) (omega (arith, length_changed d xs product (lp ∙ sym nx))) before.1
              (changed_at d xs product s x sum' y (omega arith) (omega arith) read (at ∙ get_or_default product s G.zero sum' (omega arith)) (change (valid_read G xs s x (omega arith) read vx) vs)),
        )

    pub change_ends : (d : Change) (xs to : List C) (s : ℕ) (sum : C) → q - 1 ≤ s → length xs ≡ q - 1 → length to ≡ q - 1 → Changed d xs s sum to → to ≡ changed G d xs product
    change_ends d xs to s sum h nx nt after =
        let lp : length product ≡ q - 1 = ok_length G (q - 1) product product_ok in
        take_end to (changed G d xs product) s (omega arith) (omega (arith, length_changed d xs product (lp ∙ sym nx))) after.1
