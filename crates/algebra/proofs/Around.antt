-- Tuples as they are read around a circle, with one zero after them: the points and the factors of weights as quotients.
use Rattle.std.proofs.Common.{◌≡◌, ℕ, zero, suc, ◌+◌, ◌-◌, ◌*◌, ◌%◌, ◌<◌, ◌≤◌, T, List, [], ◌∷◌, length, get_or, sym, refl, ap, ◌∙◌, subst, ap₂, inl, inr, le_of_suc-le-suc, not-suc-le-zero, mod-lt, mod-eq_of_lt, arith}
use mathlib.Core.Path.{fun_ext}
use mathlib.Core.HLevel.{Σ_prop_path}
use Rattle.std.proofs.Math.Nat.{mod-add-mod, add-mod-mod, add-mod_right, mod_self, zero-mod, add-mul-mod_self_right}
use lib.Dec.{T_prop}
use Rattle.std.proofs.lemmas.List.{get_or_past}
use Rattle.std.proofs.lemmas.Bool.{cases_lt}
use Rattle.algebra.specs.Circle.{ahead, inverse_around, around, Quotient}
use Rattle.algebra.specs.Group.{GroupOps, GroupLaws}
use Rattle.algebra.specs.Module.{ModuleOps, ModuleLaws}
use Rattle.algebra.specs.Tuples.{all_valid, tuple_zero, tuple_plus, tuple_minus, last, moved, times_x, ok, list_ops}
use Rattle.algebra.specs.Valid.{head_valid, tail_valid, last_valid, less_valid, length_plus, length_minus, length_moved}
use Rattle.algebra.specs.Space.{Tuple, tuple_ops, ok_length, ok_valid}
use Rattle.algebra.specs.Scalars.{Scalar, times, act, power, point, geometric}
use Rattle.algebra.specs.Sharing.{less, inverse}
use Rattle.algebra.specs.Theorems.{Inverts}
use Rattle.algebra.proofs.Actions.{undo, redo}
use Rattle.algebra.proofs.Places.{get_or_plus, get_or_minus, get_or_moved, get_or_last}
use Rattle.algebra.proofs.TupleSums.{zero_plus, minus_zero, minus_plus}
use Rattle.algebra.proofs.TupleModule.{act_list}
use Rattle.algebra.proofs.Dealings.{around_list}
use Rattle.algebra.proofs.Ways.{ahead_some}
use Rattle.algebra.proofs.Quotients.{point_run, factor_run}
use Rattle.algebra.proofs.Circles.{turned_back, circle, circle_laws, power_at, Reads, runs}

module _ {C : Type 0} (G : GroupOps C) (L : GroupLaws G) where
  -- the valid elements, as a module in which x does nothing
  abbrev Valid : Type 0
  Valid = (c : C) × T (G.valid c)

  abbrev valid_ops : ModuleOps Valid
  valid_ops = record {
    nil = (G.zero, L.zero_valid);
    add = λ a b. (G.plus a.0 b.0, L.plus_valid a.0 b.0 a.1 b.1);
    neg = λ a. (G.minus a.0, L.minus_valid a.0 a.1);
    shift = λ a. a;
  }

  same : (a b : Valid) → a.0 ≡ b.0 → a ≡ b
  same a b e = Σ_prop_path (λ c. T_prop (G.valid c)) e

  valid_laws : ModuleLaws valid_ops 0
  valid_laws = record {
    add_comm = λ a b. same _ _ (L.plus_comm a.0 b.0 a.1 b.1);
    add_assoc = λ a b c. same _ _ (L.plus_assoc a.0 b.0 c.0 a.1 b.1 c.1);
    add_nil = λ a. same _ _ (L.plus_zero a.0 a.1);
    add_neg = λ a. same _ _ (L.plus_minus a.0 a.1);
    shift_add = λ a b. refl;
    cycle = λ a. refl;
  }

  -- an element, or the zero after them
  pub part_valid : (m : List C) (i : ℕ) → T (all_valid G m) → T (G.valid (get_or m i G.zero))
  part_valid [] i h = L.zero_valid
  part_valid (x ∷ xs) zero h = head_valid G x xs h
  part_valid (x ∷ xs) (suc i) h = part_valid xs i (tail_valid G x xs h)

  zero_part : (n i : ℕ) → get_or (tuple_zero G n) i G.zero ≡ G.zero
  zero_part zero i = refl
  zero_part (suc n) zero = refl
  zero_part (suc n) (suc i) = zero_part n i

  plus_part : (a b : List C) → length b ≡ length a → (i : ℕ) → get_or (tuple_plus G a b) i G.zero ≡ G.plus (get_or a i G.zero) (get_or b i G.zero)
  plus_part a b n i = elim (cases_lt i (length a)) [
    | inl l ↦ get_or_plus G a b i G.zero l (omega arith)
    | inr l ↦
        get_or_past (tuple_plus G a b) i G.zero (omega (arith, length_plus G a b n))
        ∙ sym (L.plus_zero G.zero L.zero_valid)
        ∙ sym (ap₂ G.plus (get_or_past a i G.zero l) (get_or_past b i G.zero (omega arith)))
  ]

  minus_part : (a : List C) (i : ℕ) → get_or (tuple_minus G a) i G.zero ≡ G.minus (get_or a i G.zero)
  minus_part a i = elim (cases_lt i (length a)) [
    | inl l ↦ get_or_minus G a i G.zero l
    | inr l ↦
        get_or_past (tuple_minus G a) i G.zero (omega (arith, length_minus G a)) ∙ sym (minus_zero G L) ∙ sym (ap G.minus (get_or_past a i G.zero l))
  ]

  -- (a - c) + c = a
  taken_back : (a c : C) → T (G.valid a) → T (G.valid c) → G.plus (G.plus a (G.minus c)) c ≡ a
  taken_back a c h k =
      let both = redo valid_laws (a, h) (c, k) in
      L.plus_comm (G.plus a (G.minus c)) c (less_valid G L a c h k) k ∙ ap (λ (v : Valid). v.0) both

  -- s + (a - l), where x + l = s + a
  pub taken_over : (s a l b t x : C) → T (G.valid s) → T (G.valid a) → T (G.valid l) → T (G.valid x)
      → (T (G.valid a) → T (G.valid l) → b ≡ G.plus a (G.minus l)) → (T (G.valid s) → T (G.valid b) → t ≡ G.plus s b)
      → G.plus x l ≡ G.plus s a → t ≡ x
  taken_over s a l b t x vs va vl vx eb et e =
      let vb : T (G.valid b) = subst (λ c. T (G.valid c)) (sym (eb va vl)) (less_valid G L a l va vl) in
      et vs vb ∙ ap (G.plus s) (eb va vl) ∙ sym (L.plus_assoc s a (G.minus l) vs va (L.minus_valid l vl))
      ∙ ap (λ z. G.plus z (G.minus l)) (sym e) ∙ ap (λ (v : Valid). v.0) (undo valid_laws (x, vx) (l, vl))

  -- (a + b) + c = a + (c + b), and (a - b) - c = a - (c + b)
  pub plus_last : (a b c : C) → T (G.valid a) → T (G.valid b) → T (G.valid c) → G.plus (G.plus a b) c ≡ G.plus a (G.plus c b)
  plus_last a b c p q r = L.plus_assoc a b c p q r ∙ ap (G.plus a) (L.plus_comm b c q r)

  pub less_last : (a b c : C) → T (G.valid a) → T (G.valid b) → T (G.valid c) → G.plus (G.plus a (G.minus b)) (G.minus c) ≡ G.plus a (G.minus (G.plus c b))
  less_last a b c p q r =
      plus_last a (G.minus b) (G.minus c) p (L.minus_valid b q) (L.minus_valid c r) ∙ ap (G.plus a) (sym (minus_plus G L c b r q))

  -- what x brings to the place r stood one place back, less the last element
  shift_part : (x : C) (xs : List C) → T (all_valid G (x ∷ xs)) → (r : ℕ) → r < suc (suc (length xs))
      → get_or (x ∷ xs) ((r + suc (length xs)) % suc (suc (length xs))) G.zero ≡ G.plus (get_or (times_x G (x ∷ xs)) r G.zero) (last x xs)
  shift_part x xs h zero l =
      let n : ℕ = suc (length xs) in
      let e : (0 + n) % suc n ≡ n = ap (λ i. i % suc n) (omega arith) ∙ mod-eq_of_lt (omega arith) in
      let v : T (G.valid (last x xs)) = last_valid G x xs (head_valid G x xs h) (tail_valid G x xs h) in
      ap (λ i. get_or (x ∷ xs) i G.zero) e
      ∙ get_or_past (x ∷ xs) n G.zero (omega arith)
      ∙ sym (L.plus_comm (G.minus (last x xs)) (last x xs) (L.minus_valid (last x xs) v) v ∙ L.plus_minus (last x xs) v)
  shift_part x xs h (suc r) l =
      let n : ℕ = suc (length xs) in
      let round : suc r + n ≡ r + suc n = omega arith in
      let e : (suc r + n) % suc n ≡ r = ap (λ i. i % suc n) round ∙ add-mod_right r (suc n) ∙ mod-eq_of_lt (omega arith) in
      let c : C = last x xs in
      let v : T (G.valid c) = last_valid G x xs (head_valid G x xs h) (tail_valid G x xs h) in
      ap (λ i. get_or (x ∷ xs) i G.zero) e
      ∙ elim (cases_lt r (length xs)) [
        | inl within ↦
            sym (ap (λ z. G.plus z c) (get_or_moved G c x xs r G.zero within) ∙ taken_back (get_or (x ∷ xs) r G.zero) c (part_valid (x ∷ xs) r h) v)
        | inr past ↦
            let same_place : r ≡ length xs = omega arith in
            ap (λ i. get_or (x ∷ xs) i G.zero) same_place
            ∙ get_or_last G x xs G.zero
            ∙ sym (ap (λ z. G.plus z c) (get_or_past (moved G c x xs) r G.zero (omega (arith, length_moved G c x xs))) ∙ zero_plus G L c v)
      ]

  module _ (n : ℕ) where
    abbrev at : Tuple G (suc n) → ℕ → Valid
    at m i = (around G (suc (suc n)) m.0 i, part_valid m.0 (i % suc (suc n)) (ok_valid G (suc n) m.0 m.1))

    shift_read : (m : List C) → length m ≡ suc n → T (all_valid G m) → (k : Valid) × ((i : ℕ) → around G (suc (suc n)) m (i + suc n) ≡ G.plus (around G (suc (suc n)) (times_x G m) i) k.0)
    shift_read [] e h = absurd (omega arith)
    shift_read (x ∷ xs) e h =
        let same_length : length xs ≡ n = omega arith in (
          (last x xs, last_valid G x xs (head_valid G x xs h) (tail_valid G x xs h)),
          λ i.
              let q : ℕ = suc (suc n) in
              let below : i % q < q = mod-lt i (omega arith) in
              ap (λ z. get_or (x ∷ xs) z G.zero) (sym (mod-add-mod i q (suc n)))
              ∙ ap (λ z. get_or (x ∷ xs) ((i % q + suc z) % suc (suc z)) G.zero) (sym same_length)
              ∙ shift_part x xs h (i % q) (omega arith),
        )

    reads : Reads valid_laws (suc n) (tuple_ops G L (suc n)) at
    reads = record {
      nil_at = λ i. same _ _ (zero_part (suc n) (i % suc (suc n)));
      add_at = λ a b i. same _ _ (plus_part a.0 b.0 (ok_length G (suc n) b.0 b.1 ∙ sym (ok_length G (suc n) a.0 a.1)) (i % suc (suc n)));
      neg_at = λ a i. same _ _ (minus_part a.0 (i % suc (suc n)));
      shift_at = λ a.
          let k = shift_read a.0 (ok_length G (suc n) a.0 a.1) (ok_valid G (suc n) a.0 a.1) in
          (k.0, λ i. same _ _ (k.1 i));
      turn_at = λ a i j e. same _ _ (ap (λ z. get_or a.0 z G.zero) e);
    }

    -- where (1 - x^d) s = x^a - x^b on the circle
    quotient : (s : Scalar) (d a b come gone : ℕ) (m : List C) (h : T (ok G (suc n) m)) → (a + come) % suc (suc n) ≡ 0 → (b + gone) % suc (suc n) ≡ 0
        → let O = circle valid_laws (suc n) in let f : ℕ → Valid = at (m, h) in
        O.add (act O s f) (act O (power b) f) ≡ O.add (act O (power d) (act O s f)) (act O (power a) f)
        → Quotient G (suc (suc n)) d come gone m (act (list_ops G (suc n)) s m)
    quotient s d a b come gone m h ea eb e u =
        let r = act_list G L (suc n) s (m, h) in
        ap (λ l. G.plus (around G (suc (suc n)) l (u + d)) (around G (suc (suc n)) m (u + d + gone))) (sym r)
        ∙ ap (λ (v : Valid). v.0) (runs valid_laws (suc n) (tuple_ops G L (suc n)) at reads s d a b come gone (m, h) ea eb e u)
        ∙ ap (λ l. G.plus (around G (suc (suc n)) l u) (around G (suc (suc n)) m (u + d + come))) r

    point_quotient : (i : ℕ) → i ≤ suc (suc n) → (m : List C) → T (ok G (suc n) m) → Quotient G (suc (suc n)) 1 0 (suc (suc n) - i) m (act (list_ops G (suc n)) (point i) m)
    point_quotient i l m h =
        let whole : i + (suc (suc n) - i) ≡ suc (suc n) = omega arith in
        quotient (point i) 1 0 i 0 (suc (suc n) - i) m h (zero-mod (suc (suc n))) (ap (λ z. z % suc (suc n)) whole ∙ mod_self (suc (suc n)))
        (point_run (circle_laws valid_laws (suc n)) i (at (m, h)))

    factor_quotient : (k p j e : ℕ) → k < suc (suc n) → p < suc (suc n) → j < suc (suc n) → (ahead (suc (suc n)) j k * e) % suc (suc n) ≡ 1 → (m : List C) → T (ok G (suc n) m)
        → Quotient G (suc (suc n)) (ahead (suc (suc n)) j k) (ahead (suc (suc n)) p j) (ahead (suc (suc n)) k j) m
        (act (list_ops G (suc n)) (times (less (point k) (point p)) (times (power (suc (suc n) - j)) (geometric (ahead (suc (suc n)) j k) e))) m)
    factor_quotient k p j e hk hp hj inv m h =
        let q : ℕ = suc (suc n) in
        let d : ℕ = ahead q j k in
        let f : ℕ → Valid = at (m, h) in
        let s : Scalar = times (less (point k) (point p)) (times (power (q - j)) (geometric d e)) in
        let O = circle valid_laws (suc n) in
        let once : act O (power (d * e)) f ≡ O.shift f = fun_ext (λ i. power_at valid_laws (suc n) (d * e) f i ∙ reads.turn_at (m, h) _ _ (one_turn i)) in
        quotient s d (p + (q - j)) (k + (q - j)) (ahead q p j) (ahead q k j) m h (round p (omega arith)) (round k (omega arith))
        (factor_run (circle_laws valid_laws (suc n)) k p (q - j) d e f once)
      where
        round : (i : ℕ) → i ≤ suc (suc n) → (i + (suc (suc n) - j) + ahead (suc (suc n)) i j) % suc (suc n) ≡ 0
        round i l =
            let twice : i + (suc (suc n) - j) + (j + (suc (suc n) - i)) ≡ 0 + 2 * suc (suc n) = omega arith in
            add-mod-mod (i + (suc (suc n) - j)) (j + (suc (suc n) - i)) (suc (suc n)) ∙ ap (λ z. z % suc (suc n)) twice ∙ add-mul-mod_self_right 0 2 (suc (suc n)) ∙ zero-mod (suc (suc n))

        one_turn : (i : ℕ) → (i + ahead (suc (suc n)) j k * e * suc n) % suc (suc n) ≡ (i + suc n) % suc (suc n)
        one_turn i = turned_back (suc n) i (ahead (suc (suc n)) j k * e) (suc n) (sym (mod-add-mod (ahead (suc (suc n)) j k * e) (suc (suc n)) (suc n)) ∙ ap (λ z. (z + suc n) % suc (suc n)) inv ∙ ap (λ z. z % suc (suc n)) (omega arith) ∙ mod_self (suc (suc n)))

  pub point_is : (q i : ℕ) → 2 ≤ q → i ≤ q → (m : List C) → T (ok G (q - 1) m) → Quotient G q 1 0 (q - i) m (act (list_ops G (q - 1)) (point i) m)
  point_is zero i two l m h = absurd (not-suc-le-zero two)
  point_is (suc zero) i two l m h = absurd (not-suc-le-zero (le_of_suc-le-suc two))
  point_is (suc (suc n)) i two l m h =
      let e : suc n ≡ suc (suc n) - 1 = omega arith in
      subst (λ (w : ℕ). T (ok G w m) → Quotient G (suc (suc n)) 1 0 (suc (suc n) - i) m (act (list_ops G w) (point i) m)) e (point_quotient n i l m) h

  -- (a(k) - a(p)) / (a(k) - a(j)), for two distinct indices
  factor_around : (q k p j : ℕ) (inv : ℕ → ℕ) → 2 ≤ q → k < q → p < q → j < q → (ahead q j k * inv (ahead q j k)) % q ≡ 1 → (m : List C) → T (ok G (q - 1) m)
      → Quotient G q (ahead q j k) (ahead q p j) (ahead q k j) m (act (list_ops G (q - 1)) (times (less (point k) (point p)) (inverse_around q inv k j)) m)
  factor_around zero k p j inv two hk hp hj one m h = absurd (not-suc-le-zero two)
  factor_around (suc zero) k p j inv two hk hp hj one m h = absurd (not-suc-le-zero (le_of_suc-le-suc two))
  factor_around (suc (suc n)) k p j inv two hk hp hj one m h =
      let q : ℕ = suc (suc n) in
      let e : suc n ≡ suc (suc n) - 1 = omega arith in
      subst (λ (w : ℕ). T (ok G w m) → Quotient G q (ahead q j k) (ahead q p j) (ahead q k j) m (act (list_ops G w) (times (less (point k) (point p)) (inverse_around q inv k j)) m)) e
      (factor_quotient n k p j (inv (ahead q j k)) hk hp hj one m) h

  pub factor_is : (q k p j : ℕ) (inv : ℕ → ℕ) → Inverts q inv → 2 ≤ q → k < q → p < q → j < q → (k ≡ j → ⊥) → (m : List C) → T (ok G (q - 1) m)
      → Quotient G q (ahead q j k) (ahead q p j) (ahead q k j) m (act (list_ops G (q - 1)) (times (less (point k) (point p)) (inverse q inv k j)) m)
  factor_is q k p j inv inverts two hk hp hj apart m h =
      let one_way = inverts (ahead q j k) (ahead_some q j k hj hk apart) (mod-lt (k + (q - j)) (omega arith)) in
      subst (λ (l : List C). Quotient G q (ahead q j k) (ahead q p j) (ahead q k j) m (act (list_ops G (q - 1)) (less (point k) (point p)) l))
      (around_list G L q two inv inverts k j hk hj apart m h) (factor_around q k p j inv two hk hp hj one_way m h)
