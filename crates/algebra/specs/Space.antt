-- The valid tuples of n elements, with their sum and their product with x.
use Rattle.std.specs.Prelude.{◌≡◌, ℕ, T, List, length, ◌==◌}
use Rattle.std.proofs.Common.{sym, subst, ◌∙◌, eqb→eq}
use Rattle.std.proofs.Math.Dec.{eqb_refl}
use Rattle.std.proofs.lemmas.List.{length-replicate}
use Rattle.algebra.specs.Group.{GroupOps, GroupLaws}
use Rattle.algebra.specs.Module.{ModuleOps}
use Rattle.algebra.specs.Tuples.{all_valid, tuple_zero, tuple_plus, tuple_minus, times_x, ok}
use Rattle.algebra.specs.Valid.{both_left, both_right, both_of, zero_tuple_valid, plus_tuple_valid, minus_tuple_valid, times_x_valid, length_plus, length_minus, length_times_x}

module _ {C : Type 0} (G : GroupOps C) where
  pub ok_length : (n : ℕ) (m : List C) → T (ok G n m) → length m ≡ n
  ok_length n m h = eqb→eq (length m) n (both_left (length m == n) (all_valid G m) h)

  pub ok_valid : (n : ℕ) (m : List C) → T (ok G n m) → T (all_valid G m)
  ok_valid n m h = both_right (length m == n) (all_valid G m) h

  pub ok_of : (n : ℕ) (m : List C) → length m ≡ n → T (all_valid G m) → T (ok G n m)
  ok_of n m e h = both_of (length m == n) (all_valid G m) (subst (λ (k : ℕ). T (length m == k)) e (eqb_refl (length m))) h

abbrev pub Tuple : {C : Type 0} → GroupOps C → ℕ → Type 0
Tuple {C} G n = (m : List C) × T (ok G n m)

module _ {C : Type 0} (G : GroupOps C) (L : GroupLaws G) (n : ℕ) where
  pub zero_ok : T (ok G n (tuple_zero G n))
  zero_ok = ok_of G n (tuple_zero G n) (length-replicate n G.zero) (zero_tuple_valid G L n)

  pub plus_ok : (a b : List C) → T (ok G n a) → T (ok G n b) → T (ok G n (tuple_plus G a b))
  plus_ok a b h k =
      ok_of G n (tuple_plus G a b) (length_plus G a b (ok_length G n b k ∙ sym (ok_length G n a h)) ∙ ok_length G n a h)
      (plus_tuple_valid G L a b (ok_valid G n a h) (ok_valid G n b k))

  pub minus_ok : (a : List C) → T (ok G n a) → T (ok G n (tuple_minus G a))
  minus_ok a h = ok_of G n (tuple_minus G a) (length_minus G a ∙ ok_length G n a h) (minus_tuple_valid G L a (ok_valid G n a h))

  pub times_x_ok : (a : List C) → T (ok G n a) → T (ok G n (times_x G a))
  times_x_ok a h = ok_of G n (times_x G a) (length_times_x G a ∙ ok_length G n a h) (times_x_valid G L a (ok_valid G n a h))

  abbrev pub tuple_ops : ModuleOps (Tuple G n)
  tuple_ops = record {
    nil = (tuple_zero G n, zero_ok);
    add = λ a b. (tuple_plus G a.0 b.0, plus_ok a.0 b.0 a.1 b.1);
    neg = λ a. (tuple_minus G a.0, minus_ok a.0 a.1);
    shift = λ a. (times_x G a.0, times_x_ok a.0 a.1);
  }
