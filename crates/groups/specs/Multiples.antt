-- The numbers below m that have no divisor but 1 in common with m, multiplied modulo m, are a commutative group.
use Rattle.std.specs.Prelude.{◌≡◌, ℕ, zero, suc, ◌+◌, ◌-◌, ◌*◌, ◌%◌, ◌<◌, ◌≤◌, Bool, T, ◌==◌, nat_eq, nat_le, nat_lt}
use Rattle.std.proofs.Common.{sym, ap, subst, ◌∙◌, mod-lt, mod-eq_of_lt, mul_comm, mul_assoc, mul-one, zero-mul, arith, le→leb, ltb→lt, lt→ltb, eqb→eq}
use Rattle.std.proofs.Math.Nat.{mul-mul-mul_comm}
use Rattle.std.proofs.Math.Dec.{eqb_refl}
use Rattle.std.proofs.lemmas.Bool.{cond_both, eqb-true, eqb-false, le-leb, lt-ltb}
use Rattle.algebra.specs.Group.{GroupLaws}
use Rattle.algebra.specs.Primes.{inverse_from, inverse_number}
use Rattle.algebra.specs.Tuples.{both}
use Rattle.algebra.specs.Valid.{both_left, both_right, both_of}
use Rattle.algebra.proofs.TupleSums.{minus_unique}
use Rattle.groups.specs.Units.{Combines, gcd, units}
use Rattle.groups.specs.Congruences.{times_left, times_right, same_times}
use Rattle.groups.specs.Divisors.{gcd_one, gcd_is, inverts, inverse_of, coprime_from}

module _ (m : ℕ) (a : ℕ) where
  abbrev Found : ℕ → ℕ → Type 0
  Found top x = ((a * x) % m ≡ 1) × (x < top)

  found : (k e u : ℕ) → e ≤ u → u < e + k → (a * u) % m ≡ 1 → Found (e + k) (inverse_from m a e k)
  found zero e u l h i = absurd (omega arith)
  found (suc k) e u l h i =
      cond_both ((a * e) % m == 1) e (inverse_from m a (e + 1) k) (Found (e + suc k)) (λ t. (eqb-true ((a * e) % m) 1 t, omega arith))
      (λ f.
      let ne : e ≡ u → ⊥ = λ p. eqb-false ((a * e) % m) 1 f (ap (λ (x : ℕ). (a * x) % m) p ∙ i) in
      let next : Found (e + 1 + k) (inverse_from m a (e + 1) k) = found k (e + 1) u (omega arith) (omega arith) i in
      (next.0, omega arith))

module _ (m : ℕ) (big : 2 ≤ m) where
  abbrev Valid : ℕ → Type 0
  Valid a = T ((units m).valid a)

  pub valid_below : (a : ℕ) → Valid a → a < m
  valid_below a h = ltb→lt a m (both_left (nat_lt a m) (gcd a m == 1) (both_right (nat_le 1 a) _ h))

  pub valid_coprime : (a : ℕ) → Valid a → gcd a m ≡ 1
  valid_coprime a h = eqb→eq (gcd a m) 1 (both_right (nat_lt a m) (gcd a m == 1) (both_right (nat_le 1 a) _ h))

  -- no multiple of 0 is 1
  above : (a u : ℕ) → (a * u) % m ≡ 1 → 1 ≤ a
  above zero u e = let z : zero * u ≡ 0 = zero-mul u in let l : 0 < m = omega arith in let k : (zero * u) % m ≡ 0 = ap (λ (x : ℕ). x % m) z ∙ mod-eq_of_lt l in absurd (omega arith)
  above (suc a) u e = omega arith

  pub valid_from : (a u : ℕ) → a < m → (a * u) % m ≡ 1 → Valid a
  valid_from a u l e =
      both_of (nat_le 1 a) _ (le→leb 1 a (above a u e))
      (both_of (nat_lt a m) (gcd a m == 1) (lt→ltb a m l) (subst (λ (x : ℕ). T (x == 1)) (sym (coprime_from m big a u e)) tt))

  minus_found : (a : ℕ) → Valid a → Found m a m (inverse_number m a)
  minus_found a h =
      let i = inverse_of m big a (valid_coprime a h) in
      let u : ℕ = i.0 in
      let e : (a * u) % m ≡ 1 = i.2 in
      let e' : (u * a) % m ≡ 1 = ap (λ (x : ℕ). x % m) (mul_comm u a) ∙ e in
      let l : 1 ≤ u = above u a e' in
      let k : u < 1 + (m - 1) = omega (arith, i.1) in
      let top : 1 + (m - 1) ≡ m = omega arith in
      subst (λ (t : ℕ). Found m a t (inverse_number m a)) top (found m a (m - 1) 1 u l k e)

  product_inverts : (a b u v : ℕ) → (a * u) % m ≡ 1 → (b * v) % m ≡ 1 → ((a * b) % m * (u * v)) % m ≡ 1
  product_inverts a b u v e f =
      let one : 1 % m ≡ 1 = mod-eq_of_lt (omega arith) in
      times_left m (a * b) (u * v)
      ∙ ap (λ (x : ℕ). x % m) (mul-mul-mul_comm a b u v)
      ∙ same_times m (a * u) 1 (b * v) (e ∙ sym one)
      ∙ ap (λ (x : ℕ). x % m) (mul_comm 1 (b * v) ∙ mul-one (b * v))
      ∙ f

  less : (a : ℕ) → a % m < m
  less a = let h : 0 < m = omega arith in mod-lt a h

  pub units_laws : GroupLaws (units m)
  units_laws = record {
    same_equal = λ a b h k e. eqb→eq a b e;
    same_self = λ a h. eqb_refl a;
    zero_valid = valid_from 1 1 (omega arith) (mod-eq_of_lt (omega arith));
    plus_valid = λ a b h k.
        let i = inverse_of m big a (valid_coprime a h) in
        let j = inverse_of m big b (valid_coprime b k) in
        valid_from ((a * b) % m) (i.0 * j.0) (less (a * b)) (product_inverts a b i.0 j.0 i.2 j.2);
    minus_valid = λ a h.
        let f = minus_found a h in
        valid_from (inverse_number m a) a f.1 (ap (λ (x : ℕ). x % m) (mul_comm (inverse_number m a) a) ∙ f.0);
    plus_comm = λ a b h k. ap (λ (x : ℕ). x % m) (mul_comm a b);
    plus_assoc = λ a b c h k l. times_left m (a * b) c ∙ ap (λ (x : ℕ). x % m) (mul_assoc a b c) ∙ sym (times_right m a (b * c));
    plus_zero = λ a h. ap (λ (x : ℕ). x % m) (mul-one a) ∙ mod-eq_of_lt (valid_below a h);
    plus_minus = λ a h. (minus_found a h).0;
  }

  -- a number below m that inverts a is its negative
  negative_is : (a u : ℕ) → Valid a → u < m → (a * u) % m ≡ 1 → u ≡ inverse_number m a
  negative_is a u h l e =
      minus_unique (units m) units_laws a u h (valid_from u a l (ap (λ (x : ℕ). x % m) (mul_comm u a) ∙ e)) e

  -- what Euclid's algorithm on a and m says of a
  pub tells_valid : (a d s t : ℕ) → Combines m a m d s t → 1 ≤ a → a < m → (d == 1) ≡ (units m).valid a
  tells_valid a d s t k l h =
      ap (λ (x : ℕ). nat_eq x 1) (gcd_one a m d (gcd a m) k.divisor (gcd_is a m))
      ∙ sym (ap (λ (v : Bool). both v (both (nat_lt a m) (gcd a m == 1))) (le-leb 1 a l) ∙ ap (λ (v : Bool). both v (gcd a m == 1)) (lt-ltb a m h))

  pub gives_negative : (a d s t : ℕ) → Combines m (a % m) m d s t → Valid a → s ≡ inverse_number m a
  gives_negative a d s t k h =
      let same : a % m ≡ a = mod-eq_of_lt (valid_below a h) in
      let k' : Combines m a m d s t = subst (λ (x : ℕ). Combines m x m d s t) same k in
      let one : d ≡ 1 = gcd_one a m d (gcd a m) k'.divisor (gcd_is a m) ∙ valid_coprime a h in
      negative_is a s h k'.first_below (inverts m big a s t d k'.makes one)
