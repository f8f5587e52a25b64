-- 31 is an odd prime, and modulo an odd prime up to 31 each number has its inverse: tests that antt computes, and what they say.
use Rattle.std.proofs.Common.{◌≡◌, ℕ, zero, suc, ◌*◌, ◌%◌, ◌<◌, ◌≤◌, Bool, true, false, cond, not, T, eqb, ltb, leb, refl, subst, inl, inr, not-suc-le-zero, arith, le→leb, eqb→eq, lt→ltb, leb→le, T_not}
use lib.Dec.{eqb_refl, not_T}
use Rattle.std.proofs.lemmas.Bool.{cases_lt}
use Rattle.algebra.specs.Tuples.{both}
use Rattle.algebra.specs.Valid.{both_left, both_right, both_of}
use Rattle.algebra.specs.Theorems.{Inverts}
use Rattle.algebra.specs.Primes.{Prime, OddPrime, NoneBetween, LeastOddPrime, inverse_number}

-- the test passes at each number below n
abbrev every : (ℕ → Bool) → ℕ → Bool
every f zero = true
every f (suc n) = both (f n) (every f n)

from_every : (f : ℕ → Bool) (n : ℕ) → T (every f n) → (k : ℕ) → k < n → T (f k)
from_every f zero t k h = absurd (not-suc-le-zero h)
from_every f (suc n) t k h = elim (cases_lt k n) [
  | inl l ↦ from_every f n (both_right (f n) (every f n) t) k l
  | inr l ↦ let e : n ≡ k = omega arith in subst (λ (m : ℕ). T (f m)) e (both_left (f n) (every f n) t)
]

to_every : (f : ℕ → Bool) (n : ℕ) → ((k : ℕ) → k < n → T (f k)) → T (every f n)
to_every f zero h = tt
to_every f (suc n) h = both_of (f n) (every f n) (h n (omega arith)) (to_every f n (λ k l. h k (omega arith)))

where_true : (a b : Bool) → T (cond a b true) → T a → T b
where_true true b t h = t
where_true false b t h = absurd h

eqb_of : (a b : ℕ) → a ≡ b → T (eqb a b)
eqb_of a b e = subst (λ (c : ℕ). T (eqb a c)) e (eqb_refl a)

abbrev divides : ℕ → ℕ → Bool
divides m d = both (leb 2 d) (eqb (m % d) 0)

abbrev prime_test : ℕ → Bool
prime_test m = both (leb 2 m) (every (λ d. not (divides m d)) m)

prime_passes : (m : ℕ) → Prime m → T (prime_test m)
prime_passes m p =
    let none : (d : ℕ) → d < m → T (divides m d) → ⊥ = λ d l t.
    p.1 d (leb→le 2 d (both_left (leb 2 d) (eqb (m % d) 0) t), l, eqb→eq (m % d) 0 (both_right (leb 2 d) (eqb (m % d) 0) t)) in
    both_of (leb 2 m) _ (le→leb 2 m p.0) (to_every (λ d. not (divides m d)) m (λ d l. not_T (divides m d) (none d l)))

passed_prime : (m : ℕ) → T (prime_test m) → Prime m
passed_prime m t =
    let none : T (every (λ d. not (divides m d)) m) = both_right (leb 2 m) _ t in (
      leb→le 2 m (both_left (leb 2 m) _ t),
      λ d h. T_not (divides m d) (from_every (λ d. not (divides m d)) m none d h.1) (both_of (leb 2 d) _ (le→leb 2 d h.0) (eqb_of (m % d) 0 h.2)),
    )

pub odd_prime_31 : OddPrime 31
odd_prime_31 = (refl, passed_prime 31 tt)

pub least_31 : (n : ℕ) → n ≤ 30 → NoneBetween n 31 → LeastOddPrime n 31
least_31 n h none = (omega arith, odd_prime_31, none)

pub least_bound : (n q : ℕ) → n ≤ 30 → LeastOddPrime n q → q ≤ 31
least_bound n q h l = elim (cases_lt 31 q) [ inl above ↦ absurd (l.2 31 (omega arith, above, odd_prime_31)) | inr within ↦ within ]

-- d times its inverse number is one more than a multiple of q, where d is not 0
abbrev inverse_test : ℕ → ℕ → Bool
inverse_test q d = cond (ltb 0 d) (eqb ((d * inverse_number q d) % q) 1) true

abbrev inverses_test : ℕ → Bool
inverses_test q = cond (prime_test q) (every (inverse_test q) q) true

pub inverts : (q : ℕ) → OddPrime q → q ≤ 31 → Inverts q (inverse_number q)
inverts q p h d above below =
    let found : T (every (inverse_test q) q) = where_true (prime_test q) (every (inverse_test q) q) (from_every inverses_test 32 tt q (omega arith)) (prime_passes q p.1) in
    eqb→eq ((d * inverse_number q d) % q) 1
    (where_true (ltb 0 d) (eqb ((d * inverse_number q d) % q) 1) (from_every (inverse_test q) q found d below) (lt→ltb 0 d above))
