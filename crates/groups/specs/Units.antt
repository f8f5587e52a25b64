-- The numbers below a modulus that have no divisor but 1 in common with it, multiplied modulo it.
use Rattle.std.specs.Prelude.{◌≡◌, ℕ, zero, suc, ◌+◌, ◌*◌, ◌%◌, ◌<◌, ◌≤◌, cond, ◌==◌, nat_le, nat_lt}
use Rattle.algebra.specs.Group.{GroupOps}
use Rattle.algebra.specs.Tuples.{both}
use Rattle.algebra.specs.Primes.{inverse_number}

abbrev pub InRange : ℕ → Type 0
InRange m = (3 ≤ m) × (m ≤ 2147483647)

-- d divides n
abbrev pub Divides : ℕ → ℕ → Type 0
Divides d n = n % d ≡ 0

-- d is the greatest common divisor of a and b: it divides both, and what divides both divides it
pub record Gcd (a b d : ℕ) : Type 0 where
  pub of_first : Divides d a
  pub of_second : Divides d b
  pub greatest : (e : ℕ) → Divides e a → Divides e b → Divides e d

-- s times a and t times b, modulo n, make the greatest common divisor of a and b, which is d
pub record Combines (n a b d s t : ℕ) : Type 0 where
  pub divisor : Gcd a b d
  pub makes : (s * a + t * b) % n ≡ d % n
  pub first_below : s < n
  pub second_below : t < n

-- the greatest common divisor, in at most k divisions
abbrev pub gcd_within : ℕ → ℕ → ℕ → ℕ
gcd_within zero a b = a
gcd_within (suc k) a b = cond (b == 0) a (gcd_within k b (a % b))

-- the remainders fall from b on, so b divisions are enough
abbrev pub gcd : ℕ → ℕ → ℕ
gcd a b = gcd_within b a b

abbrev pub units : ℕ → GroupOps ℕ
units m = record {
  valid = λ a. both (nat_le 1 a) (both (nat_lt a m) (gcd a m == 1));
  same = λ a b. a == b;
  zero = 1;
  plus = λ a b. (a * b) % m;
  minus = inverse_number m;
}
