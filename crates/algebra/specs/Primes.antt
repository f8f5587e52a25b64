-- Primes, and the number that inverts another modulo a prime.
use Rattle.std.specs.Prelude.{◌≡◌, ℕ, zero, suc, ◌+◌, ◌-◌, ◌*◌, ◌%◌, ◌<◌, ◌≤◌, cond, ◌==◌}

-- at least 2, and divided by no number from 2 below it
abbrev pub Prime : ℕ → Type 0
Prime m = (2 ≤ m) × ((d : ℕ) → (2 ≤ d) × (d < m) × (m % d ≡ 0) → ⊥)

abbrev pub OddPrime : ℕ → Type 0
OddPrime m = (m % 2 ≡ 1) × Prime m

-- no number between n and q is an odd prime
abbrev pub NoneBetween : ℕ → ℕ → Type 0
NoneBetween n q = (m : ℕ) → (n < m) × (m < q) × OddPrime m → ⊥

-- q is the least odd prime above n
abbrev pub LeastOddPrime : ℕ → ℕ → Type 0
LeastOddPrime n q = (n < q) × OddPrime q × NoneBetween n q

-- the first of the k numbers from e on that times d is one more than a multiple of q; 0 where there is none
abbrev pub inverse_from : ℕ → ℕ → ℕ → ℕ → ℕ
inverse_from q d e zero = 0
inverse_from q d e (suc k) = cond ((d * e) % q == 1) e (inverse_from q d (e + 1) k)

-- the number from 1 to q - 1 that times d is one more than a multiple of q
abbrev pub inverse_number : ℕ → ℕ → ℕ
inverse_number q d = inverse_from q d 1 (q - 1)
