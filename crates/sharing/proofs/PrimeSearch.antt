-- What the searches for a prime and for an inverse answer.
use Rattle.std.proofs.Common.{◌≡◌, ℕ, zero, suc, ◌+◌, ◌-◌, ◌*◌, ◌%◌, ◌<◌, ◌≤◌, Bool, true, false, cond, eqb, length, Some, None, Option, MatchBool, MatchOption, sym, refl, ap, ◌∙◌, subst, arith}
use Rattle.std.specs.List.{AllWithin, HoldsAt, range_with_len}
use Rattle.std.specs.Option.{unwrap_or}
use Rattle.std.proofs.lemmas.List.FromFn.{length-range_with_len, get_or-range_with_len}
use Rattle.algebra.specs.Primes.{OddPrime, LeastOddPrime, inverse_from}
use Rattle.algebra.specs.Rows.{first_place}
use Rattle.algebra.proofs.PrimeNumbers.{least_31}

-- whether the numbers from 2 up to m divide m
pub odd_prime : (m : ℕ) (r : Bool) → 2 ≤ m → (m % 2 ≡ 0 → ⊥)
    → MatchBool r (AllWithin (λ d. m % d ≡ 0 → ⊥) (range_with_len 2 (m - 2)) 0 (length (range_with_len 2 (m - 2)))) ((k : ℕ) × (k < length (range_with_len 2 (m - 2))) × HoldsAt (λ d. m % d ≡ 0) (range_with_len 2 (m - 2)) k)
    → MatchBool r (OddPrime m) (OddPrime m → ⊥)
odd_prime m true low odd e = (
  omega arith,
  (
    low,
    λ d h.
        let l : d - 2 < m - 2 = omega (arith, h.0, h.1) in
        let k : d - 2 < length (range_with_len 2 (m - 2)) = omega (arith, length-range_with_len 2 (m - 2)) in
        let s : 2 + (d - 2) ≡ d = omega (arith, h.0) in
        e (d - 2) 0 (omega arith) k (subst (λ k. m % k ≡ 0) (sym (get_or-range_with_len 2 (m - 2) (d - 2) 0 l ∙ s)) h.2),
  ),
)
odd_prime m false low odd e = λ p.
    let l : e.0 < m - 2 = omega (arith, e.1, length-range_with_len 2 (m - 2)) in
    p.1.1 (2 + e.0) (omega arith, omega (arith, l), subst (λ k. m % k ≡ 0) (get_or-range_with_len 2 (m - 2) e.0 0 l) (e.2 0))

-- the first odd prime from n + 1 on, or 31
pub least_odd_prime : (n : ℕ) (r : Option ℕ) (q : ℕ) → q ≡ unwrap_or r 31 → n ≤ 30
    → MatchOption r ((k : ℕ) → n + 1 ≤ k → k < 31 → OddPrime k → ⊥) (λ i. (n + 1 ≤ i) × (i < 31) × OddPrime i × ((k : ℕ) → n + 1 ≤ k → k < i → OddPrime k → ⊥))
    → LeastOddPrime n q
least_odd_prime n None q is h e = subst (LeastOddPrime n) (sym is) (least_31 n h (λ m p. e m (omega (arith, p.0)) p.1 p.2))
least_odd_prime n (Some i) q is h e = subst (LeastOddPrime n) (sym is) (omega (arith, e.0), e.2, λ m p. e.3 m (omega (arith, p.0)) p.1 p.2)

or_zero : (b : Bool) (e : ℕ) (r : Option ℕ) → unwrap_or (cond b (Some e) r) 0 ≡ cond b e (unwrap_or r 0)
or_zero true e r = refl
or_zero false e r = refl

pub inverse_place : (q d e k : ℕ) → unwrap_or (first_place (λ e. eqb ((d * e) % q) 1) e k) 0 ≡ inverse_from q d e k
inverse_place q d e zero = refl
inverse_place q d e (suc k) =
    let test : Bool = eqb ((d * e) % q) 1 in
    or_zero test e (first_place (λ e. eqb ((d * e) % q) 1) (e + 1) k) ∙ ap (cond test e) (inverse_place q d (e + 1) k)
