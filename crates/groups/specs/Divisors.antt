-- The greatest common divisor, and what makes it.
use Rattle.std.specs.Prelude.{◌≡◌, ℕ, zero, suc, ◌+◌, ◌-◌, ◌*◌, ◌/◌, ◌%◌, ◌<◌, ◌≤◌, false, ◌==◌}
use Rattle.std.proofs.Common.{sym, ap, ◌∙◌, mod-lt, mod-eq_of_lt, mul_comm, arith}
use Rattle.std.proofs.Math.Nat.{mod_self, mod-one, zero-mod, dvd_of_mod-eq-zero, mod-eq-zero_of_dvd, dvd-mod_iff, dvd_antisymm, dvd-mul_right_of_dvd, add-mul-mod_self_right}
use Rattle.std.proofs.lemmas.Bool.{cond_both, eqb-true, eqb-false}
use Rattle.groups.specs.Units.{Divides, Gcd, gcd_within, gcd}
use Rattle.groups.specs.Congruences.{times_right, step}

pub gcd_end : (a b : ℕ) → b ≡ 0 → Gcd a b a
gcd_end a b e = record {
  of_first = mod_self a;
  of_second = ap (λ (x : ℕ). x % a) e ∙ zero-mod a;
  greatest = λ d h k. h;
}

-- what divides n divides a just if it divides what is left of a
to_rest : (d a n : ℕ) → Divides d a → Divides d n → Divides d (a % n)
to_rest d a n h k = mod-eq-zero_of_dvd d ((dvd-mod_iff d (dvd_of_mod-eq-zero d k)).1 (dvd_of_mod-eq-zero d h))

from_rest : (d a n : ℕ) → Divides d (a % n) → Divides d n → Divides d a
from_rest d a n h k = mod-eq-zero_of_dvd d ((dvd-mod_iff d (dvd_of_mod-eq-zero d k)).0 (dvd_of_mod-eq-zero d h))

of_product : (d a u : ℕ) → Divides d a → Divides d (a * u)
of_product d a u h = mod-eq-zero_of_dvd d (dvd-mul_right_of_dvd d (dvd_of_mod-eq-zero d h) u)

pub gcd_more : (a b d : ℕ) → Gcd b (a % b) d → Gcd a b d
gcd_more a b d g = record {
  of_first = from_rest d a b g.of_second g.of_first;
  of_second = g.of_first;
  greatest = λ e h k. g.greatest e k (to_rest e a b h k);
}

pub gcd_one : (a b d e : ℕ) → Gcd a b d → Gcd a b e → d ≡ e
gcd_one a b d e g h =
    dvd_antisymm (dvd_of_mod-eq-zero d (h.greatest d g.of_first g.of_second)) (dvd_of_mod-eq-zero e (g.greatest e h.of_first h.of_second))

below : (k a b : ℕ) → b ≤ suc k → (b == 0) ≡ false → a % b ≤ k
below k a b l f =
    let ne : b ≡ 0 → ⊥ = eqb-false b 0 f in
    let p : 0 < b = omega arith in
    let r : a % b < b = mod-lt a p in
    omega arith

gcd_within_is : (k a b : ℕ) → b ≤ k → Gcd a b (gcd_within k a b)
gcd_within_is zero a b l = gcd_end a b (omega arith)
gcd_within_is (suc k) a b l =
    cond_both (b == 0) a (gcd_within k b (a % b)) (λ d. Gcd a b d) (λ e. gcd_end a b (eqb-true b 0 e))
    (λ f. gcd_more a b (gcd_within k b (a % b)) (gcd_within_is k b (a % b) (below k a b l f)))

pub gcd_is : (a b : ℕ) → Gcd a b (gcd a b)
gcd_is a b = gcd_within_is b a b (omega arith)

module _ (n : ℕ) (big : 2 ≤ n) where
  abbrev Made : ℕ → ℕ → ℕ → Type 0
  Made a b d = (s : ℕ) × (t : ℕ) × ((s * a + t * b) % n ≡ d % n)

  made_end : (a b : ℕ) → Made a b a
  made_end a b = let e : 1 * a + 0 * b ≡ a = omega arith in (1, 0, ap (λ (x : ℕ). x % n) e)

  made_more : (a b d : ℕ) → Made b (a % b) d → Made a b d
  made_more a b d m = (m.1, (m.0 + (n - a / b * m.1 % n)) % n, step n a b d m.0 m.1 (omega arith) m.2)

  made : (k a b : ℕ) → b ≤ k → Made a b (gcd_within k a b)
  made zero a b l = made_end a b
  made (suc k) a b l =
      cond_both (b == 0) a (gcd_within k b (a % b)) (λ d. Made a b d) (λ e. made_end a b)
      (λ f. made_more a b (gcd_within k b (a % b)) (made k b (a % b) (below k a b l f)))

  -- the second number does not count modulo itself
  pub inverts : (a s t d : ℕ) → (s * a + t * n) % n ≡ d % n → d ≡ 1 → (a * s) % n ≡ 1
  inverts a s t d e f =
      ap (λ (x : ℕ). x % n) (mul_comm a s) ∙ sym (add-mul-mod_self_right (s * a) t n) ∙ e ∙ ap (λ (x : ℕ). x % n) f ∙ mod-eq_of_lt (omega arith)

  -- a number has an inverse modulo n just if it has no divisor but 1 in common with n
  pub inverse_of : (a : ℕ) → gcd a n ≡ 1 → (u : ℕ) × (u < n) × ((a * u) % n ≡ 1)
  inverse_of a e =
      let m : Made a n (gcd a n) = made n a n (omega arith) in
      let h : 0 < n = omega arith in
      (m.0 % n, mod-lt m.0 h, times_right n a m.0 ∙ inverts a m.0 m.1 (gcd a n) m.2 e)

  pub coprime_from : (a u : ℕ) → (a * u) % n ≡ 1 → gcd a n ≡ 1
  coprime_from a u e =
      gcd_one a n (gcd a n) 1 (gcd_is a n)
      (record {
        of_first = mod-one a;
        of_second = mod-one n;
        greatest = λ d h k. ap (λ (x : ℕ). x % d) (sym e) ∙ to_rest d (a * u) n (of_product d a u h) k;
      })
