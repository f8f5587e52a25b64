-- Sums and products modulo n.
use Rattle.std.specs.Prelude.{◌≡◌, ℕ, ◌+◌, ◌-◌, ◌*◌, ◌/◌, ◌%◌, ◌<◌}
use Rattle.std.proofs.Common.{sym, ap, ◌∙◌, mod-lt, div-add-mod', add-mul, mul-add, mul_assoc, mul_comm, arith}
use Rattle.std.proofs.Math.Nat.{mod-add-mod, add-mod-mod, add-mod_right, mod-add-div, add-mul-mod_self_left}

module _ (n : ℕ) where
  pub times_left : (a b : ℕ) → (a % n * b) % n ≡ (a * b) % n
  times_left a b =
      let q = a / n in
      sym (ap (λ (x : ℕ). (x * b) % n) (sym (mod-add-div a n)) ∙ ap (λ (x : ℕ). x % n) (add-mul (a % n) (n * q) b ∙ ap (λ (x : ℕ). a % n * b + x) (mul_assoc n q b)) ∙ add-mul-mod_self_left (a % n * b) n (q * b))

  pub times_right : (a b : ℕ) → (a * (b % n)) % n ≡ (a * b) % n
  times_right a b = ap (λ (x : ℕ). x % n) (mul_comm a (b % n)) ∙ times_left b a ∙ ap (λ (x : ℕ). x % n) (mul_comm b a)

  pub same_times : (a c b : ℕ) → a % n ≡ c % n → (a * b) % n ≡ (c * b) % n
  same_times a c b e = sym (times_left a b) ∙ ap (λ (x : ℕ). (x * b) % n) e ∙ times_left c b

  pub same_plus : (a c b : ℕ) → a % n ≡ c % n → (a + b) % n ≡ (c + b) % n
  same_plus a c b e = sym (mod-add-mod a n b) ∙ ap (λ (x : ℕ). (x + b) % n) e ∙ mod-add-mod c n b

  -- s less w, modulo n, and w again
  less_again : (s w : ℕ) → 0 < n → ((s + (n - w % n)) % n + w) % n ≡ s % n
  less_again s w h =
      let l : w % n < n = mod-lt w h in
      let e : s + (n - w % n) + w % n ≡ s + n = omega arith in
      mod-add-mod (s + (n - w % n)) n w ∙ sym (add-mod-mod (s + (n - w % n)) w n) ∙ ap (λ (x : ℕ). x % n) e ∙ add-mod_right s n

  -- one step of Euclid's algorithm on the coefficients
  pub step : (a b d s t : ℕ) → 0 < n → (s * b + t * (a % b)) % n ≡ d % n → (t * a + (s + (n - a / b * t % n)) % n * b) % n ≡ d % n
  step a b d s t h e =
      let q = a / b in
      let r = a % b in
      let c = (s + (n - q * t % n)) % n in
      let split : t * a ≡ t * (q * b + r) = ap (λ (x : ℕ). t * x) (sym (div-add-mod' a b)) in
      let opened : t * (q * b + r) ≡ t * (q * b) + t * r = mul-add t (q * b) r in
      let turned : t * (q * b) ≡ q * t * b = sym (mul_assoc t q b) ∙ ap (λ (x : ℕ). x * b) (mul_comm t q) in
      let joined : (c + q * t) * b ≡ c * b + q * t * b = add-mul c (q * t) b in
      let all : t * a + c * b ≡ (c + q * t) * b + t * r = omega (arith, split, opened, turned, joined) in
      ap (λ (x : ℕ). x % n) all ∙ same_plus ((c + q * t) * b) (s * b) (t * r) (same_times (c + q * t) s b (less_again s (q * t) h)) ∙ e
