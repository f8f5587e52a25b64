-- The powers and the points, and the inverses of the points' differences.
use Rattle.std.proofs.Common.{◌≡◌, ℕ, zero, suc, ◌+◌, ◌-◌, ◌*◌, ◌/◌, ◌%◌, ◌<◌, ◌≤◌, ltb, sym, refl, ap, ◌∙◌, add-sub_of_le, suc-add, mul-zero, zero-add, add-one, arith}
use Rattle.std.proofs.lemmas.Bool.{cond_both, ltb-true, ltb-false}
use Rattle.algebra.specs.Module.{ModuleOps, ModuleLaws, first_powers}
use Rattle.algebra.specs.Scalars.{Scalar, root, minus, act, power, point, geometric}
use Rattle.algebra.specs.Sharing.{less, inverse_above, inverse}
use Rattle.algebra.proofs.Actions.{nil_add, undo, act_add, act_nil, act_comm, ring}

module _ {M : Type 0} {O : ModuleOps M} {q : ℕ} (L : ModuleLaws O q) where
  open O use {nil, add, neg, shift}

  pub power_add : (i j : ℕ) (m : M) → act O (power (i + j)) m ≡ act O (power i) (act O (power j) m)
  power_add zero j m = rw zero-add
  power_add (suc i) j m = rw suc-add (ap shift (power_add i j m))

  pub point_add : (i j : ℕ) (m : M) → act O (point (i + j)) m ≡ add (act O (point i) m) (act O (power i) (act O (point j) m))
  point_add zero j m = rw zero-add (sym (nil_add L (act O (point j) m)))
  point_add (suc i) j m = rw suc-add (ap (λ s. add m (shift s)) (point_add i j m) ∙ simp (L.shift_add, L.add_assoc))

  pub point_first_powers : (k : ℕ) (m : M) → act O (point k) m ≡ first_powers O k m
  point_first_powers zero m = refl
  point_first_powers (suc k) m = ap (λ s. add m (shift s)) (point_first_powers k m)

  pub point_q : (m : M) → act O (point q) m ≡ nil
  point_q m = point_first_powers q m ∙ L.cycle m

  one_more : (k : ℕ) (m : M) → act O (point k) m ≡ nil → act O (point (suc k)) m ≡ m
  one_more k m e = ap (λ s. add m (shift s)) e ∙ ap (add m) (act_nil L root) ∙ L.add_nil m

  pub power_q : (m : M) → act O (power q) m ≡ m
  power_q m = cc (point_add q 1 m, point_q m, add-one q, one_more q m (point_q m), one_more 0 m refl, nil_add L (act O (power q) m))

  pub power_unit : (j : ℕ) → j ≤ q → (m : M) → act O (power j) (act O (power (q - j)) m) ≡ m
  power_unit j h m = sym (power_add j (q - j) m) ∙ ap (λ n. act O (power n) m) (add-sub_of_le h) ∙ power_q m

  -- a whole turn changes nothing
  pub point_turns : (t n : ℕ) (m : M) → act O (point (q * t + n)) m ≡ act O (point n) m
  point_turns zero n m = rw (mul-zero, zero-add)
  point_turns (suc t) n m =
      let e : q * suc t + n ≡ q + (q * t + n) = omega arith in
      rw (e, point_add q (q * t + n) m, point_q m, power_q) (nil_add L _ ∙ point_turns t n m)

  pub point_geometric : (d e : ℕ) (m : M) → act O (point d) (act O (geometric d e) m) ≡ act O (point (d * e)) m
  point_geometric d zero m = rw mul-zero (act_nil L (point d))
  point_geometric d (suc e) m =
      let h : d * suc e ≡ d + d * e = omega arith in
      rw (h, point_add d (d * e) m) (act_add L (point d) m _ ∙ ap (add (act O (point d) m)) (act_comm L (point d) (power d) _ ∙ ap (act O (power d)) (point_geometric d e m)))

  pub point_unit : (d e : ℕ) → (d * e) % q ≡ 1 → (m : M) → act O (point d) (act O (geometric d e) m) ≡ m
  point_unit d e h m =
      let turns : d * e ≡ q * (d * e / q) + 1 = omega arith in
      point_geometric d e m ∙ ap (λ n. act O (point n) m) turns ∙ point_turns (d * e / q) 1 m ∙ one_more 0 m refl

  pub less_above : (k j : ℕ) → j ≤ k → (m : M) → act O (less (point k) (point j)) m ≡ act O (power j) (act O (point (k - j)) m)
  less_above k j h m =
      let parts = ap (λ n. act O (point n) m) (sym (add-sub_of_le h)) ∙ point_add j (k - j) m in
      ap (λ s. add s (neg (act O (point j) m))) (parts ∙ L.add_comm _ _) ∙ undo L _ _

  pub less_swap : (s t : Scalar) (m : M) → act O (less s t) (neg m) ≡ act O (less t s) m
  less_swap s t m = simp (ring, L)

  -- inv d is what d is multiplied by to give one more than a multiple of q
  module _ (inv : ℕ → ℕ) (inverts : (d : ℕ) → 0 < d → d < q → (d * inv d) % q ≡ 1) where
    above_unit : (k j : ℕ) → j < k → k < q → (m : M) → act O (less (point k) (point j)) (act O (inverse_above q inv k j) m) ≡ m
    above_unit k j h below m =
        let unit = point_unit (k - j) (inv (k - j)) (inverts (k - j) (omega arith) (omega arith)) m in
        less_above k j (omega arith) _ ∙ ap (act O (power j)) (act_comm L (point (k - j)) (power (q - j)) _ ∙ ap (act O (power (q - j))) unit) ∙ power_unit j (omega arith) m

    pub unit : (k j : ℕ) → k < q → j < q → (k ≡ j → ⊥) → (m : M) → act O (less (point k) (point j)) (act O (inverse q inv k j) m) ≡ m
    unit k j k-below j-below apart m =
        cond_both (ltb j k) (inverse_above q inv k j) (minus (inverse_above q inv j k)) (λ s. act O (less (point k) (point j)) (act O s m) ≡ m)
        (λ e. above_unit k j (ltb-true j k e) k-below m)
        (λ e. let h : k ≤ j = ltb-false j k e in less_swap (point k) (point j) _ ∙ above_unit j k (omega arith) j-below m)
