-- Points and factors of weights as quotients: what (1 - x^d) times each is, in any module.
use Rattle.std.proofs.Common.{◌≡◌, ℕ, zero, suc, ◌+◌, ◌*◌, sym, ap, ◌∙◌, ap₂, mul-zero, arith}
use Rattle.algebra.specs.Module.{ModuleOps, ModuleLaws}
use Rattle.algebra.specs.Scalars.{Scalar, root, times, act, power, point, geometric}
use Rattle.algebra.specs.Sharing.{less}
use Rattle.algebra.proofs.Actions.{interchange, cancel, act_add, act_nil, act_comm, ring}
use Rattle.algebra.proofs.Points.{power_add}

module _ {M : Type 0} {O : ModuleOps M} {q : ℕ} (L : ModuleLaws O q) where
  open O use {nil, add, neg, shift}

  -- two equations of quotients, one less the other
  apart : (s a b s' a' b' u v m : M) → add s b ≡ a → add s' b' ≡ a' → add a u ≡ add a' m → add b v ≡ add b' m → add s u ≡ add s' v
  apart s a b s' a' b' u v m e e' f g =
      cancel L (add b (add b' m)) (add s u) (add s' v)
      (add_four s u b (add b' m) ∙ ap₂ (λ x y. add (add x u) y) e (sym g) ∙ ap (λ x. add x (add b v)) (f ∙ ap (λ x. add x m) (sym e')) ∙ simp (ring, L))
    where
      add_four : (a b c d : M) → add (add a b) (add c d) ≡ add (add (add a c) b) d
      add_four a b c d = simp (ring, L)

  -- (1 - x) a(i) = 1 - x^i
  pub point_run : (i : ℕ) (m : M) → add (act O (point i) m) (act O (power i) m) ≡ add (shift (act O (point i) m)) m
  point_run zero m = ap (λ z. add z m) (sym (act_nil L root))
  point_run (suc i) m =
      let p = act O (point i) m in
      let e = act O (power i) m in
      L.add_assoc m (shift p) (shift e)
      ∙ ap (add m) (sym (L.shift_add p e) ∙ ap shift (point_run i m ∙ L.add_comm (shift p) m))
      ∙ L.add_comm m (shift (add m (shift p)))

  -- (1 - x^d) (1 + x^d + … + x^(d(e-1))) = 1 - x^(d e)
  pub geometric_run : (d e : ℕ) (m : M) → add (act O (geometric d e) m) (act O (power (d * e)) m) ≡ add (act O (power d) (act O (geometric d e) m)) m
  geometric_run d zero m = rw mul-zero (ap (λ z. add z m) (sym (act_nil L (power d))))
  geometric_run d (suc e) m =
      let g = act O (geometric d e) m in
      let p = act O (power (d * e)) m in
      let h : d * suc e ≡ d + d * e = omega arith in
      ap (λ n. add (add m (act O (power d) g)) (act O (power n) m)) h
      ∙ ap (add (add m (act O (power d) g))) (power_add L d (d * e) m)
      ∙ L.add_assoc m (act O (power d) g) (act O (power d) p)
      ∙ ap (add m) (sym (act_add L (power d) g p) ∙ ap (act O (power d)) (geometric_run d e m ∙ L.add_comm (act O (power d) g) m))
      ∙ L.add_comm m (act O (power d) (add m (act O (power d) g)))

  -- (1 - x) (a(k) - a(p)) = x^p - x^k
  less_run : (k p : ℕ) (m : M) → add (act O (less (point k) (point p)) m) (act O (power k) m) ≡ add (shift (act O (less (point k) (point p)) m)) (act O (power p) m)
  less_run k p m =
      let a = act O (point k) m in
      let b = act O (point p) m in
      let s = act O (less (point k) (point p)) m in
      let u = act O (power k) m in
      let v = act O (power p) m in
      let back : add s b ≡ a = L.add_assoc a (neg b) b ∙ ap (add a) (L.add_comm (neg b) b ∙ L.add_neg b) ∙ L.add_nil a in
      let shifted : add (shift s) (shift b) ≡ shift a = sym (L.shift_add s b) ∙ ap shift back in
      apart s a b (shift s) (shift a) (shift b) u v m back shifted (point_run k m) (point_run p m)

  -- (1 - x^d) times k's part in a weight: (x^p - x^k) x^c, where x^(d e) is x on m
  pub factor_run : (k p c d e : ℕ) (m : M) → act O (power (d * e)) m ≡ shift m
      → let y = act O (less (point k) (point p)) (act O (power c) (act O (geometric d e) m)) in
      add y (act O (power (k + c)) m) ≡ add (act O (power d) y) (act O (power (p + c)) m)
  factor_run k p c d e m one =
      let s : Scalar = times (less (point k) (point p)) (power c) in
      let z = act O (geometric d e) m in
      let n = act O (power c) m in
      let once : add z (shift m) ≡ add (act O (power d) z) m = ap (add z) (sym one) ∙ geometric_run d e m in
      let both : add (act O s z) (shift (act O s m)) ≡ add (act O (power d) (act O s z)) (act O s m) =
      ap (add (act O s z)) (sym (act_comm L s root m)) ∙ sym (act_add L s z (shift m)) ∙ ap (act O s) once ∙ act_add L s (act O (power d) z) m
      ∙ ap (λ t. add t (act O s m)) (act_comm L s (power d) z) in
      ap (add (act O s z)) (power_add L k c m)
      ∙ turned (act O s z) (act O (power d) (act O s z)) (act O s m) (shift (act O s m)) (act O (power k) n) (act O (power p) n) both (less_run k p n)
      ∙ ap (add (act O (power d) (act O s z))) (sym (power_add L p c m))
    where
      turned : (y y' s s' u v : M) → add y s' ≡ add y' s → add s u ≡ add s' v → add y u ≡ add y' v
      turned y y' s s' u v e f = cancel L (add s' s) (add y u) (add y' v) (interchange L y u s' s ∙ ap₂ add e (L.add_comm u s ∙ f) ∙ simp (ring, L))
