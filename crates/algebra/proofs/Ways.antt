-- The way from one place of a circle on to another, and the inverse of a difference of points that goes by it.
use Rattle.std.proofs.Common.{◌≡◌, ℕ, ◌+◌, ◌-◌, ◌/◌, ◌%◌, ◌<◌, ◌≤◌, sym, ap, ◌∙◌, inl, inr, mod-lt, mod-eq_of_lt, arith}
use Rattle.std.proofs.Math.Nat.{add-mod-mod, add-mod_right, div-add-mod}
use Rattle.std.proofs.lemmas.Bool.{cases_lt}
use Rattle.algebra.specs.Circle.{ahead, inverse_around}
use Rattle.algebra.specs.Module.{ModuleOps, ModuleLaws}
use Rattle.algebra.specs.Scalars.{Scalar, act, power, point}
use Rattle.algebra.specs.Sharing.{less, inverse}
use Rattle.algebra.specs.Theorems.{Inverts}
use Rattle.algebra.proofs.Actions.{undo, act_comm}
use Rattle.algebra.proofs.Points.{point_add, point_turns, point_unit, power_unit, unit}

-- the way where the other place comes first, and where it does not
ahead_over : (q j k : ℕ) → j < q → k < j → ahead q j k ≡ k + (q - j)
ahead_over q j k hj l = mod-eq_of_lt (omega arith)

ahead_straight : (q j k : ℕ) → j < q → k < q → j ≤ k → ahead q j k ≡ k - j
ahead_straight q j k hj hk l = let s : k + (q - j) ≡ k - j + q = omega arith in ap (λ n. n % q) s ∙ add-mod_right (k - j) q ∙ mod-eq_of_lt (omega arith)

-- there is some way from one place to another
pub ahead_some : (q j k : ℕ) → j < q → k < q → (k ≡ j → ⊥) → 0 < ahead q j k
ahead_some q j k hj hk apart = elim (cases_lt k j) [
  | inl l ↦ omega (arith, ahead_over q j k hj l)
  | inr l ↦ elim (cases_lt j k) [ inl l' ↦ omega (arith, ahead_straight q j k hj hk l) | inr l' ↦ absurd (apart (omega arith)) ]
]

-- and with the way back it makes a turn
pub ahead_back : (q j k : ℕ) → j < q → k < q → (k ≡ j → ⊥) → ahead q k j ≡ q - ahead q j k
ahead_back q j k hj hk apart = elim (cases_lt k j) [
  | inl l ↦ omega (arith, ahead_over q j k hj l, ahead_straight q k j hk hj (omega arith))
  | inr l ↦ elim (cases_lt j k) [ inl l' ↦ omega (arith, ahead_straight q j k hj hk l, ahead_over q k j hk l') | inr l' ↦ absurd (apart (omega arith)) ]
]

module _ {M : Type 0} {O : ModuleOps M} {q : ℕ} (L : ModuleLaws O q) where
  open O use {add, neg}

  -- so many whole turns more or less change nothing
  pub point_mod : (n : ℕ) (m : M) → act O (point (n % q)) m ≡ act O (point n) m
  point_mod n m = sym (point_turns L (n / q) (n % q) m) ∙ ap (λ i. act O (point i) m) (div-add-mod n q)

  -- the point k less the point j
  less_ahead : (k j : ℕ) → k < q → j ≤ q → (m : M) → act O (less (point k) (point j)) m ≡ act O (power j) (act O (point (ahead q j k)) m)
  less_ahead k j below h m =
      let whole : j + (k + (q - j)) ≡ k + q = omega arith in
      let round : (j + ahead q j k) % q ≡ k = add-mod-mod j (k + (q - j)) q ∙ ap (λ n. n % q) whole ∙ add-mod_right k q ∙ mod-eq_of_lt below in
      let parts = ap (λ n. act O (point n) m) (sym round) ∙ point_mod (j + ahead q j k) m ∙ point_add L j (ahead q j k) m in
      ap (λ s. add s (neg (act O (point j) m))) (parts ∙ L.add_comm _ _) ∙ undo L _ _

  module _ (inv : ℕ → ℕ) (inverts : Inverts q inv) (k j : ℕ) (hk : k < q) (hj : j < q) (apart : k ≡ j → ⊥) where
    unit_around : (m : M) → act O (less (point k) (point j)) (act O (inverse_around q inv k j) m) ≡ m
    unit_around m =
        let d : ℕ = ahead q j k in
        let one_way = point_unit L d (inv d) (inverts d (ahead_some q j k hj hk apart) (mod-lt (k + (q - j)) (omega arith))) m in
        less_ahead k j hk (omega arith) _ ∙ ap (act O (power j)) (act_comm L (point d) (power (q - j)) _ ∙ ap (act O (power (q - j))) one_way) ∙ power_unit L j (omega arith) m

    -- both undo the same difference
    pub around_inverse : (m : M) → act O (inverse_around q inv k j) m ≡ act O (inverse q inv k j) m
    around_inverse m =
        let d : Scalar = less (point k) (point j) in
        let e : Scalar = inverse q inv k j in
        let f : Scalar = inverse_around q inv k j in
        sym (unit L inv inverts k j hk hj apart (act O f m)) ∙ act_comm L d e (act O f m) ∙ ap (act O e) (unit_around m)
