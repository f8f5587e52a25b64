-- Functions on a circle of q places: a module in which x only turns. What tuples are read as, up to one element for all places.
use Rattle.std.proofs.Common.{◌≡◌, ℕ, zero, suc, ◌+◌, ◌*◌, ◌%◌, sym, refl, ap, ◌∙◌, ap₂, arith}
use mathlib.Core.Path.{fun_ext}
use Rattle.std.proofs.Math.Nat.{add-mod-mod, add-mul-mod_self_right}
use Rattle.algebra.specs.Module.{ModuleOps, ModuleLaws}
use Rattle.algebra.specs.Scalars.{Scalar, nought, one, root, plus, times, minus, act, power}
use Rattle.algebra.proofs.Actions.{interchange, cancel, neg_add, act_add}

-- n turns of w places, and one place less than the circle has is one place back
pub turned_back : (w u n m : ℕ) → (n + m) % suc w ≡ 0 → (u + n * w) % suc w ≡ (u + m) % suc w
turned_back w u n m h =
    let all : u + n * w + (n + m) ≡ u + m + n * suc w = omega arith in
    let none : (u + n * w + (n + m)) % suc w ≡ (u + n * w) % suc w =
    sym (add-mod-mod (u + n * w) (n + m) (suc w)) ∙ ap (λ z. (u + n * w + z) % suc w) h ∙ ap (λ z. z % suc w) (omega arith) in
    sym none ∙ ap (λ z. z % suc w) all ∙ add-mul-mod_self_right (u + m) n (suc w)

module _ {V : Type 0} {A : ModuleOps V} (LA : ModuleLaws A 0) (w : ℕ) where
  abbrev pub circle : ModuleOps (ℕ → V)
  circle = record { nil = λ i. A.nil; add = λ f g i. A.add (f i) (g i); neg = λ f i. A.neg (f i); shift = λ f i. f (i + w) }

  pub circle_laws : ModuleLaws circle 0
  circle_laws = record {
    add_comm = λ f g. fun_ext (λ i. LA.add_comm (f i) (g i));
    add_assoc = λ f g h. fun_ext (λ i. LA.add_assoc (f i) (g i) (h i));
    add_nil = λ f. fun_ext (λ i. LA.add_nil (f i));
    add_neg = λ f. fun_ext (λ i. LA.add_neg (f i));
    shift_add = λ f g. refl;
    cycle = λ f. refl;
  }

  pub power_at : (k : ℕ) (f : ℕ → V) (i : ℕ) → act circle (power k) f i ≡ f (i + k * w)
  power_at zero f i = let e : i ≡ i + 0 * w = omega arith in ap f e
  power_at (suc k) f i = let e : i + w + k * w ≡ i + suc k * w = omega arith in power_at k f (i + w) ∙ ap f e

  -- what is the same at all places stays so
  level : (s : Scalar) (v : V) → (k : V) × ((i : ℕ) → act circle s (λ j. v) i ≡ k)
  level nought v = (A.nil, λ i. refl)
  level one v = (v, λ i. refl)
  level root v = (v, λ i. refl)
  level (plus s t) v = let a = level s v in let b = level t v in (A.add a.0 b.0, λ i. ap₂ A.add (a.1 i) (b.1 i))
  level (times s t) v =
      let b = level t v in let a = level s b.0 in (a.0, λ i. ap (λ f. act circle s f i) (fun_ext b.1) ∙ a.1 i)
  level (minus s) v = let a = level s v in (A.neg a.0, λ i. ap A.neg (a.1 i))

  -- how the elements of a module are read around the circle
  pub record Reads {M : Type 0} (O : ModuleOps M) (at : M → ℕ → V) : Type 0 where
    pub nil_at : (i : ℕ) → at O.nil i ≡ A.nil
    pub add_at : (a b : M) (i : ℕ) → at (O.add a b) i ≡ A.add (at a i) (at b i)
    pub neg_at : (a : M) (i : ℕ) → at (O.neg a) i ≡ A.neg (at a i)
    pub shift_at : (a : M) → (k : V) × ((i : ℕ) → at a (i + w) ≡ A.add (at (O.shift a) i) k)
    pub turn_at : (a : M) (i j : ℕ) → i % suc w ≡ j % suc w → at a i ≡ at a j

  module _ {M : Type 0} (O : ModuleOps M) (at : M → ℕ → V) (R : Reads O at) where
    -- a scalar acts on what is read as on the element, up to one element for all places
    near : (s : Scalar) (m : M) → (k : V) × ((i : ℕ) → act circle s (at m) i ≡ A.add (at (act O s m) i) k)
    near nought m = (A.nil, λ i. sym (LA.add_nil _ ∙ R.nil_at i))
    near one m = (A.nil, λ i. sym (LA.add_nil _))
    near root m = R.shift_at m
    near (plus s t) m =
        let a = near s m in let b = near t m in (
          A.add a.0 b.0,
          λ i. ap₂ A.add (a.1 i) (b.1 i) ∙ interchange LA _ _ _ _ ∙ ap (λ v. A.add v (A.add a.0 b.0)) (sym (R.add_at _ _ i)),
        )
    near (times s t) m =
        let b = near t m in
        let a = near s (act O t m) in
        let c = level s b.0 in (
          A.add a.0 c.0,
          λ i. ap (λ f. act circle s f i) (fun_ext b.1)
              ∙ ap (λ f. f i) (act_add circle_laws s (at (act O t m)) (λ j. b.0))
              ∙ ap₂ A.add (a.1 i) (c.1 i) ∙ LA.add_assoc _ _ _,
        )
    near (minus s) m =
        let a = near s m in
        (A.neg a.0, λ i. ap A.neg (a.1 i) ∙ neg_add LA _ _ ∙ ap (λ v. A.add v (A.neg a.0)) (sym (R.neg_at _ i)))

    -- where (1 - x^d) s = x^a - x^b on the circle, the reading of s m goes on by d places at a time
    pub runs : (s : Scalar) (d a b come gone : ℕ) (m : M) → (a + come) % suc w ≡ 0 → (b + gone) % suc w ≡ 0
        → circle.add (act circle s (at m)) (act circle (power b) (at m)) ≡ circle.add (act circle (power d) (act circle s (at m))) (act circle (power a) (at m))
        → (u : ℕ) → A.add (at (act O s m) (u + d)) (at m (u + d + gone)) ≡ A.add (at (act O s m) u) (at m (u + d + come))
    runs s d a b come gone m ea eb e u =
        let r = act O s m in
        let n = near s m in
        let i : ℕ = u + d in
        let k = n.0 in
        let before : act circle (power b) (at m) i ≡ at m (i + gone) = power_at b (at m) i ∙ R.turn_at m _ _ (turned_back w i b gone eb) in
        let after : act circle (power a) (at m) i ≡ at m (i + come) = power_at a (at m) i ∙ R.turn_at m _ _ (turned_back w i a come ea) in
        let round : u + d + d * w ≡ u + d * suc w = omega arith in
        let back : act circle (power d) (act circle s (at m)) i ≡ A.add (at r u) k =
        power_at d (act circle s (at m)) i ∙ n.1 (i + d * w)
        ∙ ap (λ v. A.add v k) (R.turn_at r _ _ (ap (λ z. z % suc w) round ∙ add-mul-mod_self_right u d (suc w))) in
        cancel LA k _ _
        (aside (at r i) (at m (i + gone)) k
        ∙ ap₂ A.add (sym (n.1 i)) (sym before)
        ∙ ap (λ f. f i) e
        ∙ ap₂ A.add back after
        ∙ sym (aside (at r u) (at m (i + come)) k))
      where
        aside : (x y k : V) → A.add (A.add x y) k ≡ A.add (A.add x k) y
        aside x y k = LA.add_assoc x y k ∙ ap (A.add x) (LA.add_comm y k) ∙ sym (LA.add_assoc x k y)
