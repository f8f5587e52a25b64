-- Polynomials over a module: their values, sums, factors and quotients.
use Rattle.std.proofs.Common.{◌≡◌, ℕ, zero, suc, ◌≤◌, List, [], ◌∷◌, map, length, get_or, sym, refl, ap, ◌∙◌, arith}
use mathlib.Core.List.{zip_with}
use Rattle.std.specs.List.{AllByRecursion}
use Rattle.std.proofs.ByRecursion.{All-weaker}
use Rattle.algebra.specs.Module.{ModuleOps, ModuleLaws}
use Rattle.algebra.specs.Scalars.{Scalar, one, minus, act}
use Rattle.algebra.specs.Sharing.{value, repeat, terms, join, grow, cover, less}
use Rattle.algebra.proofs.Actions.{nil_add, interchange, undo, act_add, act_nil, act_neg, act_comm, ring}

module _ {M : Type 0} (O : ModuleOps M) where
  -- the values at b of the polynomial's ends: the quotient of z f(z) - b f(b) by z - b
  abbrev pub quotient : List M → Scalar → List M
  quotient [] b = []
  quotient (c ∷ cs) b = value O (c ∷ cs) b ∷ quotient cs b

  abbrev pub tail_quotient : List M → Scalar → List M
  tail_quotient [] b = []
  tail_quotient (c ∷ cs) b = quotient cs b

module _ {M : Type 0} {O : ModuleOps M} {q : ℕ} (L : ModuleLaws O q) where
  open O use {nil, add, neg, shift}

  pub terms_value : (cs : List M) (n : ℕ) (z : Scalar) → terms O cs n z ≡ act O (repeat z n) (value O cs z)
  terms_value [] n z = sym (act_nil L (repeat z n))
  terms_value (c ∷ cs) n z = ap (add _) (terms_value cs (suc n) z ∙ act_comm L z (repeat z n) _) ∙ sym (act_add L (repeat z n) c _)

  pub value_join : (cs ds : List M) (z : Scalar) → value O (join O cs ds) z ≡ add (value O cs z) (value O ds z)
  value_join [] ds z = sym (nil_add L _)
  value_join (c ∷ cs) [] z = sym (L.add_nil _)
  value_join (c ∷ cs) (d ∷ ds) z = ap (add (add c d)) (ap (act O z) (value_join cs ds z) ∙ act_add L z _ _) ∙ interchange L c d _ _

  pub zip_join : (cs ds : List M) → length cs ≡ length ds → zip_with add cs ds ≡ join O cs ds
  unfolding zip_with
  zip_join [] [] h = refl
  zip_join [] (d ∷ ds) h = absurd (omega arith)
  zip_join (c ∷ cs) [] h = absurd (omega arith)
  zip_join (c ∷ cs) (d ∷ ds) h = ap (λ r. add c d ∷ r) (zip_join cs ds (omega arith))

  pub length_join : (n : ℕ) (cs ds : List M) → length cs ≤ n → length ds ≤ n → length (join O cs ds) ≤ n
  length_join n [] ds g h = h
  length_join n (c ∷ cs) [] g h = g
  length_join zero (c ∷ cs) (d ∷ ds) g h = absurd (omega arith)
  length_join (suc n) (c ∷ cs) (d ∷ ds) g h =
      let k = length_join n cs ds (omega arith) (omega arith) in omega arith

  pub value_act : (s : Scalar) (cs : List M) (z : Scalar) → value O (map (act O s) cs) z ≡ act O s (value O cs z)
  value_act s [] z = sym (act_nil L s)
  value_act s (c ∷ cs) z = ap (add _) (ap (act O z) (value_act s cs z) ∙ act_comm L z s _) ∙ sym (act_add L s c _)

  pub value_grow : (u v : Scalar) (k : M) (cs : List M) (z : Scalar) → value O (grow O u v k cs) z ≡ add k (add (act O u (value O cs z)) (act O z (act O v (value O cs z))))
  value_grow u v k [] z = simp (ring, L)
  value_grow u v k (c ∷ cs) z = ap (add (add k (act O u c))) (ap (act O z) (value_grow u v (act O v c) cs z)) ∙ simp (ring, L)

  pub length_grow : (u v : Scalar) (k : M) (cs : List M) → length (grow O u v k cs) ≡ suc (length cs)
  length_grow u v k [] = refl
  length_grow u v k (c ∷ cs) = ap suc (length_grow u v (act O v c) cs)

  module _ (a e : ℕ → Scalar) where
    pub length_cover : (S : List ℕ) (δ : M) → length (cover O e S δ) ≡ suc (length S)
    length_cover [] δ = refl
    length_cover (i ∷ S) δ = length_grow one (minus (e i)) nil (cover O e S δ) ∙ ap suc (length_cover S δ)

    first_grow : (v : Scalar) (cs : List M) → get_or (grow O one v nil cs) 0 nil ≡ get_or cs 0 nil
    first_grow v [] = refl
    first_grow v (c ∷ cs) = nil_add L c

    pub first_cover : (S : List ℕ) (δ : M) → get_or (cover O e S δ) 0 nil ≡ δ
    first_cover [] δ = refl
    first_cover (i ∷ S) δ = first_grow (minus (e i)) (cover O e S δ) ∙ first_cover S δ

    value_cover : (i : ℕ) (S : List ℕ) (δ : M) (z : Scalar) → value O (cover O e (i ∷ S) δ) z ≡ add (value O (cover O e S δ) z) (neg (act O z (act O (e i) (value O (cover O e S δ) z))))
    value_cover i S δ z = value_grow one (minus (e i)) nil (cover O e S δ) z ∙ nil_add L _ ∙ ap (add _) (act_neg L z _)

    pub cover_vanishes : (S : List ℕ) → AllByRecursion (λ i. (m : M) → act O (a i) (act O (e i) m) ≡ m) S → (δ : M) → AllByRecursion (λ i. value O (cover O e S δ) (a i) ≡ nil) S
    cover_vanishes [] units δ = tt
    cover_vanishes (i ∷ S) units δ = (
      value_cover i S δ (a i) ∙ ap (add _) (ap neg (units.0 _)) ∙ L.add_neg _,
      All-weaker (λ j. value O (cover O e S δ) (a j) ≡ nil) (λ j. value O (cover O e (i ∷ S) δ) (a j) ≡ nil)
          (λ j h. value_cover i S δ (a j) ∙ rw h (simp (ring, L)))
          S (cover_vanishes S units.1 δ),
    )

  length_quotient : (cs : List M) (b : Scalar) → length (quotient O cs b) ≡ length cs
  length_quotient [] b = refl
  length_quotient (c ∷ cs) b = ap suc (length_quotient cs b)

  -- in a ring: z f(z) + b g = b f(b) + z g, where (z - b) g = z f(z) - b f(b)
  divides_step : (b z : Scalar) (c v w g : M) → add (act O z v) (act O b g) ≡ add (act O b w) (act O z g) → add (act O z (add c (act O z v))) (act O b (add (add c (act O b w)) (act O z g))) ≡ add (act O b (add c (act O b w))) (act O z (add (add c (act O b w)) (act O z g)))
  divides_step b z c v w g e =
      let rest = add (act O z c) (act O b (add c (act O b w))) in
      let from : add (act O z (add c (act O z v))) (act O b (add (add c (act O b w)) (act O z g))) ≡ add rest (act O z (add (act O z v) (act O b g))) = simp (ring, L) in
      let to : add rest (act O z (add (act O b w) (act O z g))) ≡ add (act O b (add c (act O b w))) (act O z (add (add c (act O b w)) (act O z g))) = simp (ring, L) in
      from ∙ ap (add rest) (ap (act O z) e) ∙ to

  divides : (cs : List M) (b z : Scalar) → add (act O z (value O cs z)) (act O b (value O (quotient O cs b) z)) ≡ add (act O b (value O cs b)) (act O z (value O (quotient O cs b) z))
  divides [] b z = simp (ring, L)
  divides (c ∷ cs) b z = divides_step b z c _ _ _ (divides cs b z)

  -- f(z) + (b - z) g(z) = f(b), for a g with one coefficient less
  pub remainder : (cs : List M) (b z : Scalar) → add (value O cs z) (act O (less b z) (value O (tail_quotient O cs b) z)) ≡ value O cs b
  remainder [] b z = simp (ring, L)
  remainder (c ∷ cs) b z =
      let g = act O z (value O (quotient O cs b) z) in
      L.add_assoc c _ _ ∙ ap (add c) (sym (L.add_assoc _ _ _) ∙ ap (λ s. add s (neg g)) (divides cs b z) ∙ undo L _ g)

  pub length_tail_quotient : (n : ℕ) (cs : List M) (b : Scalar) → length cs ≤ suc n → length (tail_quotient O cs b) ≤ n
  length_tail_quotient n [] b h = omega arith
  length_tail_quotient n (c ∷ cs) b h = rw length_quotient (omega arith)
