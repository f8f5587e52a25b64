-- The weighted sum of a polynomial's values is its value at any other place.
use Rattle.std.proofs.Common.{◌≡◌, ℕ, suc, ◌≤◌, List, [], ◌∷◌, length, sym, refl, ap, ◌∙◌, ap₂, arith}
use Rattle.std.specs.List.{AllByRecursion}
use Rattle.std.proofs.ByRecursion.{All-weaker}
use Rattle.std.proofs.lemmas.Bool.{cond-true, cond-false, eq-eqb, ne_eqb}
use Rattle.algebra.specs.Module.{ModuleOps, ModuleLaws}
use Rattle.algebra.specs.Scalars.{Scalar, one, times, minus, act}
use Rattle.algebra.specs.Sharing.{value, total, join, less, factor, weight, basis}
use Rattle.algebra.proofs.Actions.{nil_add, interchange, redo, cancel, act_add, act_nil, act_neg, act_comm, ring}
use Rattle.algebra.proofs.Polynomials.{value_join, length_join, value_grow, length_grow, tail_quotient, remainder, length_tail_quotient}

pub all_both : {X : Type 0} (P Q : X → Type 0) (xs : List X) → AllByRecursion P xs → AllByRecursion Q xs → AllByRecursion (λ x. P x × Q x) xs
all_both P Q [] h k = tt
all_both P Q (x ∷ xs) h k = ((h.0, k.0), all_both P Q xs h.1 k.1)

module _ {M : Type 0} (O : ModuleOps M) (a : ℕ → Scalar) (e : ℕ → ℕ → Scalar) where
  pub record Apart (k j : ℕ) : Type 0 where
    pub distinct : k ≡ j → ⊥
    pub unit : (m : M) → act O (less (a k) (a j)) (act O (e k j) m) ≡ m
    pub unit_back : (m : M) → act O (less (a j) (a k)) (act O (e j k) m) ≡ m

  abbrev pub Spread : List ℕ → Type 0
  Spread [] = Unit {0}
  Spread (b ∷ B) = AllByRecursion (λ k. Apart k b) B × Spread B

module _ {M : Type 0} {O : ModuleOps M} {q : ℕ} (L : ModuleLaws O q) where
  open O use {nil, add, neg, shift}

  cancels : (f g : ℕ → M) (s : Scalar) (B : List ℕ) → AllByRecursion (λ j. add (f j) (act O s (g j)) ≡ nil) B → add (total O f B) (act O s (total O g B)) ≡ nil
  cancels f g s [] h = simp (ring, L)
  cancels f g s (j ∷ B) h = ap (add _) (act_add L s _ _) ∙ interchange L _ _ _ _ ∙ ap₂ add h.0 (cancels f g s B h.1) ∙ L.add_nil nil

  module _ (a : ℕ → Scalar) (e : ℕ → ℕ → Scalar) where
    factor_apart : (z : Scalar) (j k : ℕ) → (k ≡ j → ⊥) → factor a e z j k ≡ times (less (a k) z) (e k j)
    factor_apart z j k apart = cond-false _ _ _ (ne_eqb k j apart)

    factor_same : (z : Scalar) (j : ℕ) → factor a e z j j ≡ one
    factor_same z j = cond-true _ _ _ (eq-eqb j j refl)

    value_basis : (b : ℕ) (B : List ℕ) → AllByRecursion (λ k. Apart O a e k b) B → (m : M) (z : Scalar) → value O (basis O a e b B m) z ≡ act O (weight a e z b B) m
    value_basis b [] h m z = ap (add m) (act_nil L z) ∙ L.add_nil m
    value_basis b (k ∷ B) h m z =
        rw (factor_apart z b k h.0.distinct)
        (value_grow L (times (a k) (e k b)) (minus (e k b)) nil (basis O a e b B m) z ∙ nil_add L _ ∙ ap (add _) (act_neg L z _) ∙ ap (λ s. act O (less (a k) z) (act O (e k b) s)) (value_basis b B h.1 m z))

    length_basis : (b : ℕ) (B : List ℕ) (m : M) → length (basis O a e b B m) ≡ suc (length B)
    length_basis b [] m = refl
    length_basis b (k ∷ B) m = rw (length_grow L) (ap suc (length_basis b B m))

    weight_same : (b : ℕ) (B : List ℕ) → AllByRecursion (λ k. Apart O a e k b) B → (m : M) → act O (weight a e (a b) b B) m ≡ m
    weight_same b [] h m = refl
    weight_same b (k ∷ B) h m = rw (factor_apart (a b) b k h.0.distinct) (h.0.unit _ ∙ weight_same b B h.1 m)

    weight_other : (b : ℕ) (B : List ℕ) → AllByRecursion (λ k. Apart O a e k b) B → AllByRecursion (λ j. (m : M) → act O (weight a e (a j) b B) m ≡ nil) B
    weight_other b [] h = tt
    weight_other b (k ∷ B) h = (
      λ m. rw (factor_apart (a k) b k h.0.distinct) (L.add_neg _),
      All-weaker (λ j. (m : M) → act O (weight a e (a j) b B) m ≡ nil) (λ j. (m : M) → act O (weight a e (a j) b (k ∷ B)) m ≡ nil)
          (λ j zero_at m. ap (act O (factor a e (a j) b k)) (zero_at m) ∙ act_nil L (factor a e (a j) b k))
          B (weight_other b B h.1),
    )

    -- what one index other than b adds to both sides
    term_cancels : (b : ℕ) (B : List ℕ) (z : Scalar) (j : ℕ) (f g : M) → Apart O a e j b → add f (act O (less (a b) (a j)) g) ≡ nil → add (act O (weight a e z j (b ∷ B)) f) (act O (less (a b) z) (act O (weight a e z j B) g)) ≡ nil
    term_cancels b B z j f g apart h =
        let W = weight a e z j B in
        let D = less (a b) z in
        let inner : add (act O (e b j) f) g ≡ nil = ap (add _) (sym (apart.unit_back g) ∙ act_comm L (less (a b) (a j)) (e b j) g) ∙ sym (act_add L (e b j) f _) ∙ ap (act O (e b j)) h ∙ act_nil L (e b j) in
        rw (factor_apart z j b (λ same. apart.distinct (sym same)))
        (ap (λ s. add (act O D s) (act O D (act O W g))) (act_comm L (e b j) W f) ∙ sym (act_add L D _ _) ∙ ap (act O D) (sym (act_add L W _ _) ∙ ap (act O W) inner ∙ act_nil L W) ∙ act_nil L D)

    pub lagrange : (B : List ℕ) → Spread O a e B → (cs : List M) → length cs ≤ length B → (z : Scalar) → total O (λ j. act O (weight a e z j B) (value O cs (a j))) B ≡ value O cs z
    lagrange [] h [] short z = refl
    lagrange [] h (c ∷ cs) short z = absurd (omega arith)
    lagrange (b ∷ B) h cs short z =
        let y = value O cs (a b) in
        let W = weight a e z b B in
        let p = join O cs (basis O a e b B (neg y)) in
        let g = tail_quotient O p (a b) in
        let at : (s : Scalar) → value O p s ≡ add (value O cs s) (act O (weight a e s b B) (neg y)) = λ s. value_join L cs _ s ∙ ap (add _) (value_basis b B h.0 (neg y) s) in
        let vanishes : value O p (a b) ≡ nil = at (a b) ∙ ap (add y) (weight_same b B h.0 (neg y)) ∙ L.add_neg y in
        let divided : (s : Scalar) → add (value O p s) (act O (less (a b) s) (value O g s)) ≡ nil = λ s. remainder L p (a b) s ∙ vanishes in
        let basis-length = length_basis b B (neg y) in
        let short_g : length g ≤ length B = length_tail_quotient L (length B) p (a b) (length_join L (suc (length B)) cs _ short (omega arith)) in
        let rest : ℕ → M = λ j. act O (weight a e z j (b ∷ B)) (value O cs (a j)) in
        let sums : add (total O rest B) (act O (less (a b) z) (value O g z)) ≡ nil =
        ap (λ s. add (total O rest B) (act O (less (a b) z) s)) (sym (lagrange B h.1 g short_g z))
        ∙ cancels rest (λ j. act O (weight a e z j B) (value O g (a j))) (less (a b) z) B
        (All-weaker (λ j. Apart O a e j b × ((m : M) → act O (weight a e (a j) b B) m ≡ nil)) (λ j. add (rest j) (act O (less (a b) z) (act O (weight a e z j B) (value O g (a j)))) ≡ nil)
        (λ j t. term_cancels b B z j (value O cs (a j)) (value O g (a j)) t.0 (ap (λ s. add s (act O (less (a b) (a j)) (value O g (a j)))) (sym (at (a j) ∙ ap (add _) (t.1 (neg y)) ∙ L.add_nil _)) ∙ divided (a j)))
        B (all_both _ _ B h.0 (weight_other b B h.0))) in
        let same : total O rest B ≡ value O p z = cancel L (act O (less (a b) z) (value O g z)) _ _ (sums ∙ sym (divided z)) in
        ap (λ s. add (act O s (act O W y)) (total O rest B)) (factor_same z b) ∙ ap (add (act O W y)) (same ∙ at z ∙ ap (add _) (act_neg L W y)) ∙ redo L _ _
