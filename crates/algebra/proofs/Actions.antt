-- What the laws of a commutative group with a shift give, and how the scalars act on it.
use Rattle.std.proofs.Common.{◌≡◌, ℕ, sym, refl, ap, ◌∙◌, ap₂}
use Rattle.algebra.specs.Module.{ModuleOps, ModuleLaws}
use Rattle.algebra.specs.Scalars.{Scalar, nought, one, root, plus, times, minus, act}

module _ {M : Type 0} {O : ModuleOps M} {q : ℕ} (L : ModuleLaws O q) where
  open O use {nil, add, neg, shift}

  pub nil_add : (a : M) → add nil a ≡ a
  nil_add a = L.add_comm nil a ∙ L.add_nil a

  pub add_left_comm : (a b c : M) → add a (add b c) ≡ add b (add a c)
  add_left_comm a b c = sym (L.add_assoc a b c) ∙ ap (λ s. add s c) (L.add_comm a b) ∙ L.add_assoc b a c

  -- every regrouping of a sum
  pub interchange : (a b c d : M) → add (add a b) (add c d) ≡ add (add a c) (add b d)
  interchange a b c d = simp (L.add_assoc, add_left_comm)

  pub undo : (a c : M) → add (add a c) (neg c) ≡ a
  undo a c = simp (L.add_assoc, L.add_neg, L.add_nil)

  pub redo : (a c : M) → add c (add a (neg c)) ≡ a
  redo a c = add_left_comm c a (neg c) ∙ ap (add a) (L.add_neg c) ∙ L.add_nil a

  pub cancel : (c a b : M) → add a c ≡ add b c → a ≡ b
  cancel c a b e = sym (undo a c) ∙ ap (λ s. add s (neg c)) e ∙ undo b c

  pub neg_unique : (a b : M) → add a b ≡ nil → a ≡ neg b
  neg_unique a b e = cancel b a (neg b) (e ∙ sym (L.add_neg b) ∙ L.add_comm b (neg b))

  pub neg_nil : neg nil ≡ nil
  neg_nil = sym (neg_unique nil nil (L.add_nil nil))

  pub neg_neg : (a : M) → neg (neg a) ≡ a
  neg_neg a = sym (neg_unique a (neg a) (L.add_neg a))

  pub neg_add : (a b : M) → neg (add a b) ≡ add (neg a) (neg b)
  neg_add a b = sym (neg_unique (add (neg a) (neg b)) (add a b) (interchange (neg a) (neg b) a b ∙ simp (L.add_comm (neg a) a, L.add_comm (neg b) b, L.add_neg, L.add_nil)))

  -- an additive function keeps nil and opposites
  module _ (f : M → M) (additive : (a b : M) → f (add a b) ≡ add (f a) (f b)) where
    pub keeps_nil : f nil ≡ nil
    keeps_nil = cancel (f nil) (f nil) nil (sym (additive nil nil) ∙ ap f (L.add_nil nil) ∙ sym (nil_add (f nil)))

    pub keeps_neg : (a : M) → f (neg a) ≡ neg (f a)
    keeps_neg a = neg_unique (f (neg a)) (f a) (sym (additive (neg a) a) ∙ ap f (L.add_comm (neg a) a ∙ L.add_neg a) ∙ keeps_nil)

  pub act_add : (s : Scalar) (a b : M) → act O s (add a b) ≡ add (act O s a) (act O s b)
  act_add nought a b = sym (L.add_nil nil)
  act_add one a b = refl
  act_add root a b = L.shift_add a b
  act_add (plus s t) a b = ap₂ add (act_add s a b) (act_add t a b) ∙ interchange (act O s a) (act O s b) (act O t a) (act O t b)
  act_add (times s t) a b = ap (act O s) (act_add t a b) ∙ act_add s (act O t a) (act O t b)
  act_add (minus s) a b = ap neg (act_add s a b) ∙ neg_add (act O s a) (act O s b)

  pub act_nil : (s : Scalar) → act O s nil ≡ nil
  act_nil s = keeps_nil (act O s) (act_add s)

  pub act_neg : (s : Scalar) (a : M) → act O s (neg a) ≡ neg (act O s a)
  act_neg s = keeps_neg (act O s) (act_add s)

  -- an additive function that commutes with the shift commutes with each scalar
  pub commutes : (f : M → M) → ((a b : M) → f (add a b) ≡ add (f a) (f b)) → ((a : M) → f (shift a) ≡ shift (f a)) → (s : Scalar) (a : M) → act O s (f a) ≡ f (act O s a)
  commutes f additive shifts nought a = sym (keeps_nil f additive)
  commutes f additive shifts one a = refl
  commutes f additive shifts root a = sym (shifts a)
  commutes f additive shifts (plus s t) a = ap₂ add (commutes f additive shifts s a) (commutes f additive shifts t a) ∙ sym (additive (act O s a) (act O t a))
  commutes f additive shifts (times s t) a = ap (act O s) (commutes f additive shifts t a) ∙ commutes f additive shifts s (act O t a)
  commutes f additive shifts (minus s) a = ap neg (commutes f additive shifts s a) ∙ sym (keeps_neg f additive (act O s a))

  pub act_comm : (s t : Scalar) (a : M) → act O s (act O t a) ≡ act O t (act O s a)
  act_comm s t = commutes (act O t) (act_add t) (commutes shift L.shift_add (λ b. refl) t) s

  -- the laws once more, by names that a set can hold
  pub add_assoc : (a b c : M) → add (add a b) c ≡ add a (add b c)
  add_assoc = L.add_assoc

  pub add_comm : (a b : M) → add a b ≡ add b a
  add_comm = L.add_comm

  pub add_nil : (a : M) → add a nil ≡ a
  add_nil = L.add_nil

  pub add_neg : (a : M) → add a (neg a) ≡ nil
  add_neg = L.add_neg

  pub add_neg_add : (a b : M) → add a (add (neg a) b) ≡ b
  add_neg_add a b = add_left_comm a (neg a) b ∙ add_comm (neg a) (add a b) ∙ ap (λ s. add s (neg a)) (add_comm a b) ∙ undo b a

-- with the laws in the list, `simp (ring, L)` brings each side to a sorted sum of sorted products
pub ruleset ring = (act_nil, act_neg, act_add, neg_nil, neg_neg, neg_add, add_nil, nil_add, add_neg, add_neg_add, add_assoc, add_left_comm, add_comm, act_comm)
