-- The theorems at the indices below q.
use Rattle.std.proofs.Common.{◌≡◌, ℕ, ◌<◌, List, [], ◌∷◌, length, sym, ap, ◌∙◌}
use mathlib.Core.List.{zip_with}
use Rattle.std.specs.List.{AllByRecursion}
use Rattle.std.proofs.ByRecursion.{All-weaker}
use Rattle.algebra.specs.Module.{ModuleOps, ModuleLaws}
use Rattle.algebra.specs.Scalars.{Scalar, one, minus, point, geometric}
use Rattle.algebra.specs.Sharing.{value, inverse, cover}
use Rattle.algebra.specs.Theorems.{Inverts, Distinct, Sharing, Stands}
use Rattle.algebra.proofs.Points.{unit, point_unit}
use Rattle.algebra.proofs.Polynomials.{terms_value, value_join, zip_join, value_act, length_cover, first_cover, cover_vanishes}
use Rattle.algebra.proofs.Lagrange.{all_both, Apart, Spread, lagrange}

module _ {M : Type 0} {O : ModuleOps M} {q : ℕ} (L : ModuleLaws O q) (inv : ℕ → ℕ) (inverts : Inverts q inv) where
  spread : (B : List ℕ) → Distinct B → AllByRecursion (λ k. k < q) B → Spread O point (inverse q inv) B
  spread [] d below = tt
  spread (b ∷ B) d below = (
    All-weaker (λ k. (k ≡ b → ⊥) × (k < q)) (λ k. Apart O point (inverse q inv) k b)
        (λ k t. record { distinct = t.0; unit = unit L inv inverts k b t.1 below.0 t.0; unit_back = unit L inv inverts b k below.0 t.1 (λ s. t.0 (sym s)) })
        B (all_both _ _ B d.0 below.1),
    spread B d.1 below.1,
  )

  sums : (cs ds : List M) → length cs ≡ length ds → (z : Scalar) → value O (zip_with O.add cs ds) z ≡ O.add (value O cs z) (value O ds z)
  sums cs ds same z = ap (λ es. value O es z) (zip_join L cs ds same) ∙ value_join L cs ds z

  abbrev inverses : ℕ → Scalar
  inverses i = geometric i (inv i)

  vanishes : (S : List ℕ) → AllByRecursion (λ i. (0 < i) × (i < q)) S → (δ : M) → AllByRecursion (λ i. value O (cover O inverses S δ) (point i) ≡ O.nil) S
  vanishes S inside = cover_vanishes L point inverses S (All-weaker (λ i. (0 < i) × (i < q)) _ (λ i h. point_unit L i (inv i) (inverts i h.0 h.1)) S inside)

  pub sharing : Sharing O q inv
  sharing = record {
    units = unit L inv inverts;
    literal = λ cs z. terms_value L cs 0 z;
    sum = sums;
    opposite = value_act L (minus one);
    interpolates = λ B d below cs short p. lagrange L point (inverse q inv) B (spread B d below) cs short (point p);
    cover_length = length_cover L point inverses;
    cover_first = first_cover L point inverses;
    cover_vanishes = vanishes;
    hides = λ S inside cs long δ.
        All-weaker _ (λ i. value O (zip_with O.add cs (cover O inverses S δ)) (point i) ≡ value O cs (point i))
        (λ i none. sums cs _ (long ∙ sym (length_cover L point inverses S δ)) (point i) ∙ ap (O.add _) none ∙ L.add_nil _)
        S (vanishes S inside δ);
  }

pub stands : {M : Type 0} → Stands M
stands O q L inv inverts = sharing L inv inverts
