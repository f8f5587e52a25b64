-- What is proved of sharing over a module, at the indices below q.
use Rattle.std.specs.Prelude.{◌≡◌, ℕ, suc, ◌-◌, ◌*◌, ◌%◌, ◌<◌, ◌≤◌, List, [], ◌∷◌, map, length, ◌≢◌, slice_index_or}
use mathlib.Core.List.{zip_with}
use Rattle.std.specs.List.{AllByRecursion}
use Rattle.algebra.specs.Group.{GroupOps, GroupLaws}
use Rattle.algebra.specs.Module.{ModuleOps, ModuleLaws}
use Rattle.algebra.specs.Space.{tuple_ops}
use Rattle.algebra.specs.Scalars.{Scalar, act, point, geometric}
use Rattle.algebra.specs.Sharing.{less, inverse, value, terms, total, weight, cover}

-- d times inv d is one more than a multiple of q
abbrev pub Inverts : ℕ → (ℕ → ℕ) → Type 0
Inverts q inv = (d : ℕ) → 0 < d → d < q → (d * inv d) % q ≡ 1

abbrev pub Distinct : List ℕ → Type 0
Distinct [] = Unit {0}
Distinct (b ∷ B) = AllByRecursion (λ k. k ≢ b) B × Distinct B

pub record Sharing {M : Type 0} (O : ModuleOps M) (q : ℕ) (inv : ℕ → ℕ) : Type 0 where
  -- the differences of two points are units
  pub units : (k j : ℕ) → k < q → j < q → (k ≢ j) → (m : M) → act O (less (point k) (point j)) (act O (inverse q inv k j) m) ≡ m
  -- Horner's form is the sum of the powers
  pub literal : (cs : List M) (z : Scalar) → terms O cs 0 z ≡ value O cs z
  pub sum : (cs ds : List M) → length cs ≡ length ds → (z : Scalar) → value O (zip_with O.add cs ds) z ≡ O.add (value O cs z) (value O ds z)
  pub opposite : (cs : List M) (z : Scalar) → value O (map O.neg cs) z ≡ O.neg (value O cs z)
  pub interpolates : (B : List ℕ) → Distinct B → AllByRecursion (λ k. k < q) B → (cs : List M) → length cs ≤ length B → (p : ℕ)
      → total O (λ j. act O (weight point (inverse q inv) (point p) j B) (value O cs (point j))) B ≡ value O cs (point p)
  pub cover_length : (S : List ℕ) (δ : M) → length (cover O (λ i. geometric i (inv i)) S δ) ≡ suc (length S)
  pub cover_first : (S : List ℕ) (δ : M) → slice_index_or (cover O (λ i. geometric i (inv i)) S δ) 0 O.nil ≡ δ
  pub cover_vanishes : (S : List ℕ) → AllByRecursion (λ i. (0 < i) × (i < q)) S → (δ : M) → AllByRecursion (λ i. value O (cover O (λ i. geometric i (inv i)) S δ) (point i) ≡ O.nil) S
  -- each secret is as good as any other to whoever holds the shares of S: a polynomial with the same shares there and the secret moved by δ
  pub hides : (S : List ℕ) → AllByRecursion (λ i. (0 < i) × (i < q)) S → (cs : List M) → length cs ≡ suc (length S) → (δ : M)
      → AllByRecursion (λ i. value O (zip_with O.add cs (cover O (λ i. geometric i (inv i)) S δ)) (point i) ≡ value O cs (point i)) S

abbrev pub Stands : Type 0 → Type 0
Stands M = (O : ModuleOps M) (q : ℕ) → ModuleLaws O q → (inv : ℕ → ℕ) → Inverts q inv → Sharing O q inv

-- the valid tuples of q - 1 elements of a commutative group are such a module
abbrev pub TuplesStand : {C : Type 0} → GroupOps C → Type 0
TuplesStand G = (L : GroupLaws G) (q : ℕ) → 2 ≤ q → ModuleLaws (tuple_ops G L (q - 1)) q
