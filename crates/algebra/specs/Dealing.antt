-- What a holder is dealt of a key, and the tuple that some shares give at a point.
use Rattle.std.specs.Prelude.{◌≡◌, ℕ, ◌-◌, ◌*◌, ◌<◌, ◌≤◌, T, List, ◌∷◌, length}
use Rattle.std.specs.List.{AllByRecursion}
use Rattle.algebra.specs.Group.{GroupOps}
use Rattle.algebra.specs.Tuples.{all_valid, tuple_zero, list_ops}
use Rattle.algebra.specs.Scalars.{Scalar, act, point}
use Rattle.algebra.specs.Sharing.{inverse, terms, total, weight}
use Rattle.algebra.specs.Theorems.{Distinct}
use Rattle.algebra.specs.Primes.{inverse_number}
use Rattle.algebra.specs.Rows.{rows, row_at}

-- the key as a tuple: (k, 0, …, 0)
abbrev pub embedded : {C : Type 0} → GroupOps C → ℕ → C → List C
embedded G w k = k ∷ tuple_zero G (w - 1)

-- the share dealt to holder i: (k, 0, …, 0) + a(i)·c(1) + a(i)²·c(2) + …, where c(1), c(2), … are the rows of cs
abbrev pub dealt : {C : Type 0} → GroupOps C → ℕ → ℕ → C → ℕ → List C → List C
dealt G w i k count cs = terms (list_ops G w) (embedded G w k ∷ rows w count cs) 0 (point i)

-- what the helpers B multiply the share of j by for the point p: the product over the others k of (a(k) - a(p)) / (a(k) - a(j))
abbrev pub weight_at : ℕ → List ℕ → ℕ → ℕ → Scalar
weight_at q B p j = weight point (inverse q (inverse_number q)) (point p) j B

-- the tuple at the point p: the sum of each helper's weight times its share
abbrev pub tuple_at : {C : Type 0} → GroupOps C → ℕ → List ℕ → ℕ → List C → List C
tuple_at G q B p shares =
    total (list_ops G (q - 1)) (λ j. act (list_ops G (q - 1)) (weight_at q B p j) (row_at (q - 1) (j - 1) shares)) B

-- Interpolation, for every group: where the shares of different helpers, at least one, were dealt from one key and coefficients,
-- as many tuples as there are helpers less one, the tuple at any point below q is what that point would be dealt; at 0 it is the key.
abbrev pub Interpolates : {C : Type 0} → GroupOps C → ℕ → Type 0
Interpolates {C} G q =
    (B : List ℕ) → 0 < length B → Distinct B → AllByRecursion (λ j. (1 ≤ j) × (j < q)) B
    → (k : C) (cs shares : List C) → T (G.valid k) → T (all_valid G cs) → length cs ≡ (length B - 1) * (q - 1)
    → AllByRecursion (λ j. row_at (q - 1) (j - 1) shares ≡ dealt G (q - 1) j k (length B - 1) cs) B
    → (p : ℕ) → tuple_at G q B p shares ≡ dealt G (q - 1) p k (length B - 1) cs

-- the point 0 is dealt the key itself
abbrev pub ZeroIsKey : {C : Type 0} → GroupOps C → ℕ → Type 0
ZeroIsKey {C} G w =
    (k : C) (count : ℕ) (cs : List C) → T (G.valid k) → T (all_valid G cs) → count * w ≤ length cs → dealt G w 0 k count cs ≡ embedded G w k
