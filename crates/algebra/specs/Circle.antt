-- A circle of q places: the elements of a tuple, and one zero after them.
use Rattle.std.specs.Prelude.{◌≡◌, ℕ, ◌+◌, ◌-◌, ◌%◌, List, slice_index_or}
use Rattle.algebra.specs.Group.{GroupOps}
use Rattle.algebra.specs.Scalars.{Scalar, times, power, geometric}

-- the way from the place i on to the place j
abbrev pub ahead : ℕ → ℕ → ℕ → ℕ
ahead q i j = (j + (q - i)) % q

-- the inverse of the point k less the point j, for two distinct indices below q, by the way from j on to k: x^j times the point of that
-- way is the difference
abbrev pub inverse_around : ℕ → (ℕ → ℕ) → ℕ → ℕ → Scalar
inverse_around q inv k j = times (power (q - j)) (geometric (ahead q j k) (inv (ahead q j k)))

-- what stands at the place i
abbrev pub around : {C : Type 0} → GroupOps C → ℕ → List C → ℕ → C
around G q m i = slice_index_or m (i % q) G.zero

-- (1 - x^d) r = (x^a - x^b) m on the circle, where a + come and b + gone are multiples of q: a step of d places adds to what
-- stands in r the element of m that is `come` places on, and takes away the one that is `gone` places on
abbrev pub Quotient : {C : Type 0} → GroupOps C → ℕ → ℕ → ℕ → ℕ → List C → List C → Type 0
Quotient G q d come gone m r =
    (u : ℕ) → G.plus (around G q r (u + d)) (around G q m (u + d + gone)) ≡ G.plus (around G q r u) (around G q m (u + d + come))
