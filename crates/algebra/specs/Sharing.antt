-- Polynomials over a module, and the scalars that interpolate them.
use Rattle.std.specs.Prelude.{ℕ, zero, suc, ◌-◌, cond, List, [], ◌∷◌, ◌==◌, nat_lt}
use Rattle.algebra.specs.Module.{ModuleOps}
use Rattle.algebra.specs.Scalars.{Scalar, one, plus, times, minus, act, power, geometric}

abbrev pub less : Scalar → Scalar → Scalar
less s t = plus s (minus t)

-- what is given of the point k less the point j where j < k, for any two indices
abbrev pub across : (ℕ → ℕ → Scalar) → ℕ → ℕ → Scalar
across X k j = cond (nat_lt j k) (X k j) (minus (X j k))

-- the point k less the point j, for j < k: x^j times the first k - j powers
abbrev pub difference_above : ℕ → ℕ → Scalar
difference_above k j = times (power j) (geometric 1 (k - j))

-- the point k less the point j
abbrev pub difference : ℕ → ℕ → Scalar
difference = across difference_above

-- the inverse of the point k less the point j, for j < k ≤ q
abbrev pub inverse_above : ℕ → (ℕ → ℕ) → ℕ → ℕ → Scalar
inverse_above q inv k j = times (power (q - j)) (geometric (k - j) (inv (k - j)))

-- the inverse of the point k less the point j, for any two distinct indices up to q
abbrev pub inverse : ℕ → (ℕ → ℕ) → ℕ → ℕ → Scalar
inverse q inv = across (inverse_above q inv)

-- c0 + z c1 + z² c2 + …
abbrev pub value : {M : Type 0} → ModuleOps M → List M → Scalar → M
value O [] z = O.nil
value O (c ∷ cs) z = O.add c (act O z (value O cs z))

abbrev pub total : {M : Type 0} → ModuleOps M → (ℕ → M) → List ℕ → M
total O f [] = O.nil
total O f (j ∷ B) = O.add (f j) (total O f B)

-- k's part in the weight of j at z; it is one where k is j
abbrev pub factor : (ℕ → Scalar) → (ℕ → ℕ → Scalar) → Scalar → ℕ → ℕ → Scalar
factor a e z j k = cond (k == j) one (times (less (a k) z) (e k j))

abbrev pub weight : (ℕ → Scalar) → (ℕ → ℕ → Scalar) → Scalar → ℕ → List ℕ → Scalar
weight a e z j [] = one
weight a e z j (k ∷ B) = times (factor a e z j k) (weight a e z j B)

-- the same, written as the sum of z^n c_n
abbrev pub repeat : Scalar → ℕ → Scalar
repeat z zero = one
repeat z (suc n) = times z (repeat z n)

abbrev pub terms : {M : Type 0} → ModuleOps M → List M → ℕ → Scalar → M
terms O [] n z = O.nil
terms O (c ∷ cs) n z = O.add (act O (repeat z n) c) (terms O cs (suc n) z)

-- the sum of two polynomials, of any lengths
abbrev pub join : {M : Type 0} → ModuleOps M → List M → List M → List M
join O [] ds = ds
join O (c ∷ cs) [] = c ∷ cs
join O (c ∷ cs) (d ∷ ds) = O.add c d ∷ join O cs ds

-- k + (u + z v) · (the polynomial)
abbrev pub grow : {M : Type 0} → ModuleOps M → Scalar → Scalar → M → List M → List M
grow O u v k [] = k ∷ []
grow O u v k (c ∷ cs) = O.add k (act O u c) ∷ grow O u v (act O v c) cs

-- δ times the product of 1 - z / a(i) over the indices i
abbrev pub cover : {M : Type 0} → ModuleOps M → (ℕ → Scalar) → List ℕ → M → List M
cover O e [] δ = δ ∷ []
cover O e (i ∷ S) δ = grow O one (minus (e i)) O.nil (cover O e S δ)

-- m times the weight of j, as a polynomial in z
abbrev pub basis : {M : Type 0} → ModuleOps M → (ℕ → Scalar) → (ℕ → ℕ → Scalar) → ℕ → List ℕ → M → List M
basis O a e j [] m = m ∷ []
basis O a e j (k ∷ B) m = grow O (times (a k) (e k j)) (minus (e k j)) O.nil (basis O a e j B m)
