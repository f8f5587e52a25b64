-- Tuples of group elements, as lists: they add place by place, and x moves each element one place on, less the last.
use Rattle.std.specs.Prelude.{ℕ, Bool, true, false, not, List, [], ◌∷◌, length, replicate, ◌==◌, slice_index_or}
use Rattle.algebra.specs.Group.{GroupOps}
use Rattle.algebra.specs.Module.{ModuleOps}

abbrev pub both : Bool → Bool → Bool
both true b = b
both false b = false

-- whether every element is valid
abbrev pub all_valid : {C : Type 0} → GroupOps C → List C → Bool
all_valid G [] = true
all_valid G (x ∷ xs) = both (G.valid x) (all_valid G xs)

-- the element at the place i is invalid; is not zero
abbrev pub invalid_at : {C : Type 0} → GroupOps C → List C → ℕ → Bool
invalid_at G xs i = not (G.valid (slice_index_or xs i G.zero))

abbrev pub nonzero_at : {C : Type 0} → GroupOps C → List C → ℕ → Bool
nonzero_at G xs i = not (G.same (slice_index_or xs i G.zero) G.zero)

abbrev pub tuple_zero : {C : Type 0} → GroupOps C → ℕ → List C
tuple_zero G n = replicate n G.zero

abbrev pub tuple_plus : {C : Type 0} → GroupOps C → List C → List C → List C
tuple_plus G [] ys = []
tuple_plus G (x ∷ xs) [] = []
tuple_plus G (x ∷ xs) (y ∷ ys) = G.plus x y ∷ tuple_plus G xs ys

abbrev pub tuple_minus : {C : Type 0} → GroupOps C → List C → List C
tuple_minus G [] = []
tuple_minus G (x ∷ xs) = G.minus x ∷ tuple_minus G xs

abbrev pub tuple_less : {C : Type 0} → GroupOps C → List C → List C → List C
tuple_less G xs ys = tuple_plus G xs (tuple_minus G ys)

-- the last element of a list that is not empty: of a, and then the elements of xs
abbrev pub last : {C : Type 0} → C → List C → C
last a [] = a
last a (y ∷ ys) = last y ys

-- a, and then the elements of xs but the last, each less c
abbrev pub moved : {C : Type 0} → GroupOps C → C → C → List C → List C
moved G c a [] = []
moved G c a (y ∷ ys) = G.plus a (G.minus c) ∷ moved G c y ys

abbrev pub times_x : {C : Type 0} → GroupOps C → List C → List C
times_x G [] = []
times_x G (x ∷ xs) = G.minus (last x xs) ∷ moved G (last x xs) x xs

-- a valid tuple of n elements
abbrev pub ok : {C : Type 0} → GroupOps C → ℕ → List C → Bool
ok G n m = both (length m == n) (all_valid G m)

-- lists of w elements with the tuples' operations: what the code computes on
abbrev pub list_ops : {C : Type 0} → GroupOps C → ℕ → ModuleOps (List C)
list_ops G w = record { nil = tuple_zero G w; add = tuple_plus G; neg = tuple_minus G; shift = times_x G }
