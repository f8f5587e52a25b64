-- How the elements of a group are written.
use Rattle.std.specs.Prelude.{◌≡◌, ℕ, ◌+◌, ◌/◌, ◌%◌, ◌≤◌, T, List, [], ◌∷◌, ◌++◌, length, ◌≢◌}
use Rattle.algebra.specs.Group.{GroupOps}
use Rattle.algebra.specs.Tuples.{ok}
use Rattle.groups.specs.Blocks.{bytes}
use Rattle.groups.specs.declared.fault.GroupFault.{GroupFault}
use Rattle.groups.specs.declared.fault.GroupFault.TheVariants.{Encoding}

-- a group's id and modulus, how many bytes an element takes, and which
pub record Form (C : Type 0) : Type 0 where
  pub id : ℕ
  pub modulus : ℕ
  pub width : ℕ
  pub written : C → List ℕ

pub record FormLaws {C : Type 0} (G : GroupOps C) (F : Form C) : Type 0 where
  pub id_range : (1 ≤ F.id) × (F.id ≤ 255)
  pub width_range : (1 ≤ F.width) × (F.width ≤ 32)
  -- a valid element is written in `width` bytes
  pub written_bytes : (a : C) → T (G.valid a) → T (ok bytes F.width (F.written a))
  -- no two valid elements are written alike
  pub written_once : (a b : C) → T (G.valid a) → T (G.valid b) → F.written a ≡ F.written b → a ≡ b

-- a slice of `width` bytes now holds a, if a is valid
abbrev pub Wrote : {C : Type 0} → GroupOps C → Form C → C → List ℕ → List ℕ → Type 0
Wrote G F a before after = (length before ≡ F.width) × (T (G.valid a) → after ≡ F.written a)

-- a slice of another length than n is refused, and stays as it was
abbrev pub RoomRefused : ℕ → List ℕ → List ℕ → GroupFault → Type 0
RoomRefused n before after e = (length before ≢ n) × (after ≡ before) × (e ≡ Encoding)

-- xs is how the valid element a is written
abbrev pub ReadsAs : {C : Type 0} → GroupOps C → Form C → List ℕ → C → Type 0
ReadsAs G F xs a = T (G.valid a) × (xs ≡ F.written a)

-- xs is how no valid element is written
abbrev pub NoForm : {C : Type 0} → GroupOps C → Form C → List ℕ → GroupFault → Type 0
NoForm {C} G F xs e = (e ≡ Encoding) × ((a : C) → T (G.valid a) → xs ≢ F.written a)

-- a number below 2 ^ 32 in four bytes, the highest first
abbrev pub four : ℕ → List ℕ
four a = (a / 16777216 % 256) ∷ (a / 65536 % 256) ∷ (a / 256 % 256) ∷ (a % 256) ∷ []

abbrev pub number_form : ℕ → ℕ → Form ℕ
number_form n m = record { id = n; modulus = m; width = 4; written = four }

abbrev pub block_form : Form (List ℕ)
block_form = record { id = 1; modulus = 0; width = 16; written = λ a. a }

-- the first part, and then the second
abbrev pub pair_form : {C D : Type 0} → ℕ → ℕ → Form C → Form D → Form (C × D)
pair_form n m F E = record { id = n; modulus = m; width = F.width + E.width; written = λ a. F.written a.0 ++ E.written a.1 }
