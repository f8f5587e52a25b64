-- What dealing to one holder and taking the tuple at a point are refused for, and what the latter gives.
use Rattle.std.specs.Prelude.{◌≡◌, ℕ, ◌-◌, ◌*◌, ◌||◌, T, List, [], ◌∷◌, length, Option, nat_lt}
use Rattle.std.specs.List.{AllByRecursion}
use Rattle.algebra.specs.Group.{GroupOps}
use Rattle.algebra.specs.Tuples.{all_valid, tuple_plus, tuple_less}
use Rattle.algebra.specs.Rows.{row_at}
use Rattle.algebra.specs.Dealing.{embedded, dealt}
use Rattle.sharing.specs.declared.fault.CabinetFault.{CabinetFault}
use Rattle.sharing.specs.declared.fault.CabinetFault.TheVariants.{MemoryLength, CoefficientCount, UnknownHolder}
use Rattle.sharing.specs.declared.scheme.Scheme.{Scheme}
use Rattle.sharing.specs.declared.shares.Change.{Change}
use Rattle.sharing.specs.declared.shares.Change.TheVariants.{Add, Subtract}
use Rattle.sharing.specs.Verdicts.{row, length_row}
use Rattle.sharing.specs.Helpers.{helper_rows}

-- an element with another added to it, or taken from it
abbrev pub changed_element : {C : Type 0} → GroupOps C → Change → C → C → C
changed_element G Add a b = G.plus a b
changed_element G Subtract a b = G.plus a (G.minus b)

-- a share with a tuple added to it, or taken from it
abbrev pub changed : {C : Type 0} → GroupOps C → Change → List C → List C → List C
changed G Add r ys = tuple_plus G r ys
changed G Subtract r ys = tuple_less G r ys

-- a single holder that the scheme does not have
abbrev pub holder_row : Scheme → ℕ → Option CabinetFault
holder_row s h = row (nat_lt h 1 || nat_lt s.n h) UnknownHolder

module _ (s : Scheme) where
  -- the lengths of the share memory and of three tuples of scratch memory
  abbrev pub length_rows : ℕ → ℕ → List (Option CabinetFault)
  length_rows shares scratch = length_row MemoryLength (s.n * (s.q - 1)) shares ∷ length_row MemoryLength (3 * (s.q - 1)) scratch ∷ []

  -- the number of coefficients, and the holder
  abbrev pub dealing_rows : ℕ → ℕ → List (Option CabinetFault)
  dealing_rows coefficients h =
      length_row CoefficientCount ((s.t - 1) * (s.q - 1)) coefficients ∷ holder_row s h ∷ []

  -- the length of the tuple that is written, and the helpers
  abbrev pub tuple_rows : ℕ → List ℕ → List (Option CabinetFault)
  tuple_rows out hs = length_row MemoryLength (s.q - 1) out ∷ helper_rows s hs

-- Interpolation: where the helpers' shares were dealt from one key and coefficients, m is what the point p would be dealt,
-- and at p = 0 that is the key.
pub record Interpolated {C : Type 0} (G : GroupOps C) (s : Scheme) (hs : List ℕ) (p : ℕ) (shares m : List C) : Type 0 where
  pub share : (k : C) (cs : List C) → T (G.valid k) → T (all_valid G cs) → length cs ≡ (s.t - 1) * (s.q - 1)
      → AllByRecursion (λ j. row_at (s.q - 1) (j - 1) shares ≡ dealt G (s.q - 1) j k (s.t - 1) cs) hs
      → m ≡ dealt G (s.q - 1) p k (s.t - 1) cs
  pub key : (k : C) (cs : List C) → T (G.valid k) → T (all_valid G cs) → length cs ≡ (s.t - 1) * (s.q - 1)
      → AllByRecursion (λ j. row_at (s.q - 1) (j - 1) shares ≡ dealt G (s.q - 1) j k (s.t - 1) cs) hs
      → p ≡ 0 → m ≡ embedded G (s.q - 1) k
