-- What a list of helpers is refused for: the rows of the table, in its order.
use Rattle.std.specs.Prelude.{ℕ, Bool, false, not, ◌||◌, List, [], ◌∷◌, length, take, Option, ◌==◌, nat_lt, slice_index}
use Rattle.algebra.specs.Rows.{first_place}
use Rattle.sharing.specs.declared.fault.CabinetFault.{CabinetFault}
use Rattle.sharing.specs.declared.fault.CabinetFault.TheVariants.{HelperCount, UnknownHelper, RepeatedHelper}
use Rattle.sharing.specs.declared.scheme.Scheme.{Scheme}
use Rattle.sharing.specs.Verdicts.{row, located}

abbrev pub among : ℕ → List ℕ → Bool
among h [] = false
among h (k ∷ ks) = k == h || among h ks

-- the helper at the position i is none of 1 to n; stands at an earlier position too
abbrev pub unknown_at : ℕ → List ℕ → ℕ → Bool
unknown_at n hs i = nat_lt (slice_index hs i) 1 || nat_lt n (slice_index hs i)

abbrev pub repeated_at : List ℕ → ℕ → Bool
repeated_at hs i = among (slice_index hs i) (take i hs)

-- t different holders of the scheme
abbrev pub helper_rows : Scheme → List ℕ → List (Option CabinetFault)
helper_rows s hs =
    row (not (length hs == s.t)) (HelperCount (length hs))
    ∷ located UnknownHelper (first_place (unknown_at s.n hs) 0 (length hs))
    ∷ located RepeatedHelper (first_place (repeated_at hs) 0 (length hs))
    ∷ []
