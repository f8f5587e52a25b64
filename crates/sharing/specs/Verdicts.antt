-- Refusals as rows of a table: the first row that applies is the fault, and where none does the call is accepted.
use Rattle.std.specs.Prelude.{ℕ, Bool, true, false, not, List, [], ◌∷◌, Some, None, Ok, Err, Option, Result, ◌==◌}

module _ {F : Type 0} where
  -- a row that refuses where the test holds
  abbrev pub row : Bool → F → Option F
  row true f = Some f
  row false f = None

  -- a row that refuses at the place that was found
  abbrev pub located : (ℕ → F) → Option ℕ → Option F
  located f None = None
  located f (Some i) = Some (f i)

  -- a row that refuses any length but the right one, which it names
  abbrev pub length_row : (ℕ → F) → ℕ → ℕ → Option F
  length_row f right len = row (not (len == right)) (f right)

  abbrev pub first : List (Option F) → Option F
  first [] = None
  first (Some f ∷ os) = Some f
  first (None ∷ os) = first os

  abbrev pub verdict : Option F → Result (Unit {0}) F
  verdict None = Ok tt
  verdict (Some f) = Err f
