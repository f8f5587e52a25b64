-- One long list as rows of w elements each, and the first place at which a test holds.
use Rattle.std.specs.Prelude.{ℕ, zero, suc, ◌+◌, ◌*◌, Bool, cond, List, [], ◌∷◌, ◌++◌, take, drop, Some, None, Option}

-- the first n rows
abbrev pub rows : {X : Type 0} → ℕ → ℕ → List X → List (List X)
rows w zero xs = []
rows w (suc n) xs = take w xs ∷ rows w n (drop w xs)

-- the row at h, counted from 0
abbrev pub row_at : {X : Type 0} → ℕ → ℕ → List X → List X
row_at w h xs = take w (drop (h * w) xs)

-- the whole, with ys in place of the row at h
abbrev pub put_row : {X : Type 0} → ℕ → ℕ → List X → List X → List X
put_row w h ys xs = take (h * w) xs ++ (ys ++ drop (h * w + w) xs)

-- one list of all rows
abbrev pub flat : {X : Type 0} → List (List X) → List X
flat [] = []
flat (r ∷ rs) = r ++ flat rs

-- the first of the k places from i on at which the test holds
abbrev pub first_place : (ℕ → Bool) → ℕ → ℕ → Option ℕ
first_place p i zero = None
first_place p i (suc k) = cond (p i) (Some i) (first_place p (i + 1) k)
