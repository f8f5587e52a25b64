-- A turn of w elements and one zero after them.
use Rattle.std.specs.Prelude.{ℕ, ◌-◌, cond, nat_lt}

-- the place from which a turn by k places brings an element to the place i
abbrev pub turned_from : ℕ → ℕ → ℕ → ℕ
turned_from w k i = cond (nat_lt i k) (w - (k - i - 1)) (i - k)
