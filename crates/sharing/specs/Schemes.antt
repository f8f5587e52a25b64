-- Which thresholds and numbers of holders make a scheme, and its prime.
use Rattle.std.specs.Prelude.{ℕ, ◌≤◌}

-- t of n holders open a key
abbrev pub Allowed : ℕ → ℕ → Type 0
Allowed t n = (2 ≤ t) × (t ≤ n) × (n ≤ 30)
