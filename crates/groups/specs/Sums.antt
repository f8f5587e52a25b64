-- Numbers below a modulus, added modulo it.
use Rattle.std.specs.Prelude.{◌==◌, ℕ, ◌+◌, ◌-◌, ◌%◌, ◌≤◌, nat_lt}
use Rattle.algebra.specs.Group.{GroupOps}

abbrev pub InRange : ℕ → Type 0
InRange m = (2 ≤ m) × (m ≤ 2147483647)

abbrev pub sums : ℕ → GroupOps ℕ
sums m = record { valid = λ a. nat_lt a m; same = λ a b. a == b; zero = 0; plus = λ a b. (a + b) % m; minus = λ a. (m - a) % m }
