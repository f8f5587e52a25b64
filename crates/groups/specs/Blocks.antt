-- Bytes under exclusive or, and blocks of 16 of them.
use Rattle.std.specs.Prelude.{◌==◌, ℕ, List, nat_lt}
use Rattle.std.specs.Int.Bits.{bit_xor}
use Rattle.std.specs.Str.{bytes_eq}
use Rattle.algebra.specs.Group.{GroupOps}
use Rattle.algebra.specs.Tuples.{ok, tuple_zero, tuple_plus}

abbrev pub bytes : GroupOps ℕ
bytes = record { valid = λ a. nat_lt a 256; same = λ a b. a == b; zero = 0; plus = bit_xor; minus = λ a. a }

abbrev pub blocks : GroupOps (List ℕ)
blocks = record { valid = ok bytes 16; same = bytes_eq; zero = tuple_zero bytes 16; plus = tuple_plus bytes; minus = λ a. a }
