-- The polynomials in x as a syntax, and how they act on a module.
use Rattle.std.specs.Prelude.{ℕ, zero, suc}
use Rattle.algebra.specs.Module.{ModuleOps}

pub data Scalar : Type 0 where
  nought one root : Scalar
  plus times : Scalar → Scalar → Scalar
  minus : Scalar → Scalar

abbrev pub act : {M : Type 0} → ModuleOps M → Scalar → M → M
act O nought m = O.nil
act O one m = m
act O root m = O.shift m
act O (plus s t) m = O.add (act O s m) (act O t m)
act O (times s t) m = act O s (act O t m)
act O (minus s) m = O.neg (act O s m)

-- x^k
abbrev pub power : ℕ → Scalar
power zero = one
power (suc k) = times root (power k)

-- 1 + x + … + x^(k-1)
abbrev pub point : ℕ → Scalar
point zero = nought
point (suc k) = plus one (times root (point k))

-- 1 + x^d + … + x^(d(e-1)), the inverse of the point d where d e is one more than a multiple of q
abbrev pub geometric : ℕ → ℕ → Scalar
geometric d zero = nought
geometric d (suc e) = plus one (times (power d) (geometric d e))
