use Rattle.std.proofs.Common.{arith, rules, mod-lt}
use Rattle.groups.specs.Congruences.{step}
use Rattle.groups.specs.Divisors.{gcd_more}
use Rattle.groups.proofs.units.+euclid.Goals as goal

pub returns : goal.returns
returns t c = record { divisor = search (rules, gcd_more); makes = search (rules, step); first_below = omega arith; second_below = search (rules, mod-lt) }
