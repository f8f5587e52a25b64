use Rattle.std.proofs.Common.{rules, tests}
use Rattle.std.proofs.lemmas.Iterator.{first_from_Range}
use Rattle.algebra.specs.Primes.{OddPrime}
use Rattle.sharing.proofs.PrimeSearch.{least_odd_prime}
use Rattle.sharing.proofs.scheme.least_odd_prime.Goals as goal

pub returns-clause-least : goal.returns-clause-least
returns-clause-least c =
    least_odd_prime c.args.n c.find.result c.unwrap_or.result c.unwrap_or.ensures c.requires
    (first_from_Range _ _ _ c.find.result OddPrime (λ k. OddPrime k → ⊥) c.find.ensures.ran (λ x q k. search (rules, tests)) (λ x q k. search (rules, tests)))
