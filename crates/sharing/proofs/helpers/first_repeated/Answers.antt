use Rattle.std.proofs.Common.{length, refl, rules, tests, arith}
use Rattle.std.proofs.lemmas.Iterator.{YieldsList-from_range}
use Rattle.std.proofs.lemmas.Iterator.Search.{find_from_yields_List}
use Rattle.sharing.specs.Helpers.{repeated_at}
use Rattle.sharing.proofs.FirstPlaces.{find_place}
use Rattle.sharing.proofs.helpers.first_repeated.Goals as goal

pub returns : goal.returns
returns c =
    let hs = c.args.helpers.now in
    let n = length hs in
    find_place (repeated_at hs) 0 n c.find.result
    (find_from_yields_List (repeated_at hs) _ _ c.find.result c.find.ensures.ran (YieldsList-from_range 0 n n refl (omega arith)) (λ x b q k. search (rules, tests)))
