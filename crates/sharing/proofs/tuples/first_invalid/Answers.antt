use Rattle.std.proofs.Common.{not, ◌∙◌, ap, rules, tests}
use Rattle.std.proofs.lemmas.List.{get_or_default}
use Rattle.std.proofs.lemmas.Iterator.{YieldsList-from_slice}
use Rattle.std.proofs.lemmas.Iterator.Search.{position_from_yields_List}
use Rattle.algebra.specs.Tuples.{invalid_at}
use Rattle.sharing.proofs.FirstPlaces.{position_place}
use Rattle.sharing.proofs.tuples.first_invalid.Goals as goal

pub returns : goal.returns
returns g c =
    let G = g.G.Group.ops c.args.g.now in
    let xs = c.args.xs.now in
    position_from_yields_List (λ x. not (G.valid x)) _ _ c.position.result c.position.ensures.ran (YieldsList-from_slice xs c.iter.ensures.rest) (λ x b q k. search (rules, tests))
    ∙ position_place (λ x. not (G.valid x)) (invalid_at G xs) xs (λ k d l. ap (λ x. not (G.valid x)) (get_or_default xs k d G.zero l))
