use Rattle.std.proofs.Common.{ℕ, Bool, ◌||◌, ltb, ◌∙◌, ap, rules, tests}
use Rattle.std.proofs.lemmas.List.{get_or_default}
use Rattle.std.proofs.lemmas.Iterator.{YieldsList-from_slice}
use Rattle.std.proofs.lemmas.Iterator.Search.{position_from_yields_List}
use Rattle.sharing.specs.Helpers.{unknown_at}
use Rattle.sharing.proofs.FirstPlaces.{position_place}
use Rattle.sharing.proofs.helpers.first_unknown.Goals as goal

pub returns : goal.returns
returns c =
    let hs = c.args.helpers.now in
    let test : ℕ → Bool = λ h. ltb h 1 || ltb c.args.n h in
    position_from_yields_List test _ _ c.position.result c.position.ensures.ran (YieldsList-from_slice hs c.iter.ensures.rest) (λ x b q k. (search rules, search (rules, tests)))
    ∙ position_place test (unknown_at c.args.n hs) hs (λ k d l. ap test (get_or_default hs k d 0 l))
