use Rattle.std.proofs.Common.{ℕ, not, ◌∙◌, ap, rules, tests}
use Rattle.std.proofs.lemmas.List.{get_or_default}
use Rattle.std.proofs.lemmas.Iterator.{YieldsList-from_slice}
use Rattle.std.proofs.lemmas.Iterator.Search.{position_from_yields_List}
use Rattle.sharing.proofs.FirstPlaces.{position_place}
use Rattle.history.specs.Ledgers.{is_present}
use Rattle.history.specs.Rules.{missing_at}
use Rattle.custody.proofs.checks.first_missing.Goals as goal

pub returns : goal.returns
returns c =
    let holders = c.args.ledger.now.holders in
    let hs = c.args.helpers.now in
    let missing = λ (h : ℕ). not (is_present holders h) in
    position_from_yields_List missing _ _ c.position.result c.position.ensures.ran (YieldsList-from_slice hs c.iter.ensures.rest) (λ x b q k. search (rules, tests))
    ∙ position_place missing (missing_at holders hs) hs (λ k d l. ap missing (get_or_default hs k d 0 l))
