use Rattle.std.proofs.Common.{◌≡◌, ◌+◌, ◌-◌, true, false, length, drop, ◌∙◌, arith, rules}
use Rattle.std.specs.Option.{option_map}
use Rattle.std.proofs.lemmas.Iterator.{YieldsList-from_slice, IsFirst-from_position}
use Rattle.std.proofs.lemmas.List.{take_all, length-drop}
use borrow.Author.Tests.{tests}
use Rattle.custody.proofs.Nonzero.{Differs, first_nonzero}
use Rattle.custody.proofs.opening.first_nonzero.Goals as goal

pub returns : goal.returns
returns g c p =
    let G = g.G.Group.ops c.args.group.now in
    let L = g.met.G.Group.laws c.args.group.now in
    let m = c.args.tuple.now in
    let z = c.zero-zero.result in
    let r = c.position-later.result in
    let rest : c.iter.result.rest.now ≡ drop 1 m = c.iter.ensures.rest ∙ take_all (length m - 1) (drop 1 m) (omega (arith, length-drop 1 m)) in
    let e : c.map.result ≡ option_map (λ i. i + 1) r = search rules in
    e
    ∙ first_nonzero G L m z c.zero-zero.ensures p r
    (IsFirst-from_position _ _ r (Differs G L m z true) (Differs G L m z false) c.position-later.ensures.ran (YieldsList-from_slice (drop 1 m) rest) (λ x q k. search (rules, tests)) (λ x q k. search (rules, tests)))
