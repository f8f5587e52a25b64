use Rattle.std.proofs.Common.{replicate, ap, ◌∙◌, rules}
use Rattle.sharing.proofs.Filling.{filled}
use Rattle.sharing.proofs.tuples.fill_zero.Goals as goal

pub returns : goal.returns
returns g c =
    filled _ (g.G.Group.ops c.args.g.now).zero _ (λ x q k. search rules) c.fill_with.new.self c.fill_with.ensures.ran.0 c.fill_with.ensures.ran.1
    ∙ ap (λ n. replicate n (g.G.Group.ops c.args.g.now).zero) c.fill_with.ensures.len
