use Rattle.std.proofs.Common.{length, ◌∙◌, ap₂}
use Rattle.algebra.specs.Dealing.{tuple_at}
use Rattle.sharing.specs.declared.scheme.Scheme.{Scheme}
use Rattle.sharing.proofs.Choosing.{picked}
use Rattle.sharing.proofs.Interpolating.{interpolated}
use Rattle.sharing.proofs.shares.tuple_at.Goals as goal

pub returns-clause-interpolates : goal.returns-clause-interpolates
returns-clause-interpolates g c v =
    let G = g.G.Group.ops c.args.group.now in
    let is = c.in_ok-helpers.ensures in
    interpolated G (g.met.G.Group.laws c.args.group.now) c.args.scheme c.args.helpers.now (picked c.args.scheme c.args.helpers.now (length c.args.out.now) is.2)
    c.args.point c.args.shares.now c.interpolate.new.out
    (c.interpolate.ensures v ∙ ap₂ (λ (s : Scheme) hs. tuple_at G s.q hs c.args.point c.args.shares.now) is.0 is.1)
