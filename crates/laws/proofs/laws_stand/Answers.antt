use Rattle.std.proofs.Common.{refl}
use Rattle.laws.proofs.Whole.{promises}
use Rattle.laws.proofs.laws_stand.Goals as goal

pub returns : goal.returns
returns g c =
    let p = promises _ (g.met.G.Group.laws c.args.group.now) c.args.scheme in
    record { opens_to_total = p.opens_to_total; shares_as_dealt = p.shares_as_dealt; few_shares_tell_nothing = p.few_shares_tell_nothing; answer = refl }
