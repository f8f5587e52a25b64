use Rattle.std.proofs.Common.{refl}
use Rattle.laws.proofs.Whole.{promises}
use Rattle.custody.proofs.cabinet.Cabinet.make.Goals as goal

pub returns : goal.returns
returns g c =
    let laws = promises (g.G.Group.ops c.args.group) (g.met.G.Group.laws c.args.group) c.args.scheme in
    record {
      cabinet = (refl, refl, refl, c.new.ensures);
      shares = c.fill_zero.ensures;
      opens_to_total = laws.opens_to_total;
      shares_as_dealt = laws.shares_as_dealt;
      few_shares_tell_nothing = laws.few_shares_tell_nothing;
    }
