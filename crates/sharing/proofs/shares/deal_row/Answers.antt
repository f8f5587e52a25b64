use Rattle.std.proofs.Common.{◌+◌, ◌-◌}
use Rattle.algebra.specs.Dealing.{dealt}
use Rattle.sharing.proofs.ShareRows.{row_changed}
use Rattle.sharing.proofs.shares.deal_row.Goals as goal

pub returns : goal.returns
returns g c vs vk vc =
    let G = g.G.Group.ops c.args.group.now in
    let w = c.args.scheme.q - 1 in
    let tuple = dealt G w (c.args.h + 1) c.args.key (c.args.scheme.t - 1) c.args.coefficients.now in
    row_changed G c.args.change c.width-width.result w c.args.h c.args.shares.now tuple c.change_share.new.share c.width-width.ensures (c.change_share.ensures vk vc) vs
