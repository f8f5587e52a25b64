use Rattle.std.proofs.Common.{refl, arith}
use Rattle.history.specs.Calls.{depositing}
use Rattle.history.proofs.Stepping.{dealing_fine}
use Rattle.custody.specs.States.{state_of}
use Rattle.custody.proofs.Keyed.{refused_deal, accepted_deal}
use Rattle.custody.proofs.cabinet.Cabinet.deal.Goals as goal

pub returns-in_err-check_dealing : goal.returns-in_err-check_dealing
returns-in_err-check_dealing g c =
    let C = c.args.self.now in
    record {
      step = refused_deal (g.G.Group.ops C.group) (g.met.G.Group.laws C.group) C.scheme (state_of C c.args.shares.now) c.args.working.now c.args.change c.args.key c.args.coefficients.now
          c.from_residual.result c.in_err-check_dealing.field-0.0 c.from_residual.ensures.1 c.in_err-check_dealing.ensures;
      same = (refl, refl, refl);
    }

pub deal_out-requires : goal.deal_out-requires
deal_out-requires g c =
    let C = c.args.self.now in
    let fine = dealing_fine (g.G.Group.ops C.group) (g.met.G.Group.laws C.group) C.scheme (state_of C c.args.shares.now) c.args.working.now (depositing c.args.key) c.args.coefficients.now
    c.in_ok-check_dealing.ensures in
    record { full = fine.0.full; room = fine.0.room; count = fine.1.count }

pub returns : goal.returns
returns g c =
    let C = c.args.self.now in
    record {
      step = accepted_deal (g.G.Group.ops C.group) (g.met.G.Group.laws C.group) C.scheme (state_of C c.args.shares.now) c.args.working.now c.args.change c.args.key c.args.coefficients.now
          c.deal_out.new.shares c.fill_zero.new.to _ c.in_ok-check_dealing.ensures c.in_ok-deal_out.ensures c.fill_zero.ensures (omega arith);
      same = (refl, refl, refl);
    }
