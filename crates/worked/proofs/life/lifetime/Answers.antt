use Rattle.worked.proofs.Lifetimes.{lived}
use Rattle.worked.proofs.life.lifetime.Goals as goal

pub returns : goal.returns
returns g c full =
    lived g.G.Group.ops c.args.group c.args.scheme _ 0
    c.make-cabinet.result c.deposit.new.self c.refresh.new.self c.revoke.new.self c.repair.new.self c.withdraw.new.self
    c.make-cabinet.new.shares c.deposit.new.shares c.refresh.new.shares c.revoke.new.shares c.repair.new.shares c.withdraw.new.shares
    c.args.working.now c.deposit.new.working c.refresh.new.working c.repair.new.working c.withdraw.new.working c.open.new.working
    c.args.deposited c.args.withdrawn c.args.coefficients.now c.args.coefficients.now c.args.coefficients.now c.args.revoked c.args.revoked
    c.in_ok-deposit.field-0 c.in_ok-refresh.field-0 c.in_ok-revoke.field-0 c.in_ok-repair.field-0 c.in_ok-withdraw.field-0
    c.args.helpers.now c.args.helpers.now c.open.result
    c.make-cabinet.ensures.opens_to_total c.make-cabinet.ensures.cabinet c.make-cabinet.ensures.shares full
    c.in_ok-deposit.ensures.step c.in_ok-deposit.ensures.same
    c.in_ok-refresh.ensures.step c.in_ok-refresh.ensures.same
    c.in_ok-revoke.ensures.step c.in_ok-revoke.ensures.same
    c.in_ok-repair.ensures.step c.in_ok-repair.ensures.same
    c.in_ok-withdraw.ensures.step c.in_ok-withdraw.ensures.same
    c.open.ensures
