use Rattle.std.proofs.Common.{◌∙◌}
use Rattle.sharing.proofs.Verdicts.{then_refused, then_checked}
use Rattle.history.proofs.Refusals.{passed_on}
use Rattle.history.specs.Rules.{memory_rows}
use Rattle.custody.specs.Dealings.{keyed_rows}
use Rattle.custody.proofs.cabinet.Cabinet.check_dealing.Goals as goal

pub returns-in_err-check_memory : goal.returns-in_err-check_memory
returns-in_err-check_memory g c =
    let G = g.G.Group.ops c.args.self.now.group in
    let s = c.args.self.now.scheme in
    passed_on c.from_residual.result c.in_err-check_memory.field-0.0 c.from_residual.ensures.1
    ∙ then_refused (memory_rows G s c.args.shares.now c.args.working) (keyed_rows G s c.args.self.now.ledger.epoch c.args.key c.args.coefficients.now)
    c.in_err-check_memory.field-0.0 c.in_err-check_memory.ensures

pub returns : goal.returns
returns g c =
    let G = g.G.Group.ops c.args.self.now.group in
    let s = c.args.self.now.scheme in
    then_checked (memory_rows G s c.args.shares.now c.args.working) (keyed_rows G s c.args.self.now.ledger.epoch c.args.key c.args.coefficients.now)
    c.check_deal.result c.in_ok-check_memory.ensures c.check_deal.ensures
