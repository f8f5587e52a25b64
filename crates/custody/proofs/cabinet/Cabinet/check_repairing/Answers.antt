use Rattle.std.proofs.Common.{false, ◌++◌, Err, ◌∙◌}
use Rattle.sharing.proofs.Verdicts.{then_refused, then_checked}
use Rattle.history.proofs.Refusals.{passed_on}
use Rattle.history.specs.Rules.{memory_rows, change_rows, list_rows}
use Rattle.custody.proofs.cabinet.Cabinet.check_repairing.Goals as goal

pub returns-in_err-check_memory : goal.returns-in_err-check_memory
returns-in_err-check_memory g c =
    let s = c.args.self.now.scheme in
    let hs = c.args.self.now.ledger.holders in
    passed_on c.from_residual.result c.in_err-check_memory.field-0.0 c.from_residual.ensures.1
    ∙ then_refused (memory_rows (g.G.Group.ops c.args.self.now.group) s c.args.shares.now c.args.working) (change_rows s hs false c.args.holder ++ list_rows s hs c.args.helpers.now)
    c.in_err-check_memory.field-0.0 c.in_err-check_memory.ensures

pub returns-in_err-check_change : goal.returns-in_err-check_change
returns-in_err-check_change g c =
    let s = c.args.self.now.scheme in
    let hs = c.args.self.now.ledger.holders in
    let e = c.in_err-check_change.field-0.0 in
    passed_on c.from_residual-in_err-check_change.result e c.from_residual-in_err-check_change.ensures.1
    ∙ then_checked (memory_rows (g.G.Group.ops c.args.self.now.group) s c.args.shares.now c.args.working) (change_rows s hs false c.args.holder ++ list_rows s hs c.args.helpers.now) (Err e)
    c.in_ok-check_memory.ensures
    (then_refused (change_rows s hs false c.args.holder) (list_rows s hs c.args.helpers.now) e c.in_err-check_change.ensures)

pub returns : goal.returns
returns g c =
    let s = c.args.self.now.scheme in
    let hs = c.args.self.now.ledger.holders in
    then_checked (memory_rows (g.G.Group.ops c.args.self.now.group) s c.args.shares.now c.args.working) (change_rows s hs false c.args.holder ++ list_rows s hs c.args.helpers.now) c.check_list.result
    c.in_ok-check_memory.ensures
    (then_checked (change_rows s hs false c.args.holder) (list_rows s hs c.args.helpers.now) c.check_list.result c.in_ok-check_change.ensures c.check_list.ensures)
