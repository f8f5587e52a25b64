use Rattle.std.proofs.Common.{◌≡◌, length, sym, refl, ap, ◌∙◌, arith}
use Rattle.history.specs.Calls.{opening, key_is, refused, answered}
use Rattle.history.proofs.Refusals.{passed_on}
use Rattle.custody.specs.States.{state_of}
use Rattle.bench.proofs.Repeated.{told_after}
use Rattle.bench.proofs.rounds.open_again.Goals as goal

pub returns-in_err-open : goal.returns-in_err-open
returns-in_err-open g c =
    let C = c.args.cabinet.now in
    let G = g.G.Group.ops C.group in
    let st = state_of C c.args.shares.now in
    let f = c.in_err-open.field-0.0 in
    let len : length c.loop.working ≡ length c.args.working.now = omega arith in
    told_after G G C.scheme C.scheme c.args.working.now c.loop.working (opening c.args.helpers.now) st st (refused f) refl refl len refl
    (ap (λ o. o.answer) c.in_err-open.ensures)
    ∙ sym (ap (answered key_is) (passed_on c.from_residual-in_err-open.result f c.from_residual-in_err-open.ensures.1))
