use Rattle.std.proofs.Common.{ap, ◌∙◌, arith}
use Rattle.sharing.specs.Verdicts.{verdict}
use Rattle.sharing.proofs.Choosing.{takeable}
use Rattle.history.specs.Calls.{opening, key_is}
use Rattle.history.proofs.Refusals.{refused_step}
use Rattle.history.proofs.Stepping.{opening_fine, opened}
use Rattle.custody.specs.States.{state_of}
use Rattle.custody.proofs.Dealt.{never_refused}
use Rattle.custody.proofs.cabinet.Cabinet.open.Goals as goal

pub returns-in_err-check_opening : goal.returns-in_err-check_opening
returns-in_err-check_opening g c =
    let C = c.args.self.now in
    refused_step (g.G.Group.ops C.group) C.scheme key_is (state_of C c.args.shares.now) c.args.working.now (opening c.args.helpers.now)
    c.from_residual.result c.in_err-check_opening.field-0.0 c.from_residual.ensures.1 c.in_err-check_opening.ensures

pub returns-in_err-tuple_at : goal.returns-in_err-tuple_at
returns-in_err-tuple_at g c =
    let C = c.args.self.now in
    let s = C.scheme in
    let fine = opening_fine (g.G.Group.ops C.group) (g.met.G.Group.laws C.group) s (state_of C c.args.shares.now) c.args.working.now c.args.helpers.now c.in_ok-check_opening.ensures in
    absurd
    (never_refused c.in_err-tuple_at.field-0.0 tt
    (c.in_err-tuple_at.ensures.verdict ∙ ap verdict (takeable s c.args.helpers.now _ _ _ fine.0.full (omega (arith, fine.0.room)) (omega (arith, fine.0.room)) fine.1.listed)))

pub returns : goal.returns
returns g c =
    let C = c.args.self.now in
    opened (g.G.Group.ops C.group) (g.met.G.Group.laws C.group) C.scheme (state_of C c.args.shares.now) c.args.working.now c.args.helpers.now
    c.tuple_at.new.out c.fill_zero.new.to c.read_key-key.result _ c.in_ok-check_opening.ensures c.in_ok-tuple_at.ensures.tuple c.read_key-key.ensures c.fill_zero.ensures (omega arith)
