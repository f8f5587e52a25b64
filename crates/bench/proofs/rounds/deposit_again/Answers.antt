use Rattle.std.proofs.Common.{◌≡◌, length, ap, ◌∙◌, arith}
use Rattle.history.specs.Calls.{dealing, depositing, refused}
use Rattle.custody.specs.States.{state_of}
use Rattle.bench.specs.Rounds.{after}
use Rattle.bench.proofs.Repeated.{again, told_after, on_refusal}
use Rattle.bench.proofs.rounds.deposit_again.Goals as goal

pub loop-done-preserved : goal.loop-done-preserved
loop-done-preserved g c =
    let C = c.args.cabinet.now in
    let D = c.loop-done.cabinet in
    let ops = g.G.Group.ops in
    let same = c.loop-done.invariant.0 in
    let kept = c.deposit.ensures.same in
    let len : length c.loop-done.working ≡ length c.args.working.now = omega arith in (
      (kept.0 ∙ same.0, kept.1 ∙ same.1, kept.2 ∙ same.2),
      again (ops C.group) (ops D.group) C.scheme D.scheme c.args.working.now c.loop-done.working _
          (dealing (depositing c.args.key) c.args.coefficients.now) c.loop-done._done (state_of C c.args.shares.now)
          (state_of D c.loop-done.shares) (state_of c.deposit.new.self c.deposit.new.shares) _
          (ap ops same.0) same.1 len c.loop-done.invariant.1 c.deposit.ensures.step,
    )

pub returns-in_err-deposit : goal.returns-in_err-deposit
returns-in_err-deposit g c =
    let C = c.args.cabinet.now in
    let D = c.loop-done.cabinet in
    let ops = g.G.Group.ops in
    let f = c.in_err-deposit.field-0.0 in
    let call = dealing (depositing c.args.key) c.args.coefficients.now in
    let st = state_of C c.args.shares.now in
    let same = c.loop-done.invariant.0 in
    let kept = c.deposit.ensures.same in
    let len : length c.loop-done.working ≡ length c.args.working.now = omega arith in
    record {
      same = (kept.0 ∙ same.0, kept.1 ∙ same.1, kept.2 ∙ same.2);
      state = on_refusal c.from_residual.result _ _ f c.from_residual.ensures.1
          (
          record {
            round = c.loop-done._done;
            within = c.loop-done-test.true;
            answer = told_after (ops C.group) (ops D.group) C.scheme D.scheme c.args.working.now c.loop-done.working call
                (after (ops C.group) C.scheme c.args.working.now call c.loop-done._done st) (state_of D c.loop-done.shares) (refused f)
                (ap ops same.0) same.1 len c.loop-done.invariant.1 (ap (λ o. o.answer) c.in_err-deposit.ensures.step);
          }
          );
    }
