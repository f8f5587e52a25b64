use Rattle.std.proofs.Common.{◌≡◌, length, ap, ◌∙◌, arith}
use Rattle.history.specs.Calls.{dealing, depositing, opening, key_is, answered}
use Rattle.history.specs.Steps.{made, step}
use Rattle.custody.specs.States.{state_of}
use Rattle.bench.specs.Rounds.{after, no_cabinet, no_deposit, not_dealt, no_opening}
use Rattle.bench.proofs.Repeated.{begun, stopped, told_after, by_answer, on_refusal}
use Rattle.bench.proofs.rounds.open_rounds.Goals as goal

pub returns-in_err-scheme : goal.returns-in_err-scheme
returns-in_err-scheme g c =
    on_refusal c.from_residual.result _ _ c.in_err-scheme.field-0.0 c.from_residual.ensures.1 (not_dealt (no_cabinet c.in_err-scheme.ensures))

pub returns-in_err-deposit_again : goal.returns-in_err-deposit_again
returns-in_err-deposit_again g c =
    let ops = g.G.Group.ops in
    let S = c.in_ok-scheme.scheme in
    let C = c.make-cabinet.result in
    let new = c.make-cabinet.ensures.cabinet in
    let sized = c.in_ok-scheme.ensures in
    let f = c.in_err-deposit_again.field-0.0 in
    on_refusal c.from_residual-in_err-deposit_again.result _ _ f c.from_residual-in_err-deposit_again.ensures.1
    (not_dealt (no_deposit S sized.0 sized.1 (stopped (ops c.args.group) (ops C.group) S C.scheme c.args.working.now (dealing (depositing c.args.key) c.args.coefficients.now) 1
    (length c.args.shares.now) C.ledger c.make-cabinet.new.shares f
    (ap ops new.0) new.1 new.3 c.make-cabinet.ensures.shares sized.2 c.in_err-deposit_again.ensures.state)))

pub returns : goal.returns
returns g c =
    let ops = g.G.Group.ops in
    let G = ops c.args.group in
    let S = c.in_ok-scheme.scheme in
    let C = c.make-cabinet.result in
    let D = c.deposit_again.new.cabinet in
    let new = c.make-cabinet.ensures.cabinet in
    let same = c.deposit_again.ensures.same in
    let sized = c.in_ok-scheme.ensures in
    let call = dealing (depositing c.args.key) c.args.coefficients.now in
    let len : length c.deposit_again.new.working ≡ length c.args.working.now = omega arith in
    let held : after G S c.args.working.now call 1 (made G S) ≡ state_of D c.deposit_again.new.shares =
    begun G (ops C.group) S C.scheme c.args.working.now call 1
    (length c.args.shares.now) C.ledger c.make-cabinet.new.shares (state_of D c.deposit_again.new.shares)
    (ap ops new.0) new.1 new.3 c.make-cabinet.ensures.shares sized.2 c.in_ok-deposit_again.ensures.state in
    let told : (step G S (after G S c.args.working.now call 1 (made G S)) c.args.working.now (opening c.args.helpers.now)).answer ≡ answered key_is c.open_again.result =
    told_after G (ops D.group) S D.scheme c.args.working.now c.deposit_again.new.working (opening c.args.helpers.now)
    (after G S c.args.working.now call 1 (made G S)) (state_of D c.deposit_again.new.shares) (answered key_is c.open_again.result)
    (ap ops (same.0 ∙ new.0)) (same.1 ∙ new.1) len held c.open_again.ensures in
    by_answer c.open_again.result _ _ _ told
    (λ k e. record { scheme = S; threshold = sized.0; holders = sized.1; answer = e })
    (λ f e. no_opening S sized.0 sized.1 e)
