use Rattle.std.proofs.Common.{length, ap}
use Rattle.std.proofs.lemmas.Result.{MatchResult-weaker}
use Rattle.history.specs.Calls.{dealing, depositing}
use Rattle.custody.specs.States.{state_of}
use Rattle.bench.specs.Rounds.{no_cabinet, no_deposit}
use Rattle.bench.proofs.Repeated.{begun, stopped, on_refusal}
use Rattle.bench.proofs.rounds.deposit_rounds.Goals as goal

pub returns-in_err-scheme : goal.returns-in_err-scheme
returns-in_err-scheme g c =
    on_refusal c.from_residual.result _ _ c.in_err-scheme.field-0.0 c.from_residual.ensures.1 (no_cabinet c.in_err-scheme.ensures)

pub returns : goal.returns
returns g c =
    let ops = g.G.Group.ops in
    let G = ops c.args.group in
    let S = c.in_ok-scheme.scheme in
    let C = c.make-cabinet.result in
    let new = c.make-cabinet.ensures.cabinet in
    let sized = c.in_ok-scheme.ensures in
    let call = dealing (depositing c.args.key) c.args.coefficients.now in
    MatchResult-weaker c.deposit_again.result c.deposit_again.ensures.state
    (
    λ u e.
    record {
      scheme = S;
      threshold = sized.0;
      holders = sized.1;
      left = ap (λ s. s.shares) (begun G (ops C.group) S C.scheme c.args.working.now call c.args.rounds
          (length c.args.shares.now) C.ledger c.make-cabinet.new.shares (state_of c.deposit_again.new.cabinet c.deposit_again.new.shares)
          (ap ops new.0) new.1 new.3 c.make-cabinet.ensures.shares sized.2 e);
    }
    )
    (
    λ f z. no_deposit S sized.0 sized.1 (stopped G (ops C.group) S C.scheme c.args.working.now call c.args.rounds
    (length c.args.shares.now) C.ledger c.make-cabinet.new.shares f
    (ap ops new.0) new.1 new.3 c.make-cabinet.ensures.shares sized.2 z)
    )
