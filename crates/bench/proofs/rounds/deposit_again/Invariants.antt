use Rattle.std.proofs.Common.{◌≡◌}
use Rattle.history.specs.Calls.{dealing, depositing}
use Rattle.custody.specs.States.{state_of, SameCabinet}
use Rattle.bench.specs.Rounds.{after}
use Rattle.bench.proofs.rounds.deposit_again.Given as goal

abbrev pub invariant-loop-done : goal.invariant-loop-done
invariant-loop-done g l =
    let C = l.initial.cabinet in
    SameCabinet C l.cabinet × (after (g.G.Group.ops C.group) C.scheme l.initial.working (dealing (depositing l.key) l.coefficients) l._done (state_of C l.initial.shares) ≡ state_of l.cabinet l.shares)
