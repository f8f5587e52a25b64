use Rattle.std.proofs.Common.{Ok, Err, refl, ap, ◌∙◌}
use Rattle.std.proofs.lemmas.Result.{err_from_is_err_and}
use Rattle.console.specs.Held.{holding}
use Rattle.console.proofs.console.call.Goals as goal

pub returns-in_err-obey-in-Some : goal.returns-in_err-obey-in-Some
returns-in_err-obey-in-Some c =
    let p = err_from_is_err_and c.from_residual.result c.from_residual.ensures.1 in
    rw c.in-Some.is (holding c.obey.new.self, Err c.in_err-obey-in-Some.field-0.0, refl, p.1 ∙ ap Err p.2, c.in_err-obey-in-Some.ensures)

pub returns-in_ok-obey-in-Some : goal.returns-in_ok-obey-in-Some
returns-in_ok-obey-in-Some c =
    rw c.in-Some.is (holding c.obey.new.self, Ok c.in_ok-obey-in-Some.field-0, refl, refl, c.in_ok-obey-in-Some.ensures)
