use Rattle.history.proofs.Refusals.{passed_on}
use Rattle.custody.specs.Making.{no_scheme}
use Rattle.custody.proofs.Makings.{unroomed}
use Rattle.custody.proofs.cabinet.Cabinet.check.Goals as goal

pub returns-in_err-scheme : goal.returns-in_err-scheme
returns-in_err-scheme g c =
    let e = c.in_err-scheme.ensures in
    rw (passed_on c.from_residual.result c.in_err-scheme.field-0.0 c.from_residual.ensures.1) (no_scheme e.0 e.1)

pub returns-in_err-check_count : goal.returns-in_err-check_count
returns-in_err-check_count g c =
    let s = c.in_ok-scheme.ensures in
    let e = c.in_err-check_count.ensures in
    rw (passed_on c.from_residual-in_err-check_count.result c.in_err-check_count.field-0.0 c.from_residual-in_err-check_count.ensures.1)
    (unroomed c.args.t c.args.n c.args.shares c.share_length-full.result c.in_ok-scheme.scheme s.0 s.1 c.share_length-full.ensures e.0 e.1)
