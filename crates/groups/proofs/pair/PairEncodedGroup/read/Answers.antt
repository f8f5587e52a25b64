use Rattle.std.proofs.Common.{rules}
use Rattle.std.proofs.lemmas.Result.{err_from_is_err_and}
use Rattle.groups.specs.PairForms.{length_refused, first_refused, second_refused}
use Rattle.groups.proofs.pair.PairEncodedGroup.read.Goals as goal

pub returns-then-bytes-middle : goal.returns-then-bytes-middle
returns-then-bytes-middle g c =
    let L = g.met.A.EncodedGroup.encoded c.args.self.now.first in
    let K = g.met.B.EncodedGroup.encoded c.args.self.now.second in
    search (rules, length_refused)

pub returns-in_err-first : goal.returns-in_err-first
returns-in_err-first g c =
    let L = g.met.A.EncodedGroup.encoded c.args.self.now.first in
    let K = g.met.B.EncodedGroup.encoded c.args.self.now.second in
    let p = err_from_is_err_and c.from_residual.result c.from_residual.ensures.1 in
    let told = c.in_err-first.ensures in
    rw (p.1, p.2) (search (rules, first_refused))

pub returns-in_err-second : goal.returns-in_err-second
returns-in_err-second g c =
    let L = g.met.A.EncodedGroup.encoded c.args.self.now.first in
    let K = g.met.B.EncodedGroup.encoded c.args.self.now.second in
    let p = err_from_is_err_and c.from_residual-in_err-second.result c.from_residual-in_err-second.ensures.1 in
    let told = c.in_err-second.ensures in
    rw (p.1, p.2) (search (rules, second_refused))
