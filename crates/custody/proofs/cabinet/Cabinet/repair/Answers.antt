use Rattle.std.proofs.Common.{List, ◌-◌, refl, ap, ◌∙◌, arith}
use Rattle.algebra.specs.Rows.{put_row}
use Rattle.sharing.specs.Verdicts.{verdict}
use Rattle.sharing.proofs.Choosing.{takeable}
use Rattle.history.specs.Calls.{repairing, holder_is}
use Rattle.history.proofs.Refusals.{refused_step}
use Rattle.history.proofs.Stepping.{repairing_fine, repaired}
use Rattle.custody.specs.States.{state_of}
use Rattle.custody.proofs.Rewritten.{row_written}
use Rattle.custody.proofs.Dealt.{never_refused}
use Rattle.custody.proofs.cabinet.Cabinet.repair.Goals as goal

pub returns-in_err-check_repairing : goal.returns-in_err-check_repairing
returns-in_err-check_repairing g c =
    let C = c.args.self.now in
    record {
      step = refused_step (g.G.Group.ops C.group) C.scheme holder_is (state_of C c.args.shares.now) c.args.working.now (repairing c.args.holder c.args.helpers.now)
          c.from_residual.result c.in_err-check_repairing.field-0.0 c.from_residual.ensures.1 c.in_err-check_repairing.ensures;
      same = (refl, refl, refl);
    }

pub returns-in_err-tuple_at : goal.returns-in_err-tuple_at
returns-in_err-tuple_at g c =
    let C = c.args.self.now in
    let s = C.scheme in
    let fine = repairing_fine (g.G.Group.ops C.group) (g.met.G.Group.laws C.group) s (state_of C c.args.shares.now) c.args.working.now c.args.holder c.args.helpers.now
    c.in_ok-check_repairing.ensures in
    absurd
    (never_refused c.in_err-tuple_at.field-0.0 tt
    (c.in_err-tuple_at.ensures.verdict ∙ ap verdict (takeable s c.args.helpers.now _ _ _ fine.0.full (omega (arith, fine.0.room)) (omega (arith, fine.0.room)) fine.2.listed)))

pub returns : goal.returns
returns g c =
    let C = c.args.self.now in
    let written = λ (t : List _). put_row (C.scheme.q - 1) (c.args.holder - 1) t c.args.shares.now in
    record {
      step = repaired (g.G.Group.ops C.group) (g.met.G.Group.laws C.group) C.scheme (state_of C c.args.shares.now) c.args.working.now c.args.holder c.args.helpers.now
          c.tuple_at.new.out _ c.fill_zero.new.to c.mark.new.self _ c.in_ok-check_repairing.ensures c.in_ok-tuple_at.ensures.tuple
          (row_written (C.scheme.q - 1) (c.args.holder - 1) c.row-row.result.start c.row-row.result.end c.args.shares.now _ c.row-row.ensures.start c.row-row.ensures.end ∙ ap written c.copy_from_slice.ensures.after) c.mark.ensures.known c.fill_zero.ensures (omega arith);
      same = (refl, refl, refl);
    }
