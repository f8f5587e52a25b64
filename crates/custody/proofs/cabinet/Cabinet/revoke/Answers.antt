use Rattle.std.proofs.Common.{◌≤◌, length, [], refl, arith, rules}
use Rattle.history.specs.Calls.{revoking, holder_is}
use Rattle.history.proofs.Refusals.{refused_step}
use Rattle.history.proofs.Stepping.{revoking_fine}
use Rattle.custody.specs.States.{state_of}
use Rattle.custody.proofs.cabinet.Cabinet.revoke.Goals as goal

pub returns-in_err-check_revoking : goal.returns-in_err-check_revoking
returns-in_err-check_revoking g c =
    let C = c.args.self.now in
    record {
      step = refused_step (g.G.Group.ops C.group) C.scheme holder_is (state_of C c.args.shares.now) [] (revoking c.args.holder)
          c.from_residual.result c.in_err-check_revoking.field-0.0 c.from_residual.ensures.1 c.in_err-check_revoking.ensures;
      same = (refl, refl, refl);
    }

pub offset_bounds-shares-row : goal.offset_bounds-shares-row
offset_bounds-shares-row g c =
    let C = c.args.self.now in
    let fine = revoking_fine (g.G.Group.ops C.group) (g.met.G.Group.laws C.group) C.scheme (state_of C c.args.shares.now) [] c.args.holder c.in_ok-check_revoking.ensures in
    let l : c.row-row.result.start ≤ length c.args.shares.now = omega (arith, fine.0.full) in
    search rules

pub slice_bounds-fill_zero-end : goal.slice_bounds-fill_zero-end
slice_bounds-fill_zero-end g c =
    let C = c.args.self.now in
    let fine = revoking_fine (g.G.Group.ops C.group) (g.met.G.Group.laws C.group) C.scheme (state_of C c.args.shares.now) [] c.args.holder c.in_ok-check_revoking.ensures in
    let l : c.row-row.result.end ≤ length c.args.shares.now = omega (arith, fine.0.full) in
    search rules
