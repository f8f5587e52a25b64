use Rattle.std.proofs.Common.{◌-◌, ap, ◌∙◌, rules, arith}
use Rattle.std.specs.Slice.Exact.{rchunks_exact_rest, rchunks_exact_remainder}
use Rattle.algebra.specs.Scalars.{act, point}
use Rattle.algebra.specs.Tuples.{list_ops}
use Rattle.algebra.proofs.RowLists.{row_end}
use Rattle.sharing.proofs.Acting.{act_valid, act_length}
use Rattle.sharing.proofs.Changing.{key_changed}
use Rattle.sharing.proofs.Horner.{deal_starts, deal_goes_on, deal_ends}
use Rattle.sharing.specs.Shares.{changed}
use Rattle.sharing.proofs.dealing.change_share.Goals as goal

pub loop-row-init : goal.loop-row-init
loop-row-init g c =
    let s = c.args.scheme in
    let cs = c.args.coefficients.now in
    let whole = row_end 0 (s.t - 1) (s.q - 1) (omega (arith, s.allowed)) in (
      search rules,
      tt,
      search rules,
      omega arith,
      omega arith,
      deal_starts (g.G.Group.ops c.args.g.now) (g.met.G.Group.laws c.args.g.now) (c.args.scheme.q - 1) c.args.i (c.args.scheme.t - 1)
          c.args.coefficients.now c.split_at.result.0.now c.split_at.result.1.now (rchunks_exact_remainder c.rchunks_exact-row-items.result) (rchunks_exact_rest c.into_iter-row-iterator.result)
          c.copy_from_slice.new.self c.split_at.ensures.by_index.0 (omega (arith, whole)) c.requires.full (search rules) (search rules) c.copy_from_slice.ensures.after,
    )

pub loop-row-preserved : goal.loop-row-preserved
loop-row-preserved g c = (
  search rules,
  tt,
  search rules,
  omega arith,
  c.loop-row.invariant.3,
  deal_goes_on (g.G.Group.ops c.args.g.now) (g.met.G.Group.laws c.args.g.now) (c.args.scheme.q - 1) c.args.i
      c.args.coefficients.now (rchunks_exact_rest c.loop-row.row-iterator) (rchunks_exact_rest c.next.new.self) c.in-Some.row.now c.loop-row.value.now c.copy_from_slice-in-loop-row.new.self c.change_point.new.to
      (search rules) (search rules) c.loop-row.invariant.3 c.copy_from_slice-in-loop-row.ensures.after c.change_point.ensures c.loop-row.invariant.5,
)

pub returns : goal.returns
returns g c vk vc vs =
    let G = g.G.Group.ops c.args.g.now in
    let L = g.met.G.Group.laws c.args.g.now in
    let w = c.args.scheme.q - 1 in
    let i = c.args.i in
    let p = point i in
    let value = c.loop-row.value.now in
    let e = deal_ends G L w i (c.args.scheme.t - 1) c.args.key c.args.coefficients.now (rchunks_exact_rest c.loop-row.row-iterator) value (search rules) c.requires.full c.loop-row.invariant.5 vk vc in
    key_changed G L c.args.change w c.args.key c.change_element.result c.index-share-0.result c.args.share.now (act (list_ops G w) p value) c.change_point-2.new.to
    (omega arith) c.requires.share (act_length G L w value c.loop-row.invariant.3 e.0 p) vk vs (act_valid G L w value c.loop-row.invariant.3 e.0 p)
    (c.change_point-2.ensures e.0 vs) c.index-share-0.is c.change_element.ensures ∙ ap (changed G c.args.change c.args.share.now) e.1
