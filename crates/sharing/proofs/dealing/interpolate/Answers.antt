use Rattle.std.proofs.Common.{◌≡◌, ℕ, ◌+◌, ◌-◌, ◌*◌, ◌<◌, ◌≤◌, [], ◌∷◌, length, ap, ◌∙◌, rules, arith}
use Rattle.std.specs.Slice.Iter.{iter_rest}
use Rattle.std.specs.Iterator.Adapters.{rev_source}
use Rattle.algebra.specs.Tuples.{tuple_zero}
use Rattle.algebra.specs.Valid.{zero_tuple_valid}
use Rattle.algebra.proofs.RowLists.{row_end}
use Rattle.sharing.proofs.Acting.{as_valid}
use Rattle.sharing.proofs.Backward.{walked, kept}
use Rattle.sharing.proofs.Summing.{sum_step}
use Rattle.sharing.proofs.dealing.interpolate.Goals as goal
use Rattle.sharing.proofs.dealing.interpolate.Goals.{In-Some}

pub loop-j-init : goal.loop-j-init
loop-j-init g c =
    let G = g.G.Group.ops c.args.g.now in (
      [],
      search rules,
      λ v. (c.fill_zero.ensures ∙ ap (tuple_zero G) c.requires.out, as_valid G (g.met.G.Group.laws c.args.g.now) _ _ c.fill_zero.ensures (zero_tuple_valid G (g.met.G.Group.laws c.args.g.now) _)),
    )

held : (g : _) (c : In-Some g) → (1 ≤ c.in-Some.j.now) × (c.in-Some.j.now ≤ c.args.helpers.scheme.n)
held g c =
    kept c.args.helpers.list.now (iter_rest (rev_source c.loop-j.j-iterator)) (iter_rest (rev_source c.next.new.self)) c.loop-j.invariant.0 c.in-Some.j.now
    c.loop-j.invariant.1 (search rules) (λ j. (1 ≤ j) × (j ≤ c.args.helpers.scheme.n)) 0 c.args.helpers.known

-- the row of the helper within the rows of all holders
row_within : (j n w width rows : ℕ) → (1 ≤ j) × (j ≤ n) → width ≡ w → rows ≡ n * w → (j - 1) * width + w ≤ rows
row_within j n w width rows h e f =
    let l : j - 1 < n = omega (arith, h.0, h.1) in
    omega (arith, row_end (j - 1) n w l, f, ap (λ v. (j - 1) * v) e)

pub offset_bounds-shares-a : goal.offset_bounds-shares-a
offset_bounds-shares-a g c =
    omega (
      arith,
      row_within c.in-Some.j.now c.args.helpers.scheme.n (c.args.helpers.scheme.q - 1) c.width-width.result (length c.args.shares.now)
          (held g (goal.at.offset_bounds-shares-a g c).In-Some) c.width-width.ensures c.requires.full,
    )

pub loop-j-preserved : goal.loop-j-preserved
loop-j-preserved g c =
    let done = c.loop-j.invariant.0 in
    let j = c.in-Some.j.now in (
      j ∷ done,
      walked c.args.helpers.list.now (iter_rest (rev_source c.loop-j.j-iterator)) (iter_rest (rev_source c.next.new.self)) done j c.loop-j.invariant.1 (search rules),
      λ v. sum_step (g.G.Group.ops c.args.g.now) (g.met.G.Group.laws c.args.g.now) c.args.helpers.scheme.q c.args.helpers.list.now c.args.p c.args.shares.now
          done j c.width-width.result c.loop-j.out c.add_weighted.new.out
          c.args.helpers.scheme.prime.1.0 c.width-width.ensures (search rules) c.add_weighted.ensures v (c.loop-j.invariant.2 v),
    )
