use Rattle.std.proofs.Common.{◌<◌, ◌≤◌, [], ◌∷◌, ◌++◌, ap, ◌∙◌, rules, arith}
use Rattle.std.proofs.lemmas.List.{nil_from_length}
use Rattle.std.specs.Slice.Iter.{iter_rest}
use Rattle.std.specs.Iterator.Adapters.{rev_source}
use Rattle.sharing.proofs.Backward.{walked, kept}
use Rattle.sharing.proofs.Weights.{factored, weight_more, weight_added, way_some}
use Rattle.sharing.proofs.points.add_weighted.Goals as goal
use Rattle.sharing.proofs.points.add_weighted.Goals.{Then-k-j}

pub loop-k-init : goal.loop-k-init
loop-k-init g c = ([], search rules, omega arith, omega arith, λ v. c.copy_from_slice.ensures.after)

-- the helper k is a holder
below : (g : _) (c : Then-k-j g) → c.in-Some.k.now < c.args.helpers.scheme.q
below g c =
    let holder = kept c.args.helpers.list.now (iter_rest (rev_source c.loop-k.k-iterator)) (iter_rest (rev_source c.next.new.self)) c.loop-k.invariant.0 c.in-Some.k.now
    c.loop-k.invariant.1 (search rules) (λ k. (1 ≤ k) × (k ≤ c.args.helpers.scheme.n)) 0 c.args.helpers.known in
    omega (arith, holder.1, c.args.helpers.scheme.above)

pub way-requires-clause-to : goal.way-requires-clause-to
way-requires-clause-to g c = below g c

pub mul_quotient-requires-clause-some : goal.mul_quotient-requires-clause-some
mul_quotient-requires-clause-some g c =
    way_some c.args.helpers.scheme.q c.args.j c.in-Some.k.now c.way.result c.requires.j (below g (goal.at.mul_quotient-requires-clause-some g c).Then-k-j) c.if-k-j.true c.way.ensures

pub loop-k-preserved-then-k-j : goal.loop-k-preserved-then-k-j
loop-k-preserved-then-k-j g c =
    let G = g.G.Group.ops c.args.g.now in
    let L = g.met.G.Group.laws c.args.g.now in
    let s = c.args.helpers.scheme in
    let done = c.loop-k.invariant.0 in
    let k = c.in-Some.k.now in (
      k ∷ done,
      walked c.args.helpers.list.now (iter_rest (rev_source c.loop-k.k-iterator)) (iter_rest (rev_source c.next.new.self)) done k c.loop-k.invariant.1 (search rules),
      omega arith,
      c.loop-k.invariant.2,
      λ v. weight_more G L s.q c.args.p c.args.j k done c.args.m.now c.loop-k.from.now c.mul_quotient.new.out c.requires.m v (c.loop-k.invariant.4 v)
          (λ vf. factored G L s c.args.p c.args.j k c.way.result c.way-come.result c.loop-k.from.now c.mul_quotient.new.out
          (below g (goal.at.loop-k-preserved-then-k-j g c).Then-k-j) c.requires.p c.requires.j c.loop-k.invariant.2 vf c.if-k-j.true c.way.ensures c.way-come.ensures (c.mul_quotient.ensures vf)),
    )

pub returns : goal.returns
returns g c =
    let done = c.loop-k.invariant.0 in
    let all = c.loop-k.invariant.1 ∙ ap (λ l. l ++ done) (nil_from_length (iter_rest (rev_source c.loop-k.k-iterator)) c.in-None.ensures.steps.0) in
    weight_added (g.G.Group.ops c.args.g.now) (g.met.G.Group.laws c.args.g.now) c.args.helpers.scheme.q c.args.p c.args.j c.args.helpers.list.now done
    c.args.m.now c.loop-k.from.now c.args.out.now c.add_into.new.to all c.requires.m c.loop-k.invariant.4 c.add_into.ensures
