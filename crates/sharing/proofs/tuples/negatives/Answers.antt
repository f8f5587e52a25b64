use Rattle.std.proofs.Common.{◌-◌, arith}
use Rattle.sharing.proofs.Negating.{summed_none, summed_more, negated_none, negated_more, negated_all}
use Rattle.sharing.proofs.tuples.negatives.Goals as goal

pub loop-k-init : goal.loop-k-init
loop-k-init g c v =
    summed_none (g.G.Group.ops c.args.g.now) c.args.from.now c.args.to.now c.zero-sum.result c.zero-sum.ensures

pub loop-k-preserved : goal.loop-k-preserved
loop-k-preserved g c v =
    summed_more (g.G.Group.ops c.args.g.now) (g.met.G.Group.laws c.args.g.now) c.args.from.now v c.loop-k.k c.loop-k.sum c.index-from-k.result c.sum-sum.result c.loop-k.to
    (omega arith) (omega arith) c.index-from-k.is c.sum-sum.ensures (c.loop-k.invariant v)

pub loop-k-2-init : goal.loop-k-2-init
loop-k-2-init g c v =
    negated_none (g.G.Group.ops c.args.g.now) (g.met.G.Group.laws c.args.g.now) c.args.from.now v c.loop-k.k c.loop-k.sum c.negative-rest.result c.loop-k.to
    (omega arith) c.negative-rest.ensures (c.loop-k.invariant v)

pub loop-k-2-preserved : goal.loop-k-2-preserved
loop-k-2-preserved g c v =
    negated_more (g.G.Group.ops c.args.g.now) (g.met.G.Group.laws c.args.g.now) c.args.from.now v c.loop-k-2.k (c.loop-k-2.k - 1)
    c.index-to-k.result c.index-from-k-in-loop-k-2.result c.sum.result c.loop-k-2.rest c.sum-rest.result c.loop-k-2.to
    (omega arith) (omega arith) (omega arith) c.index-to-k.is c.index-from-k-in-loop-k-2.is c.sum.ensures c.sum-rest.ensures (c.loop-k-2.invariant v)

pub returns : goal.returns
returns g c v =
    negated_all (g.G.Group.ops c.args.g.now) c.args.from.now c.loop-k-2.k c.loop-k-2.to c.loop-k-2.rest (omega arith) (omega arith) (c.loop-k-2.invariant v)
