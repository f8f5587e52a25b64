use Rattle.std.proofs.Common.{◌≡◌, ◌+◌, ◌-◌, ◌*◌, ◌%◌, ◌<◌, get_or, sym, ap, ◌∙◌, arith}
use Rattle.std.proofs.lemmas.Bool.{false≢true}
use Rattle.std.proofs.lemmas.List.{get_or_read, get_or_past}
use Rattle.algebra.specs.Space.{ok_length}
use Rattle.algebra.specs.Tuples.{tuple_minus}
use Rattle.algebra.proofs.Places.{get_or_minus}
use Rattle.algebra.proofs.TupleSums.{minus_zero}
use Rattle.algebra.proofs.Walks.{at_zero, onward, stepped_back, next_lands, walk_starts, walk_step, walk_ends}
use Rattle.sharing.proofs.Weights.{q_some, comes_round}
use Rattle.sharing.proofs.points.mul_quotient.Goals as goal
use Rattle.sharing.proofs.points.mul_quotient.Goals.{then-dear, else-dear, then-dear-2, else-dear-2}

pub loop-done-init : goal.loop-done-init
loop-done-init g c =
    let q = c.args.scheme.q in
    let d = c.args.d in
    let G = g.G.Group.ops c.args.g.now in (
      at_zero q d (q_some c.args.scheme),
      c.zero-less.ensures ∙ sym (get_or_past c.args.m.now (q - 1) G.zero (omega arith)),
      λ v e. c.zero-negative.ensures ∙ sym (minus_zero G (g.met.G.Group.laws c.args.g.now)) ∙ ap G.minus (sym c.zero-less.ensures),
      λ v r h Q. walk_starts q d (q_some c.args.scheme) G (g.met.G.Group.laws c.args.g.now) r c.zero-sum.result c.args.out.now (omega (arith, ok_length G (q - 1) r h)) c.zero-sum.ensures,
    )

pub bounds-m-to : goal.bounds-m-to
bounds-m-to g c =
    omega (arith, next_lands c.args.scheme.q c.args.d (q_some c.args.scheme) (comes_round c.args.scheme c.args.d c.requires.some c.requires.d) c.loop-done.done c.loop-done.to c.onward-to.result (omega arith) c.loop-done.invariant.0 c.onward-to.ensures)

pub bounds-minus-to : goal.bounds-minus-to
bounds-minus-to g c =
    omega (arith, next_lands c.args.scheme.q c.args.d (q_some c.args.scheme) (comes_round c.args.scheme c.args.d c.requires.some c.requires.d) c.loop-done.done c.loop-done.to c.onward-to.result (omega arith) c.loop-done.invariant.0 c.onward-to.ensures)

pub bounds-out-to : goal.bounds-out-to
bounds-out-to g c =
    omega (arith, next_lands c.args.scheme.q c.args.d (q_some c.args.scheme) (comes_round c.args.scheme c.args.d c.requires.some c.requires.d) c.loop-done.done c.loop-done.to c.onward-to.result (omega arith) c.loop-done.invariant.0 c.onward-to.ensures)

pub loop-done-preserved : goal.loop-done-preserved
loop-done-preserved g c =
    let q = c.args.scheme.q in
    let d = c.args.d in
    let G = g.G.Group.ops c.args.g.now in
    let m = c.args.m.now in
    let n = c.loop-done.done in
    let to = c.onward-to.result in
    let at : to ≡ (q - 1 + (n + 1) * d) % q = onward q d (q_some c.args.scheme) n c.loop-done.to to c.loop-done.invariant.0 c.onward-to.ensures in
    let within : to < q - 1 = next_lands q d (q_some c.args.scheme) (comes_round c.args.scheme c.args.d c.requires.some c.requires.d) n c.loop-done.to to (omega arith) c.loop-done.invariant.0 c.onward-to.ensures in
    let gone : c.index-m-to.result ≡ get_or m to G.zero = get_or_read m to c.index-m-to.result (omega arith) c.index-m-to.is G.zero in (
      at,
      gone,
      λ v e.
          let all : c.if-dear.minus ≡ tuple_minus G m = elim c.if-dear.branch [ then-dear w ↦ w.minus-is ∙ w.negatives.ensures v | else-dear w ↦ absurd (false≢true (sym w.if-dear.false ∙ e)) ] in
          elim c.if-dear-2.branch [
            | then-dear-2 w ↦ w.negative-is ∙ get_or_read c.if-dear.minus to w.index-minus-to.result (omega arith) w.index-minus-to.is G.zero ∙ ap (λ l. get_or l to G.zero) all ∙ get_or_minus G m to G.zero (omega arith) ∙ ap G.minus (sym gone)
            | else-dear-2 w ↦ absurd (false≢true (sym w.if-dear-2.false ∙ e))
          ],
      λ v r h Q.
          walk_step q d (q_some c.args.scheme) G (g.met.G.Group.laws c.args.g.now) r c.args.come (q - d) m n to c.loop-done.sum c.place-more.result c.loop-done.less c.more_less.result c.sum-sum.result
          c.loop-done.out v h Q at (omega arith)
          (c.place-more.ensures ∙ ap (λ z. get_or m z G.zero) c.onward.ensures)
          (c.loop-done.invariant.1 ∙ ap (λ z. get_or m z G.zero) (stepped_back q d (q_some c.args.scheme) n to c.loop-done.to c.requires.d at c.loop-done.invariant.0))
          (λ vm vl. c.more_less.ensures vm vl (c.loop-done.invariant.2 v)) c.sum-sum.ensures (c.loop-done.invariant.3 v r h Q),
    )

pub returns : goal.returns
returns g c v r h Q =
    let q = c.args.scheme.q in
    let G = g.G.Group.ops c.args.g.now in
    walk_ends q c.args.d (q_some c.args.scheme) G (g.met.G.Group.laws c.args.g.now) r (comes_round c.args.scheme c.args.d c.requires.some c.requires.d) c.loop-done.done c.loop-done.sum c.loop-done.out (omega arith) (omega arith) (ok_length G (q - 1) r h)
    (c.loop-done.invariant.3 v r h Q)
