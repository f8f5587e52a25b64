use Rattle.std.proofs.Common.{◌≡◌, ◌+◌, ◌-◌, ◌%◌, ◌≤◌, true, T, get_or, sym, refl, ◌∙◌, arith}
use Rattle.std.proofs.lemmas.Bool.{false≢true}
use Rattle.std.proofs.lemmas.List.{get_or_default}
use Rattle.algebra.specs.Tuples.{all_valid, tuple_minus}
use Rattle.algebra.proofs.Places.{drop_step, read_left}
use Rattle.sharing.proofs.Changing.{change_one, change_starts, change_step, change_ends}
use Rattle.sharing.proofs.points.change_point.Goals as goal
use Rattle.sharing.proofs.points.change_point.Goals.{After-change_element, then-dear, else-dear}

pub loop-s-init : goal.loop-s-init
loop-s-init g c = (
  λ below n v vt.
      change_starts (g.G.Group.ops c.args.g.now) (g.met.G.Group.laws c.args.g.now) c.args.scheme.q c.args.i c.args.m.now c.args.scheme.prime.1.0 below n v c.args.change c.args.to.now c.args.to.now
      c.zero-sum.result c.zero-sum.ensures,
  refl,
)

-- where negatives are dear, `minus` has those of `m`
negated : (g : _) (c : After-change_element g) → T (all_valid (g.G.Group.ops c.args.g.now) c.args.m.now) → c.DEAR_NEGATIVES-dear.result ≡ true → c.if-dear.minus ≡ tuple_minus (g.G.Group.ops c.args.g.now) c.args.m.now
negated g c v e =
    elim c.if-dear.branch [ then-dear w ↦ w.minus-is ∙ w.negatives.ensures v | else-dear w ↦ absurd (false≢true (sym w.if-dear.false ∙ e)) ]

pub loop-s-preserved : goal.loop-s-preserved
loop-s-preserved g c =
    let G = g.G.Group.ops c.args.g.now in
    let q = c.args.scheme.q in
    let m = c.args.m.now in
    let s = c.loop-s.s in (
      λ below n v vt.
          change_step G (g.met.G.Group.laws c.args.g.now) q c.args.i m c.args.scheme.prime.1.0 below n v c.args.change c.args.to.now
          s c.loop-s.sum (get_or m s G.zero) (get_or m ((s + (q - c.args.i)) % q) G.zero) c.less_behind.result c.sum-sum.result c.index-to-s.result c.change_element.result c.loop-s.to
          (omega arith) c.requires.to (omega arith) vt (get_or_default m s G.zero (get_or m s G.zero) (omega arith)) refl
          (λ vm vl. c.less_behind.ensures v (negated g c v)) c.sum-sum.ensures
          (read_left c.loop-s.to c.args.to.now s c.index-to-s.result c.loop-s.invariant.1 c.index-to-s.is)
          c.change_element.ensures (c.loop-s.invariant.0 below n v vt),
      drop_step c.loop-s.to c.args.to.now s c.change_element.result c.loop-s.invariant.1,
    )

pub returns-then-i-eq1 : goal.returns-then-i-eq1
returns-then-i-eq1 g c v vt =
    change_one (g.G.Group.ops c.args.g.now) (g.met.G.Group.laws c.args.g.now) c.args.change (c.args.scheme.q - 1) c.args.i c.args.to.now c.args.m.now c.change_into.new.to c.if-i-eq1.true c.requires.m v
    (c.change_into.ensures v vt)

pub returns : goal.returns
returns g c v vt =
    let below : c.args.i ≤ c.args.scheme.q = omega arith in
    change_ends (g.G.Group.ops c.args.g.now) (g.met.G.Group.laws c.args.g.now) c.args.scheme.q c.args.i c.args.m.now c.args.scheme.prime.1.0 below c.requires.m v c.args.change c.args.to.now c.loop-s.to
    c.loop-s.s c.loop-s.sum (omega arith) c.requires.to (omega arith) (c.loop-s.invariant.0 below c.requires.m v vt)
