use Rattle.std.proofs.Common.{◌≡◌, ◌+◌, ◌-◌, ◌*◌, length, arith}
use Rattle.custody.proofs.Dealt.{deal_step, deal_end}
use Rattle.custody.proofs.cabinet.Cabinet.deal_out.Goals as goal

pub loop-holder-preserved : goal.loop-holder-preserved
loop-holder-preserved g c p q r =
    let s = c.args.self.now.scheme in
    let full : length c.loop-holder.shares ≡ s.n * (s.q - 1) = omega arith in
    deal_step (g.G.Group.ops c.args.self.now.group) (g.met.G.Group.laws c.args.self.now.group) s c.args.change c.args.self.now.ledger.holders c.args.key c.args.coefficients.now
    c.args.shares.now c.loop-holder.shares c.deal_present.new.shares c.loop-holder.holder (omega arith) (omega arith) full c.requires.count
    c.in_ok-deal_present.ensures q r (c.loop-holder.invariant p q r)

pub returns-in_ok-deal_present : goal.returns-in_ok-deal_present
returns-in_ok-deal_present g c p q r =
    let s = c.args.self.now.scheme in
    let full : length c.loop-holder.shares ≡ s.n * (s.q - 1) = omega arith in
    let left : length c.deal_present.new.shares ≡ s.n * (s.q - 1) = omega arith in
    deal_end (g.G.Group.ops c.args.self.now.group) (g.met.G.Group.laws c.args.self.now.group) s c.args.change c.args.self.now.ledger.holders c.args.key c.args.coefficients.now
    c.args.shares.now c.deal_present.new.shares (c.loop-holder.holder + 1 - 1) (omega arith) left
    (deal_step (g.G.Group.ops c.args.self.now.group) (g.met.G.Group.laws c.args.self.now.group) s c.args.change c.args.self.now.ledger.holders c.args.key c.args.coefficients.now
    c.args.shares.now c.loop-holder.shares c.deal_present.new.shares c.loop-holder.holder (omega arith) (omega arith) full c.requires.count
    c.in_ok-deal_present.ensures q r (c.loop-holder.invariant p q r))

-- a scheme has holders
pub returns : goal.returns
returns g c p q r = absurd (omega (arith, c.args.self.now.scheme.allowed))
