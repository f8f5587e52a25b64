use Rattle.std.proofs.Common.{◌-◌, ◌++◌, length, sym}
use Rattle.algebra.specs.Dealing.{dealt}
use Rattle.sharing.specs.Verdicts.{first}
use Rattle.sharing.specs.Shares.{length_rows, dealing_rows}
use Rattle.sharing.proofs.Choosing.{dealable}
use Rattle.history.specs.Ledgers.{is_present}
use Rattle.history.proofs.SharedOut.{row_kept}
use Rattle.custody.proofs.Dealt.{dealt_present}
use Rattle.custody.proofs.cabinet.Cabinet.deal_present.Goals as goal

pub returns-then-not-is_present : goal.returns-then-not-is_present
returns-then-not-is_present g c p q r =
    let G = g.G.Group.ops c.args.self.now.group in
    let s = c.args.self.now.scheme in
    row_kept G (g.met.G.Group.laws c.args.self.now.group) c.args.change (s.q - 1) (c.args.holder - 1) c.args.shares.now
    (dealt G (s.q - 1) c.args.holder c.args.key (s.t - 1) c.args.coefficients.now) (is_present c.args.self.now.ledger.holders c.args.holder) (sym c.if-not-is_present.ensures)

pub returns : goal.returns
returns g c =
    let G = g.G.Group.ops c.args.self.now.group in
    let s = c.args.self.now.scheme in
    let lengths = length_rows s (length c.args.shares.now) (length c.args.scratch.now) in
    let dealing = dealing_rows s (length c.args.coefficients.now) c.args.holder in
    dealt_present G (g.met.G.Group.laws c.args.self.now.group) c.args.change (s.q - 1) (c.args.holder - 1) c.args.key c.args.coefficients.now c.args.shares.now
    (dealt G (s.q - 1) c.args.holder c.args.key (s.t - 1) c.args.coefficients.now) c.deal_to.new.shares (is_present c.args.self.now.ledger.holders c.args.holder)
    _ c.deal_to.result (first (lengths ++ dealing))
    (dealable s (length c.args.shares.now) (length c.args.scratch.now) (length c.args.coefficients.now) c.args.holder c.requires.sized.full c.requires.sized.room c.requires.sized.count c.requires.known.0 c.requires.known.1)
    c.deal_to.ensures.verdict (sym c.if-not-is_present.ensures) c.deal_to.ensures.share
