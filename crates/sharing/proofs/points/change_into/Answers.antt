use Rattle.std.proofs.Common.{rules, arith}
use Rattle.std.proofs.lemmas.Grind.{elements}
use Rattle.sharing.proofs.Writing.{changed_written}
use Rattle.sharing.proofs.points.change_into.Goals as goal

pub returns : goal.returns
returns g c w v =
    changed_written (g.G.Group.ops c.args.g.now) c.args.to.now c.write_each.new.to (omega arith) v c.args.from.now c.requires w (g.met.G.Group.laws c.args.g.now) c.args.change
    (λ k d l p q. let e = c.write_each.ensures k d l in search (rules, elements))
