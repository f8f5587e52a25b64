use Rattle.std.proofs.Common.{vec_items}
use Rattle.std.specs.Option.{option_map}
use Rattle.lines.specs.Lines.{read_line}
use Rattle.console.specs.Held.{holding}
use Rattle.console.proofs.Answering.{followed}
use Rattle.console.proofs.console.Console.follow.Goals as goal

pub returns-clause-follows : goal.returns-clause-follows
returns-clause-follows c =
    followed (read_line c.args.line.now) c.in_ok-letter.letter (vec_items c.parse.new.fields) (option_map holding c.args.self.now.held) (option_map holding c.obey.new.held) c.obey.result
    c.in_ok-letter.ensures.tells (rw c.deref.ensures.value at (rw c.new-request.ensures at c.obey.ensures.does))
