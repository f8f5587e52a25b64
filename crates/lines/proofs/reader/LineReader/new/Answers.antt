use Rattle.lines.proofs.Held.{first_bytes}
use Rattle.lines.proofs.reader.LineReader.new.Goals as goal

pub returns-clause-first : goal.returns-clause-first
returns-clause-first c = first_bytes
