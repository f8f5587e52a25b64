-- The number and the place of each refusal of the console: its own, and those of the layers below.
use Rattle.std.specs.Prelude.{ℕ}
use Rattle.lines.specs.declared.answer.Refusal.{Refusal}
use Rattle.lines.specs.declared.fault.LineFault.{LineFault}
use Rattle.lines.specs.declared.fault.ParseError.{ParseError}
use Rattle.lines.specs.declared.fault.ParseError.TheVariants.{Line as LineRefused, Memory as NoMemory}
use Rattle.lines.specs.Faults.{refusal as line_refusal}
use Rattle.groups.specs.declared.fault.GroupFault.{GroupFault}
use Rattle.groups.specs.Faults.{refusal as group_refusal}
use Rattle.sharing.specs.declared.fault.CabinetFault.{CabinetFault}
use Rattle.sharing.specs.Faults.{refusal as cabinet_refusal}
use Rattle.console.specs.declared.fault.ConsoleFault.{ConsoleFault}
use Rattle.console.specs.declared.fault.ConsoleFault.TheVariants.{Line, NoCabinet, CabinetExists, Group, Cabinet}
use Rattle.console.specs.declared.fault.Trouble.{Trouble}
use Rattle.console.specs.declared.fault.Trouble.TheVariants.{Refused, Memory}

abbrev pub refusal : ConsoleFault → ℕ × ℕ
refusal (Line f) = line_refusal f
refusal NoCabinet = (30, 0)
refusal CabinetExists = (30, 0)
refusal (Group f) = group_refusal f
refusal (Cabinet f) = cabinet_refusal f

-- a fault as it is answered
abbrev pub refusal_of : ConsoleFault → Refusal
refusal_of f = record { number = (refusal f).0; place = (refusal f).1 }

abbrev pub from_line : LineFault → ConsoleFault
from_line f = Line f

abbrev pub from_group : GroupFault → ConsoleFault
from_group f = Group f

abbrev pub from_cabinet : CabinetFault → ConsoleFault
from_cabinet f = Cabinet f

abbrev pub from_parse : ParseError → Trouble
from_parse (LineRefused f) = Refused (from_line f)
from_parse (NoMemory e) = Memory e
