-- The number and the place of each refusal of a line.
use Rattle.std.specs.Prelude.{ℕ}
use Rattle.lines.specs.declared.fault.LineFault.{LineFault}
use Rattle.lines.specs.declared.fault.LineFault.TheVariants.{Unreadable}

abbrev pub refusal : LineFault → ℕ × ℕ
refusal (Unreadable offset) = (29, offset)
