-- The text of an answer.
use Rattle.std.specs.Prelude.{ℕ, List, ◌++◌, codes, decimal, Ok, Err, Result}
use Rattle.std.proofs.Math.Utf8.{encode}
use Rattle.lines.specs.declared.answer.Refusal.{Refusal}
use Rattle.lines.specs.declared.answer.AnswerLine.{AnswerLine}

-- a number in decimal, or the mark of a refusal with its number and its place
abbrev pub told : Result ℕ Refusal → List ℕ
told (Ok n) = decimal n
told (Err r) = codes "! " ++ (decimal r.number ++ (codes " " ++ decimal r.place))

-- the letter, a space, and the answer
abbrev pub written : AnswerLine → List ℕ
written line = encode line.letter ++ (codes " " ++ told line.answer)
