-- The letters that a line begins with.
use Rattle.std.specs.Prelude.{◌≡◌, ℕ, cond, List, [], ◌∷◌, Some, None, Option, Result, MatchResult, ◌==◌}
use Rattle.lines.specs.declared.fault.LineFault.{LineFault}
use Rattle.lines.specs.declared.fault.LineFault.TheVariants.{Unreadable}
use Rattle.lines.specs.declared.letter.Letter.{Letter}
use Rattle.lines.specs.declared.letter.Letter.TheVariants.{Make, Deposit, Withdraw, Refresh, Revoke, Repair, Open}

-- the code of the character: K, D, W, N, S, M and O
abbrev pub sign : Letter → ℕ
sign Make = 75
sign Deposit = 68
sign Withdraw = 87
sign Refresh = 78
sign Revoke = 83
sign Repair = 77
sign Open = 79

-- the first of the letters whose sign a byte is
abbrev pub letter_among : List Letter → ℕ → Option Letter
letter_among [] b = None
letter_among (l ∷ ls) b = cond (b == sign l) (Some l) (letter_among ls b)

abbrev pub letter_of : ℕ → Option Letter
letter_of b = letter_among (Make ∷ Deposit ∷ Withdraw ∷ Refresh ∷ Revoke ∷ Repair ∷ Open ∷ []) b

-- the character of a letter, which reads back as the letter
pub record Shows (l : Letter) (c : ℕ) : Type 0 where
  pub value : c ≡ sign l
  pub back : letter_of c ≡ Some l

-- the letter that a byte stands for, or the fault of a line that begins with no letter
abbrev pub Reads : ℕ → Result Letter LineFault → Type 0
Reads b r = MatchResult r (λ l. letter_of b ≡ Some l) (λ f. (letter_of b ≡ None) × (f ≡ Unreadable 0))
