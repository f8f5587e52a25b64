-- What a line reader holds.
use Rattle.std.specs.Prelude.{◌≡◌, ℕ, false, cond, List, [], ◌∷◌, ◌++◌, length, take, ◌==◌, nat_lt}

-- what is held once a byte more has come: a newline is not kept, nor is a byte past the 16385th
abbrev pub fed : List ℕ → ℕ → List ℕ
fed bs b = cond (b == 10) bs (cond (nat_lt (length bs) 16385) (bs ++ b ∷ []) bs)

-- one byte after another
abbrev pub fed_all : List ℕ → List ℕ → List ℕ
fed_all bs [] = bs
fed_all bs (c ∷ cs) = fed_all (fed bs c) cs

-- no byte is a newline
abbrev pub OneLine : List ℕ → Type 0
OneLine [] = Unit {0}
OneLine (c ∷ cs) = ((c == 10) ≡ false) × OneLine cs

-- of the bytes of a line, fed to an empty reader, the first 16385 are held
abbrev pub FirstBytes : Type 0
FirstBytes = (cs : List ℕ) → OneLine cs → fed_all [] cs ≡ take 16385 cs
