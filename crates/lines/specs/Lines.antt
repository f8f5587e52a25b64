-- What a line says: a letter, then numbers, each after exactly one space.
use Rattle.std.specs.Prelude.{◌≡◌, ℕ, zero, suc, ◌+◌, ◌-◌, ◌*◌, ◌≤◌, Bool, true, cond, ◌&&◌, ◌||◌, List, [], ◌∷◌, ◌++◌, length, drop, Some, None, Ok, Err, decimal, Option, Result, ◌==◌, nat_le, nat_lt}
use Rattle.std.specs.List.{flat_map, take_while}
use Rattle.std.specs.Char.{is_ascii_digit}
use Rattle.lines.specs.declared.fault.LineFault.{LineFault}
use Rattle.lines.specs.declared.fault.LineFault.TheVariants.{Unreadable}
use Rattle.lines.specs.declared.fault.ParseError.{ParseError}
use Rattle.lines.specs.declared.fault.ParseError.TheVariants.{Line, Memory}
use Rattle.lines.specs.declared.letter.Letter.{Letter}
use Rattle.lines.specs.declared.letter.Letter.TheVariants.{Make, Deposit, Withdraw, Refresh, Revoke, Repair, Open}
use Rattle.lines.specs.Letters.{letter_of, sign}

-- what was read: the letter with the numbers after it, or the offset of the first fault
pub data Read : Type 0 where
  good : Letter → List ℕ → Read
  bad : ℕ → Read

-- the fault of a line as what was read
abbrev pub refused : LineFault → Read
refused (Unreadable p) = bad p

-- the digits at the front, as far as they go
abbrev pub front_digits : List ℕ → List ℕ
front_digits bs = take_while is_ascii_digit bs

-- the number that digits write, where those before them write n
abbrev pub value_after : ℕ → List ℕ → ℕ
value_after n [] = n
value_after n (b ∷ bs) = value_after (n * 10 + (b - 48)) bs

-- a number has 1 to 10 digits, and is at most 4294967295
abbrev pub readable : List ℕ → Bool
readable ds = nat_lt 0 (length ds) && (nat_le (length ds) 10 && nat_le (value_after 0 ds) 4294967295)

-- the number that these digits write, if it is readable
abbrev pub number_of : List ℕ → Option ℕ
number_of ds = cond (readable ds) (Some (value_after 0 ds)) None

-- whether the letter takes n as its field after k others: K has four fields, and the first, the group, is 2 or 3; S has one
abbrev pub accepts : Letter → ℕ → ℕ → Bool
accepts Make k n = nat_lt k 4 && (nat_lt 0 k || (n == 2 || n == 3))
accepts Deposit k n = true
accepts Withdraw k n = true
accepts Refresh k n = true
accepts Revoke k n = nat_lt k 1
accepts Repair k n = true
accepts Open k n = true

-- how many fields the letter cannot do without: group, modulus, threshold and holders; the key; the holder; none
abbrev pub least : Letter → ℕ
least Make = 4
least Deposit = 1
least Withdraw = 1
least Refresh = 0
least Revoke = 1
least Repair = 1
least Open = 0

-- a field after k others that can be read and that the letter takes
abbrev pub fine : Letter → ℕ → List ℕ → Bool
fine l k ds = readable ds && accepts l k (value_after 0 ds)

-- The rest of a line from the offset p on, after the letter l and the numbers ns.
-- Its first `skip` bytes are the digits of the last of these.
abbrev pub read_fields : List ℕ → ℕ → Letter → List ℕ → ℕ → Read
-- the line ends, and a field may be missing
read_fields [] skip l ns p = cond (nat_lt (length ns) (least l)) (bad p) (good l ns)
-- a digit that was read with its number
read_fields (b ∷ bs) (suc skip) l ns p = read_fields bs skip l ns (p + 1)
-- a space is due, and after it a field, whose offset is that of the byte after the space
read_fields (b ∷ bs) zero l ns p =
    cond (b == 32)
    (cond (fine l (length ns) (front_digits bs))
    (read_fields bs (length (front_digits bs)) l (ns ++ value_after 0 (front_digits bs) ∷ []) (p + 1))
    (bad (p + 1)))
    (bad p)

-- the fields after the letter, if it is one
abbrev pub after_letter : Option Letter → List ℕ → Read
after_letter None bs = bad 0
after_letter (Some l) bs = read_fields bs 0 l [] 1

-- the letter at the front of a line
abbrev pub first_letter : List ℕ → Option Letter
first_letter [] = None
first_letter (b ∷ bs) = letter_of b

-- a whole line: one that is too long is not looked at
abbrev pub read_line : List ℕ → Read
read_line bs = cond (nat_lt 16384 (length bs)) (bad 16384) (after_letter (first_letter bs) (drop 1 bs))

-- what is answered, and what is held then, where this was read; after a fault anything may be held
abbrev pub Tells : Read → Result Letter LineFault → List ℕ → Type 0
Tells (good l ns) a now-held = (a ≡ Ok l) × (now-held ≡ ns)
Tells (bad p) a now-held = a ≡ Err (Unreadable p)

-- the same of what a parse gives; where memory was wanting, nothing is told
abbrev pub Parsed : Read → Result Letter ParseError → List ℕ → Type 0
Parsed r (Ok l) now-held = Tells r (Ok l) now-held
Parsed r (Err (Line f)) now-held = Tells r (Err f) now-held
Parsed r (Err (Memory e)) now-held = Unit {0}

-- what the line bs says from the offset p on, where a space is due
abbrev pub from_offset : List ℕ → Letter → List ℕ → ℕ → Read
from_offset bs l ns p = read_fields (drop p bs) 0 l ns p

-- a line as it is written: the letter, and each number in decimal after a space
abbrev pub line_of : Letter → List ℕ → List ℕ
line_of l ns = sign l ∷ flat_map (λ n. 32 ∷ decimal n) ns

-- the letter takes these numbers after k others
abbrev pub Accepted : Letter → ℕ → List ℕ → Type 0
Accepted l k [] = Unit {0}
Accepted l k (n ∷ ns) = (n ≤ 4294967295) × (accepts l k n ≡ true) × Accepted l (k + 1) ns

-- every line that is written so, and is not too long, is read as what was written
abbrev pub ReadsBack : Type 0
ReadsBack = (l : Letter) (ns : List ℕ) → least l ≤ length ns → Accepted l 0 ns → length (line_of l ns) ≤ 16384 → read_line (line_of l ns) ≡ good l ns
