-- What the console answers to a line, and what it holds then.
use Rattle.std.specs.Prelude.{◌≡◌, ℕ, ◌≤◌, ◌⊎◌, List, Some, None, Ok, Err, Option, Result}
use Rattle.lines.specs.declared.letter.Letter.{Letter}
use Rattle.lines.specs.declared.fault.LineFault.TheVariants.{Unreadable}
use Rattle.lines.specs.declared.answer.Refusal.{Refusal}
use Rattle.lines.specs.Letters.{sign}
use Rattle.lines.specs.Lines.{Read, good, bad, first_letter, read_line}
use Rattle.groups.specs.declared.fault.GroupFault.TheVariants.{Modulus}
use Rattle.sharing.specs.declared.fault.CabinetFault.{CabinetFault}
use Rattle.sharing.specs.declared.fault.CabinetFault.TheVariants.{Scheme as NoScheme}
use Rattle.sharing.specs.declared.scheme.Scheme.{Scheme}
use Rattle.sharing.specs.Schemes.{Allowed}
use Rattle.history.specs.Calls.{Call}
use Rattle.console.specs.declared.fault.ConsoleFault.{ConsoleFault}
use Rattle.console.specs.declared.fault.ConsoleFault.TheVariants.{Line, NoCabinet, CabinetExists, Group, Cabinet}
use Rattle.console.specs.declared.fault.Trouble.{Trouble}
use Rattle.console.specs.declared.fault.Trouble.TheVariants.{Refused, Memory}
use Rattle.console.specs.declared.request.Kind.{Kind}
use Rattle.console.specs.declared.request.Kind.TheVariants.{Sums, Units}
use Rattle.console.specs.declared.request.Plan.{Plan}
use Rattle.console.specs.Faults.{refusal_of}
use Rattle.console.specs.Seats.{New}
use Rattle.console.specs.Requests.{Asking, making, calling, asking_of}
use Rattle.console.specs.Held.{Holding, over_sums, over_units, sums_of, units_of, Answers}

-- the moduli of the units begin at 3, and those of the sums at 2
abbrev pub InRange : Kind → ℕ → Type 0
InRange Units m = (3 ≤ m) × (m ≤ 2147483647)
InRange Sums m = (2 ≤ m) × (m ≤ 2147483647)

-- a new cabinet of the group k with the modulus m
abbrev pub Fresh : Kind → ℕ → Scheme → Holding → Type 0
Fresh Sums m s (over_sums k) = (k.group.modulus ≡ m) × New sums_of k.group s k
Fresh Units m s (over_units k) = (k.group.modulus ≡ m) × New units_of k.group s k
Fresh Sums m s (over_units k) = ⊥
Fresh Units m s (over_sums k) = ⊥

-- a cabinet is made: refused for the scheme first, then for the modulus
abbrev pub Begins : Plan → Result ℕ ConsoleFault → Option Holding → Type 0
Begins p (Ok e) after = (e ≡ 0) × ((h : Holding) × (s : Scheme) × (after ≡ Some h) × (s.t ≡ p.t) × (s.n ≡ p.n) × Fresh p.kind p.modulus s h)
Begins p (Err f) after =
    (after ≡ None) × (((Allowed p.t p.n → ⊥) × (f ≡ Cabinet NoScheme)) ⊎ (Allowed p.t p.n × (InRange p.kind p.modulus → ⊥) × (f ≡ Group Modulus)))

abbrev pub Makes : Option Holding → Plan → Result ℕ ConsoleFault → Option Holding → Type 0
Makes (Some h) p r after = (r ≡ Err CabinetExists) × (after ≡ Some h)
Makes None p r after = Begins p r after

-- a cabinet's result as the console's
abbrev pub carried : Result ℕ CabinetFault → Result ℕ ConsoleFault
carried (Ok x) = Ok x
carried (Err f) = Err (Cabinet f)

-- a call on the cabinet that is held
abbrev pub Calls : Option Holding → Call ℕ → Result ℕ ConsoleFault → Option Holding → Type 0
Calls None c r after = (r ≡ Err NoCabinet) × (after ≡ None)
Calls (Some h) c r after = (h' : Holding) × (a : Result ℕ CabinetFault) × (after ≡ Some h') × (r ≡ carried a) × Answers h c a h'

-- what is asked for
abbrev pub Does : Option Holding → Asking → Result ℕ ConsoleFault → Option Holding → Type 0
Does before (making p) r after = Makes before p r after
Does before (calling c) r after = Calls before c r after

-- what the letter asks for with these numbers
abbrev pub Obeys : Option Holding → Letter → List ℕ → Result ℕ ConsoleFault → Option Holding → Type 0
Obeys before l ns r after = Does before (asking_of l ns) r after

-- a line that cannot be read changes nothing
abbrev pub Follows : Option Holding → Read → Result ℕ ConsoleFault → Option Holding → Type 0
Follows before (bad p) r after = (r ≡ Err (Line (Unreadable p))) × (after ≡ before)
Follows before (good l ns) r after = Obeys before l ns r after

-- the number, or the fault's number and place
abbrev pub shown : Result ℕ ConsoleFault → Result ℕ Refusal
shown (Ok n) = Ok n
shown (Err f) = Err (refusal_of f)

-- the letter that the answer begins with: the line's own, or a question mark
abbrev pub heading_of : Option Letter → ℕ
heading_of (Some l) = sign l
heading_of None = 63

-- the answer to a line
pub record Responds (before : Option Holding) (line : List ℕ) (letter : ℕ) (answer : Result ℕ Refusal) (after : Option Holding) : Type 0 where
  pub heading : letter ≡ heading_of (first_letter line)
  pub follows : (r : Result ℕ ConsoleFault) × (answer ≡ shown r) × Follows before (read_line line) r after

-- of a refusal, and not of want of memory
abbrev pub IfRefused : (ConsoleFault → Type 0) → Trouble → Type 0
IfRefused P (Refused f) = P f
IfRefused P (Memory e) = Unit {0}

-- of what is answered: there is no answer where memory ran out
abbrev pub IfAnswered : Result ℕ Trouble → (Result ℕ ConsoleFault → Type 0) → Type 0
IfAnswered (Ok x) P = P (Ok x)
IfAnswered (Err t) P = IfRefused (λ f. P (Err f)) t

-- of want of memory alone
abbrev pub OnMemory : Result ℕ Trouble → Type 0 → Type 0
OnMemory (Ok x) P = Unit {0}
OnMemory (Err (Refused f)) P = Unit {0}
OnMemory (Err (Memory e)) P = P
