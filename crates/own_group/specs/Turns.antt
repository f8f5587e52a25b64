-- The turns of a valve, one after the other.
use Rattle.std.specs.Prelude.{ℕ, Bool, true, false, List, codes}
use Rattle.algebra.specs.Group.{GroupOps}
use Rattle.own_group.specs.declared.turns.Turn.{Turn}
use Rattle.own_group.specs.declared.turns.Turn.TheVariants.{Stay, Right, Back, Left}

-- one quarter further to the right
abbrev pub next : Turn → Turn
next Stay = Right
next Right = Back
next Back = Left
next Left = Stay

-- the turn a, and then the turn b: as many quarters further as b says
abbrev pub then : Turn → Turn → Turn
then a Stay = a
then a Right = next a
then a Back = next (next a)
then a Left = next (next (next a))

-- the turn that takes a turn back
abbrev pub undone : Turn → Turn
undone Stay = Stay
undone Right = Left
undone Back = Back
undone Left = Right

abbrev pub is_stay : Turn → Bool
is_stay Stay = true
is_stay Right = false
is_stay Back = false
is_stay Left = false

-- two turns are the same where the one, and the other taken back, leave the valve as it was
abbrev pub turns : GroupOps Turn
turns = record { valid = λ _. true; same = λ a b. is_stay (then a (undone b)); zero = Stay; plus = then; minus = undone }

abbrev pub name_of : Turn → List ℕ
name_of Stay = codes "stay"
name_of Right = codes "right"
name_of Back = codes "back"
name_of Left = codes "left"
