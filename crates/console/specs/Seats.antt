-- A cabinet with its memory, as the console keeps it.
use Rattle.std.specs.Prelude.{◌≡◌, ℕ, List, vec_items}
use Rattle.sharing.specs.declared.scheme.Scheme.{Scheme}
use Rattle.algebra.specs.Group.{GroupOps}
use Rattle.history.specs.Calls.{State, Call, Outcome}
use Rattle.history.specs.Steps.{made, step}
use Rattle.custody.specs.States.{state_of}
use Rattle.console.specs.declared.seat.Seat.{Seat}

pub record Kept (K : Type 0) : Type 0 where
  pub group : K
  pub scheme : Scheme
  pub number : ℕ
  pub state : State ℕ
  pub working : List ℕ

abbrev pub kept_of : {K : Type 0} → Seat K → Kept K
kept_of s = record {
  group = s.cabinet.group;
  scheme = s.cabinet.scheme;
  number = s.cabinet.number;
  state = state_of s.cabinet (vec_items s.shares);
  working = vec_items s.working;
}

-- after a call: its state and working memory, and nothing else changed
abbrev pub moved : {K : Type 0} → Kept K → Outcome ℕ → Kept K
moved k o = record { group = k.group; scheme = k.scheme; number = k.number; state = o.state; working = o.working }

-- what a call on it answers and leaves
abbrev pub outcome : {K : Type 0} → (K → GroupOps ℕ) → Kept K → Call ℕ → Outcome ℕ
outcome ops k c = step (ops k.group) k.scheme k.state k.working c

-- a new cabinet of the group g, with the number 0
pub record New {K : Type 0} (ops : K → GroupOps ℕ) (g : K) (s : Scheme) (k : Kept K) : Type 0 where
  pub group : k.group ≡ g
  pub scheme : k.scheme ≡ s
  pub number : k.number ≡ 0
  pub state : k.state ≡ made (ops g) s
