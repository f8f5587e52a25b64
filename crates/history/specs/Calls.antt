-- A state of the cabinet, the calls on it, their answers, and what a call leaves.
use Rattle.std.specs.Prelude.{ℕ, List, Ok, Err, Result}
use Rattle.sharing.specs.declared.fault.CabinetFault.{CabinetFault}
use Rattle.history.specs.declared.ledger.Ledger.{Ledger}

-- the public part, and the share memory, holder by holder
pub record State (C : Type 0) : Type 0 where
  pub ledger : Ledger
  pub shares : List C

-- what a dealing is for: a key that is added, a key that is taken away, or neither
pub data Deal (C : Type 0) : Type 0 where
  depositing withdrawing : C → Deal C
  refreshing : Deal C

pub data Call (C : Type 0) : Type 0 where
  -- a deposit, a withdrawal or a refresh, with the dealer's coefficients
  dealing : Deal C → List C → Call C
  -- a holder
  revoking : ℕ → Call C
  -- a holder and the helpers
  repairing : ℕ → List ℕ → Call C
  -- the helpers
  opening : List ℕ → Call C

pub data Answer (C : Type 0) : Type 0 where
  epoch_is : ℕ → Answer C
  holder_is : ℕ → Answer C
  key_is : C → Answer C
  refused : CabinetFault → Answer C

-- what a call answered, and what it left of the state and of the working memory
pub record Outcome (C : Type 0) : Type 0 where
  pub answer : Answer C
  pub state : State C
  pub working : List C

-- a call's result as an answer
abbrev pub answered : {C X : Type 0} → (X → Answer C) → Result X CabinetFault → Answer C
answered f (Ok x) = f x
answered f (Err e) = refused e
