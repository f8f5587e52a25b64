-- The same call again and again, on a cabinet that is new.
use Rattle.std.specs.Prelude.{◌≡◌, ℕ, zero, suc, ◌<◌, List}
use Rattle.algebra.specs.Group.{GroupOps}
use Rattle.sharing.specs.declared.fault.CabinetFault.{CabinetFault}
use Rattle.sharing.specs.declared.scheme.Scheme.{Scheme}
use Rattle.history.specs.Calls.{State, Call, dealing, depositing, opening, key_is, refused}
use Rattle.history.specs.Steps.{made, step}
use Rattle.custody.specs.Making.{Unmade}

-- the state after the same call so many times
abbrev pub after : {C : Type 0} → GroupOps C → Scheme → List C → Call C → ℕ → State C → State C
after G s working c zero st = st
after G s working c (suc k) st = (step G s (after G s working c k st) working c).state

-- one of so many calls is refused
pub record Stopped {C : Type 0} (G : GroupOps C) (s : Scheme) (working : List C) (c : Call C) (rounds : ℕ) (st : State C) (e : CabinetFault) : Type 0 where
  pub round : ℕ
  pub within : round < rounds
  pub answer : (step G s (after G s working c round st) working c).answer ≡ refused e

module _ {C : Type 0} (G : GroupOps C) (t n : ℕ) where
  -- what so many deposits leave in the share memory of a new cabinet
  pub record Deposited (rounds : ℕ) (key : C) (cs working shares : List C) : Type 0 where
    pub scheme : Scheme
    pub threshold : scheme.t ≡ t
    pub holders : scheme.n ≡ n
    pub left : (after G scheme working (dealing (depositing key) cs) rounds (made G scheme)).shares ≡ shares

  -- why they are refused: no such cabinet, or a deposit
  pub data Undeposited (rounds : ℕ) (key : C) (cs working : List C) (memory : ℕ) (e : CabinetFault) : Type 0 where
    no_cabinet : Unmade t n memory e → Undeposited rounds key cs working memory e
    no_deposit : (s : Scheme) → s.t ≡ t → s.n ≡ n → Stopped G s working (dealing (depositing key) cs) rounds (made G s) e → Undeposited rounds key cs working memory e

  -- what an opening tells after one deposit into a new cabinet
  pub record Opened (key : C) (cs : List C) (helpers : List ℕ) (working : List C) (told : C) : Type 0 where
    pub scheme : Scheme
    pub threshold : scheme.t ≡ t
    pub holders : scheme.n ≡ n
    pub answer : (step G scheme (after G scheme working (dealing (depositing key) cs) 1 (made G scheme)) working (opening helpers)).answer ≡ key_is told

  -- why it is refused: no such cabinet, the deposit, or the opening
  pub data Unopened (key : C) (cs : List C) (helpers : List ℕ) (working : List C) (memory : ℕ) (e : CabinetFault) : Type 0 where
    not_dealt : Undeposited 1 key cs working memory e → Unopened key cs helpers working memory e
    no_opening : (s : Scheme) → s.t ≡ t → s.n ≡ n
        → (step G s (after G s working (dealing (depositing key) cs) 1 (made G s)) working (opening helpers)).answer ≡ refused e
        → Unopened key cs helpers working memory e

-- some fault, with a reason for it
abbrev pub SomeFault : (CabinetFault → Type 0) → Type 0
SomeFault P = (e : CabinetFault) × P e
