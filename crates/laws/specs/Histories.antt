-- A history: requests to a cabinet from its making on, the states and answers along them, and what they add up to at an epoch.
use Rattle.std.specs.Prelude.{ℕ, ◌-◌, ◌*◌, Bool, true, false, cond, List, [], ◌∷◌, ◌++◌, Option, nat_le}
use Rattle.algebra.specs.Group.{GroupOps}
use Rattle.algebra.specs.Tuples.{tuple_zero}
use Rattle.algebra.specs.Rows.{row_at}
use Rattle.algebra.specs.Dealing.{dealt}
use Rattle.sharing.specs.declared.fault.CabinetFault.{CabinetFault}
use Rattle.sharing.specs.declared.fault.CabinetFault.TheVariants.{MemoryLength}
use Rattle.sharing.specs.declared.scheme.Scheme.{Scheme}
use Rattle.sharing.specs.Verdicts.{length_row, first}
use Rattle.sharing.specs.Shares.{changed}
use Rattle.history.specs.declared.ledger.Ledger.{Ledger}
use Rattle.history.specs.Calls.{State, Deal, depositing, withdrawing, refreshing, Call, dealing, revoking, repairing, opening, Answer, epoch_is, holder_is, key_is, refused, Outcome}
use Rattle.history.specs.Rules.{list_rows, change_rows, deal_rows}
use Rattle.history.specs.Steps.{direction, key_of, made, step}

-- a call, and the working memory that it is lent; the share memory is the cabinet's own
pub record Request (C : Type 0) : Type 0 where
  pub call : Call C
  pub working : List C

-- a request of a history, with the state before it and its answer
pub record Entry (C : Type 0) : Type 0 where
  pub before : State C
  pub request : Request C
  pub answer : Answer C

module _ {C : Type 0} (G : GroupOps C) (s : Scheme) where
  -- what a request is answered and leaves
  abbrev pub outcome : State C → Request C → Outcome C
  outcome st x = step G s st x.working x.call

  -- the state that requests leave
  abbrev pub run : State C → List (Request C) → State C
  run st [] = st
  run st (x ∷ xs) = run (outcome st x).state xs

  -- the entries of requests
  abbrev pub trace : State C → List (Request C) → List (Entry C)
  trace st [] = []
  trace st (x ∷ xs) = record { before = st; request = x; answer = (outcome st x).answer } ∷ trace (outcome st x).state xs

  -- the state that requests from the making on leave
  abbrev pub left_by : List (Request C) → State C
  left_by xs = run (made G s) xs

  -- the entries of requests from the making on
  abbrev pub history : List (Request C) → List (Entry C)
  history xs = trace (made G s) xs

  -- the share of the holder h
  abbrev pub share_of : ℕ → State C → List C
  share_of h st = row_at (s.q - 1) (h - 1) st.shares

  -- what a call is refused for when the share memory is right: the rows of the table but those on share memory
  abbrev pub public_fault : Ledger → ℕ → Call C → Option CabinetFault
  public_fault l lent (dealing d cs) = first (length_row MemoryLength (4 * (s.q - 1)) lent ∷ deal_rows G s l.epoch d cs)
  public_fault l lent (revoking h) = first (change_rows s l.holders true h)
  public_fault l lent (repairing h hs) = first (length_row MemoryLength (4 * (s.q - 1)) lent ∷ (change_rows s l.holders false h ++ list_rows s l.holders hs))
  public_fault l lent (opening hs) = first (length_row MemoryLength (4 * (s.q - 1)) lent ∷ list_rows s l.holders hs)

-- revokings and repairs
abbrev pub changes_presence : {C : Type 0} → Call C → Bool
changes_presence (dealing d cs) = false
changes_presence (revoking h) = true
changes_presence (repairing h hs) = true
changes_presence (opening hs) = false

-- requests without their revokings and repairs
abbrev pub steady : {C : Type 0} → List (Request C) → List (Request C)
steady [] = []
steady (x ∷ xs) = cond (changes_presence x.call) (steady xs) (x ∷ steady xs)

-- an answer that returns an epoch of at most e
abbrev pub by_epoch : {C : Type 0} → ℕ → Answer C → Bool
by_epoch e (epoch_is f) = nat_le f e
by_epoch e (holder_is h) = false
by_epoch e (key_is k) = false
by_epoch e (refused f) = false

-- what a call makes of a, where it is a dealing that was accepted by the epoch e
abbrev pub counted : {C A : Type 0} → (Deal C → List C → A → A) → ℕ → Call C → Answer C → A → A
counted f e (dealing d cs) r a = cond (by_epoch e r) (f d cs a) a
counted f e (revoking h) r a = a
counted f e (repairing h hs) r a = a
counted f e (opening hs) r a = a

-- what the dealings that were accepted by the epoch e make of a, one after the other
abbrev pub gathered : {C A : Type 0} → (Deal C → List C → A → A) → ℕ → A → List (Entry C) → A
gathered f e a [] = a
gathered f e a (x ∷ xs) = gathered f e (counted f e x.request.call x.answer a) xs

module _ {C : Type 0} (G : GroupOps C) where
  -- what a dealing makes of the total
  abbrev pub added : Deal C → List C → C → C
  added (depositing k) cs a = G.plus a k
  added (withdrawing k) cs a = G.plus a (G.minus k)
  added refreshing cs a = a

  -- the total at the epoch e: the keys deposited by then less those withdrawn
  abbrev pub total_at : ℕ → List (Entry C) → C
  total_at e xs = gathered added e G.zero xs

module _ {C : Type 0} (G : GroupOps C) (s : Scheme) where
  -- what a dealing makes of the share of the holder h
  abbrev pub credit : ℕ → Deal C → List C → List C → List C
  credit h d cs a = changed G (direction d) a (dealt G (s.q - 1) h (key_of G d) (s.t - 1) cs)

  -- what the holder h was dealt by the epoch e: the sum over deposits and refreshes, less that over withdrawals
  abbrev pub dealt_to : ℕ → ℕ → List (Entry C) → List C
  dealt_to h e xs = gathered (credit h) e (tuple_zero G (s.q - 1)) xs
