-- The call that a line asks for, and its answer as a number or a fault.
use Rattle.std.specs.Prelude.{◌≡◌, ℕ, cond, List, drop, Ok, Err, Result, ◌==◌, slice_index}
use Rattle.lines.specs.declared.letter.Letter.{Letter}
use Rattle.lines.specs.declared.letter.Letter.TheVariants.{Make, Deposit, Withdraw, Refresh, Revoke, Repair, Open}
use Rattle.algebra.specs.Group.{GroupOps}
use Rattle.sharing.specs.declared.fault.CabinetFault.{CabinetFault}
use Rattle.history.specs.Calls.{depositing, withdrawing, refreshing, Call, dealing, revoking, repairing, opening, Answer, epoch_is, holder_is, key_is, refused}
use Rattle.console.specs.declared.request.Kind.{Kind}
use Rattle.console.specs.declared.request.Kind.TheVariants.{Sums, Units}
use Rattle.console.specs.declared.request.Plan.{Plan}
use Rattle.console.specs.declared.request.Call.{Call as LineCall}
use Rattle.console.specs.declared.request.Call.TheVariants.{Deposit as LineDeposit, Withdraw as LineWithdraw, Refresh as LineRefresh, Revoke as LineRevoke, Repair as LineRepair, Open as LineOpen}
use Rattle.console.specs.declared.request.Request.{Request}
use Rattle.console.specs.declared.request.Request.TheVariants.{Make as LineMake, Call as LineCalls}
use Rattle.console.specs.Seats.{Kept, outcome, moved}

-- what a letter asks for with these numbers; K asks for a cabinet, and is no call on one
abbrev pub call_of : Letter → List ℕ → Call ℕ
call_of Deposit ns = dealing (depositing (slice_index ns 0)) (drop 1 ns)
call_of Withdraw ns = dealing (withdrawing (slice_index ns 0)) (drop 1 ns)
call_of Refresh ns = dealing refreshing ns
call_of Revoke ns = revoking (slice_index ns 0)
call_of Repair ns = repairing (slice_index ns 0) (drop 1 ns)
call_of Open ns = opening ns
call_of Make ns = opening ns

-- the group that K names: units for 3, else sums
abbrev pub kind_of : ℕ → Kind
kind_of g = cond (g == 3) Units Sums

-- a cabinet that is asked for, or a call on the one that is held
pub data Asking : Type 0 where
  making : Plan → Asking
  calling : Call ℕ → Asking

-- what a letter asks for with these numbers: K has the group, the modulus, t and n
abbrev pub asking_of : Letter → List ℕ → Asking
asking_of Make ns = making (record { kind = kind_of (slice_index ns 0); modulus = slice_index ns 1; t = slice_index ns 2; n = slice_index ns 3 })
asking_of Deposit ns = calling (call_of Deposit ns)
asking_of Withdraw ns = calling (call_of Withdraw ns)
asking_of Refresh ns = calling (call_of Refresh ns)
asking_of Revoke ns = calling (call_of Revoke ns)
asking_of Repair ns = calling (call_of Repair ns)
asking_of Open ns = calling (call_of Open ns)

-- the code's call
abbrev pub called : LineCall → Call ℕ
called (LineDeposit key cs) = dealing (depositing key) cs.now
called (LineWithdraw key cs) = dealing (withdrawing key) cs.now
called (LineRefresh cs) = dealing refreshing cs.now
called (LineRevoke h) = revoking h
called (LineRepair h hs) = repairing h hs.now
called (LineOpen hs) = opening hs.now

-- the code's request
abbrev pub asked : Request → Asking
asked (LineMake p) = making p
asked (LineCalls c) = calling (called c)

abbrev pub reply : Answer ℕ → Result ℕ CabinetFault
reply (epoch_is e) = Ok e
reply (holder_is h) = Ok h
reply (key_is k) = Ok k
reply (refused f) = Err f

-- the call c was made on what is kept: it replied r, and after is what it left
abbrev pub Replied : {K : Type 0} → (K → GroupOps ℕ) → Kept K → Call ℕ → Result ℕ CabinetFault → Kept K → Type 0
Replied ops before c r after = (r ≡ reply (outcome ops before c).answer) × (after ≡ moved before (outcome ops before c))
