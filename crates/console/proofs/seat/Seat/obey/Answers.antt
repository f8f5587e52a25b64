use Rattle.std.proofs.Common.{◌≡◌, ℕ, Ok, Err, Result, sym, refl, ap, ◌∙◌, arith}
use Rattle.std.proofs.lemmas.List.{with_items_is}
use Rattle.algebra.specs.Group.{GroupOps}
use Rattle.sharing.specs.declared.fault.CabinetFault.{CabinetFault}
use Rattle.history.specs.Calls.{Call, repairing, opening, Answer, holder_is, key_is, answered, Outcome}
use Rattle.custody.specs.States.{state_of}
use Rattle.console.specs.Seats.{Kept, kept_of, outcome, moved}
use Rattle.console.specs.Requests.{reply, Replied}
use Rattle.console.proofs.seat.Seat.obey.Goals as goal

reply_back : (f : ℕ → Answer ℕ) → ((x : ℕ) → Ok x ≡ reply (f x)) → (r : Result ℕ CabinetFault) → r ≡ reply (answered f r)
reply_back f h (Ok x) = h x
reply_back f h (Err e) = refl

-- what a call answers and leaves, as it is replied and kept
replied : {K : Type 0} (ops : K → GroupOps ℕ) (k after : Kept K) (c : Call ℕ) (f : ℕ → Answer ℕ) (r : Result ℕ CabinetFault) → ((x : ℕ) → Ok x ≡ reply (f x))
    → outcome ops k c ≡ record { answer = answered f r; state = after.state; working = after.working }
    → (after.group ≡ k.group) × (after.scheme ≡ k.scheme) × (after.number ≡ k.number)
    → Replied ops k c r after
replied ops k after c f r h e same =
    let left : after ≡ moved k (record { answer = answered f r; state = after.state; working = after.working }) = rw (← same.0, ← same.1, ← same.2) refl in
    (reply_back f h r ∙ ap (λ (o : Outcome ℕ). reply o.answer) (sym e), left ∙ ap (moved k) (sym e))

pub returns-in-Repair : goal.returns-in-Repair
returns-in-Repair g c =
    let s = c.args.self.now in
    let k = kept_of s in
    let d = c.repair.new.self in
    let shares = with_items_is s.shares c.repair.new.shares (omega arith) in
    let working = with_items_is s.working c.repair.new.working (omega arith) in
    rw (c.in-Repair.is, shares, working)
    (replied (λ h. g.G.Group.ops h) k (record { group = d.group; scheme = d.scheme; number = d.number; state = state_of d c.repair.new.shares; working = c.repair.new.working })
    (repairing c.in-Repair.holder c.in-Repair.helpers.now) holder_is c.repair.result (λ x. refl)
    (rw (c.deref_mut-in-Repair.ensures.value, c.deref_mut-in-Repair-2.ensures.value) at c.repair.ensures.step) c.repair.ensures.same)

pub returns-in-Open : goal.returns-in-Open
returns-in-Open g c =
    let s = c.args.self.now in
    let k = kept_of s in
    let working = with_items_is s.working c.open.new.working (omega arith) in
    rw (c.in-Open.is, working)
    (replied (λ h. g.G.Group.ops h) k (record k { working = c.open.new.working }) (opening c.in-Open.helpers.now) key_is c.open.result (λ x. refl)
    (rw (c.deref.ensures.value, c.deref_mut-in-Open.ensures.value) at c.open.ensures) (refl, refl, refl))
