-- The accepted calls, as steps.
use Rattle.std.proofs.Common.{◌≡◌, ℕ, ◌+◌, ◌-◌, ◌≤◌, Bool, true, false, not, T, List, ◌++◌, length, Ok, Result, sym, ap, ◌∙◌, subst, ap₂, arith}
use lib.ListN.{length-replicate}
use Rattle.algebra.specs.Group.{GroupOps, GroupLaws}
use Rattle.algebra.specs.Tuples.{all_valid, tuple_zero}
use Rattle.algebra.specs.Space.{ok_valid}
use Rattle.algebra.specs.Rows.{put_row}
use Rattle.algebra.specs.Dealing.{tuple_at}
use Rattle.algebra.proofs.Dealings.{tuple_at_ok}
use Rattle.sharing.specs.declared.fault.CabinetFault.{CabinetFault}
use Rattle.sharing.specs.declared.scheme.Scheme.{Scheme}
use Rattle.sharing.specs.Verdicts.{verdict}
use Rattle.sharing.proofs.Verdicts.{verdict_ok, first_none, both_none}
use Rattle.sharing.proofs.Choosing.{all_places}
use Rattle.history.specs.declared.ledger.Ledger.{Ledger}
use Rattle.history.specs.Ledgers.{with_holder, at_epoch}
use Rattle.history.specs.Calls.{State, Deal, dealing, revoking, repairing, opening, Answer, epoch_is, holder_is, key_is, answered, Outcome}
use Rattle.history.specs.Rules.{memory_rows, deal_rows, change_rows, list_rows, fault}
use Rattle.history.specs.Steps.{key_of, dealt_out, told, step}
use Rattle.history.proofs.Refusals.{Lent, Memory, Dealing, Changing, Quorum, lent, memory, may_deal, changing, quorum, accepted_step}

module _ {C : Type 0} (G : GroupOps C) (L : GroupLaws G) (s : Scheme) (st : State C) (working : List C) where
  -- what holds of memory and arguments where no row applies
  pub dealing_fine : (d : Deal C) (cs : List C) → Ok tt ≡ verdict (fault G s st (length working) (dealing d cs)) → Memory G s st.shares (length working) × Dealing G s st.ledger.epoch d cs
  dealing_fine d cs v =
      let rows = both_none (memory_rows G s st.shares (length working)) (deal_rows G s st.ledger.epoch d cs) (verdict_ok (fault G s st (length working) (dealing d cs)) (sym v)) in
      (memory G s st.shares (length working) rows.0, may_deal G s L st.ledger.epoch d cs rows.1)

  pub revoking_fine : (h : ℕ) → Ok tt ≡ verdict (fault G s st (length working) (revoking h)) → Lent G s st.shares × Changing G s st.ledger.holders true h
  revoking_fine h v =
      let a = first_none _ _ (verdict_ok (fault G s st (length working) (revoking h)) (sym v)) in
      let b = first_none _ _ a.1 in
      (lent G s st.shares a.0 b.0, changing G s st.ledger.holders true h b.1)

  pub repairing_fine : (h : ℕ) (hs : List ℕ) → Ok tt ≡ verdict (fault G s st (length working) (repairing h hs))
      → Memory G s st.shares (length working) × Changing G s st.ledger.holders false h × Quorum G s st.ledger.holders hs
  repairing_fine h hs v =
      let a = both_none (memory_rows G s st.shares (length working)) (change_rows s st.ledger.holders false h ++ list_rows s st.ledger.holders hs)
      (verdict_ok (fault G s st (length working) (repairing h hs)) (sym v)) in
      let b = both_none (change_rows s st.ledger.holders false h) (list_rows s st.ledger.holders hs) a.1 in
      (memory G s st.shares (length working) a.0, changing G s st.ledger.holders false h b.0, quorum G s st.ledger.holders hs b.1)

  pub opening_fine : (hs : List ℕ) → Ok tt ≡ verdict (fault G s st (length working) (opening hs)) → Memory G s st.shares (length working) × Quorum G s st.ledger.holders hs
  opening_fine hs v =
      let rows = both_none (memory_rows G s st.shares (length working)) (list_rows s st.ledger.holders hs) (verdict_ok (fault G s st (length working) (opening hs)) (sym v)) in
      (memory G s st.shares (length working) rows.0, quorum G s st.ledger.holders hs rows.1)

  cleared : (working' : List C) (m : ℕ) → working' ≡ tuple_zero G m → length working' ≡ length working → working' ≡ tuple_zero G (length working)
  cleared working' m zeros same = zeros ∙ ap (tuple_zero G) (sym (length-replicate m G.zero) ∙ sym (ap length zeros) ∙ same)

  pub dealt_step : (d : Deal C) (cs shares' working' : List C) (m : ℕ) → Ok tt ≡ verdict (fault G s st (length working) (dealing d cs))
      → (T (all_valid G st.shares) → T (G.valid (key_of G d)) → T (all_valid G cs) → shares' ≡ dealt_out G s st.ledger.holders st.shares d cs)
      → working' ≡ tuple_zero G m → length working' ≡ length working
      → step G s st working (dealing d cs) ≡ record { answer = epoch_is (st.ledger.epoch + 1); state = record { ledger = at_epoch (st.ledger.epoch + 1) st.ledger; shares = shares' }; working = working' }
  dealt_step d cs shares' working' m v deal zeros same =
      let fine = dealing_fine d cs v in
      let after : List C → List C → Outcome C = λ x y. record { answer = epoch_is (st.ledger.epoch + 1); state = record { ledger = at_epoch (st.ledger.epoch + 1) st.ledger; shares = x }; working = y } in
      accepted_step G s st working (dealing d cs) (after shares' working') v
      (ap₂ after (sym (deal fine.0.valid fine.1.key_valid fine.1.coefficients)) (sym (cleared working' m zeros same)))

  -- a holder of the scheme is marked as present or missing
  marked : (present : Bool) (h : ℕ) (ledger' : Ledger) → Changing G s st.ledger.holders (not present) h
      → (1 ≤ h → h ≤ 30 → ledger' ≡ with_holder h present st.ledger) → ledger' ≡ with_holder h present st.ledger
  marked present h ledger' known mark = mark known.low (omega (arith, known.high, s.allowed))

  pub revoked : (h : ℕ) (shares' : List C) (ledger' : Ledger) → Ok tt ≡ verdict (fault G s st (length working) (revoking h))
      → shares' ≡ put_row (s.q - 1) (h - 1) (tuple_zero G (s.q - 1)) st.shares
      → (1 ≤ h → h ≤ 30 → ledger' ≡ with_holder h false st.ledger)
      → step G s st working (revoking h) ≡ record { answer = holder_is h; state = record { ledger = ledger'; shares = shares' }; working = working }
  revoked h shares' ledger' v put mark =
      let fine = revoking_fine h v in
      let after : Ledger → List C → Outcome C = λ l x. record { answer = holder_is h; state = record { ledger = l; shares = x }; working = working } in
      accepted_step G s st working (revoking h) (after ledger' shares') v (ap₂ after (sym (marked false h ledger' fine.1 mark)) (sym put))

  pub repaired : (h : ℕ) (hs : List ℕ) (tuple shares' working' : List C) (ledger' : Ledger) (m : ℕ) → Ok tt ≡ verdict (fault G s st (length working) (repairing h hs))
      → (T (all_valid G st.shares) → tuple ≡ tuple_at G s.q hs h st.shares)
      → shares' ≡ put_row (s.q - 1) (h - 1) tuple st.shares
      → (1 ≤ h → h ≤ 30 → ledger' ≡ with_holder h true st.ledger)
      → working' ≡ tuple_zero G m → length working' ≡ length working
      → step G s st working (repairing h hs) ≡ record { answer = holder_is h; state = record { ledger = ledger'; shares = shares' }; working = working' }
  repaired h hs tuple shares' working' ledger' m v take put mark zeros same =
      let fine = repairing_fine h hs v in
      let e = put ∙ ap (λ (t : List C). put_row (s.q - 1) (h - 1) t st.shares) (take fine.0.valid) in
      let after : Ledger → List C → List C → Outcome C = λ l x y. record { answer = holder_is h; state = record { ledger = l; shares = x }; working = y } in
      accepted_step G s st working (repairing h hs) (after ledger' shares' working') v
      (ap₂ (λ (l : Ledger) (x : List C). after l x (tuple_zero G (length working))) (sym (marked true h ledger' fine.1 mark)) (sym e)
      ∙ ap (after ledger' shares') (sym (cleared working' m zeros same)))

  pub opened : (hs : List ℕ) (tuple working' : List C) (r : Result C CabinetFault) (m : ℕ) → Ok tt ≡ verdict (fault G s st (length working) (opening hs))
      → (T (all_valid G st.shares) → tuple ≡ tuple_at G s.q hs 0 st.shares)
      → (T (all_valid G tuple) → answered key_is r ≡ told G tuple)
      → working' ≡ tuple_zero G m → length working' ≡ length working
      → step G s st working (opening hs) ≡ record { answer = answered key_is r; state = st; working = working' }
  opened hs tuple working' r m v take tell zeros same =
      let fine = opening_fine hs v in
      let two : 2 ≤ s.q = omega (arith, s.above, s.allowed) in
      let e = take fine.0.valid in
      let ok : T (all_valid G (tuple_at G s.q hs 0 st.shares)) =
      ok_valid G (s.q - 1) (tuple_at G s.q hs 0 st.shares)
      (tuple_at_ok G L s.q two hs 0 s.n st.shares fine.0.full (all_places (λ j. (1 ≤ j) × (j ≤ s.n)) hs fine.1.chosen.known) fine.0.valid) in
      let after : Answer C → List C → Outcome C = λ x y. record { answer = x; state = st; working = y } in
      accepted_step G s st working (opening hs) (after (answered key_is r) working') v
      (ap₂ after (sym (tell (subst (λ (t : List C). T (all_valid G t)) (sym e) ok) ∙ ap (told G) e)) (sym (cleared working' m zeros same)))
