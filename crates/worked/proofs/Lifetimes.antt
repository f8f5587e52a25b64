-- Six calls one after the other, from a making on: what the last, an opening, returns.
use Rattle.std.proofs.Common.{◌≡◌, ℕ, ◌-◌, ◌*◌, ◌≤◌, cond, List, [], ◌∷◌, length, IfOk, Some, None, Ok, Err, Option, Result, sym, refl, ap, ◌∙◌, subst, ap₂, arith}
use Rattle.std.specs.List.{AllByRecursion}
use Rattle.std.proofs.lemmas.Bool.{le-leb}
use Rattle.algebra.specs.Group.{GroupOps}
use Rattle.algebra.specs.Tuples.{tuple_zero}
use Rattle.sharing.specs.declared.fault.CabinetFault.{CabinetFault}
use Rattle.sharing.specs.declared.scheme.Scheme.{Scheme}
use Rattle.history.specs.declared.ledger.Ledger.{Ledger}
use Rattle.history.specs.Ledgers.{fresh}
use Rattle.history.specs.Calls.{State, Deal, depositing, withdrawing, refreshing, Call, dealing, revoking, repairing, opening, Answer, epoch_is, holder_is, key_is, refused, Outcome, answered}
use Rattle.history.specs.Rules.{fault}
use Rattle.history.specs.Steps.{made, accepted, decided, step}
use Rattle.laws.specs.Histories.{Request, Entry, trace, history, counted, gathered, added, total_at}
use Rattle.laws.specs.Promises.{Opens, OpensToTotal}
use Rattle.custody.specs.declared.cabinet.Cabinet.{Cabinet}
use Rattle.custody.specs.States.{state_of, SameCabinet}

-- a request, and an entry
abbrev asked : {C : Type 0} → List C → Call C → Request C
asked w c = record { call = c; working = w }

abbrev noted : {C : Type 0} → State C → List C → Call C → Answer C → Entry C
noted st w c a = record { before = st; request = asked w c; answer = a }

abbrev leaves : {C : Type 0} → Answer C → State C → List C → Outcome C
leaves a st w = record { answer = a; state = st; working = w }

-- the epoch that an answer tells
abbrev told_epoch : {C : Type 0} → Answer C → ℕ
told_epoch (epoch_is e) = e
told_epoch (holder_is h) = 0
told_epoch (key_is k) = 0
told_epoch (refused f) = 0

module _ {C : Type 0} (G : GroupOps C) (s : Scheme) where
  -- a state at the making
  pub at_making : (l : Ledger) (zeros : List C) (n : ℕ) → l ≡ fresh → zeros ≡ tuple_zero G n → n ≡ s.n * (s.q - 1) → made G s ≡ record { ledger = l; shares = zeros }
  at_making l zeros n p q r =
      ap₂ {A = Ledger} {B = List C} {C = State C} (λ x ys. record { ledger = x; shares = ys }) (sym p) (sym (q ∙ ap (tuple_zero G) r))

  -- a request whose outcome is known
  trace_step : (st st' : State C) (w w' : List C) (c : Call C) (a : Answer C) (xs : List (Request C)) → step G s st w c ≡ leaves a st' w'
      → trace G s st (asked w c ∷ xs) ≡ noted st w c a ∷ trace G s st' xs
  trace_step st st' w w' c a xs e = ap (λ (o : Outcome C). noted st w c o.answer ∷ trace G s o.state xs) e

  -- no call turns the epoch back
  later_by : (v : Option CabinetFault) (st : State C) (w : List C) (c : Call C) → st.ledger.epoch ≤ (decided G s v st w (accepted G s st w c)).state.ledger.epoch
  later_by (Some f) st w c = omega arith
  later_by None st w (dealing d cs) = omega arith
  later_by None st w (revoking h) = omega arith
  later_by None st w (repairing h hs) = omega arith
  later_by None st w (opening hs) = omega arith

  later : (st st' : State C) (w w' : List C) (c : Call C) (a : Answer C) → step G s st w c ≡ leaves a st' w' → st.ledger.epoch ≤ st'.ledger.epoch
  later st st' w w' c a e = subst (λ (o : Outcome C). st.ledger.epoch ≤ o.state.ledger.epoch) e (later_by (fault G s st (length w) c) st w c)

  -- an accepted dealing answers the epoch that it leaves
  epoch_by : (v : Option CabinetFault) (st st' : State C) (w w' : List C) (d : Deal C) (cs : List C) (n : ℕ)
      → decided G s v st w (accepted G s st w (dealing d cs)) ≡ leaves (epoch_is n) st' w' → n ≡ st'.ledger.epoch
  epoch_by (Some f) st st' w w' d cs n e =
      let q : ◌≡◌ {A = Answer C} (refused f) (epoch_is n) = ap (λ (o : Outcome C). o.answer) e in
      cc
  epoch_by None st st' w w' d cs n e = sym (ap (λ (o : Outcome C). told_epoch o.answer) e) ∙ ap (λ (o : Outcome C). o.state.ledger.epoch) e

  epoch_left : (st st' : State C) (w w' : List C) (d : Deal C) (cs : List C) (n : ℕ) → step G s st w (dealing d cs) ≡ leaves (epoch_is n) st' w' → n ≡ st'.ledger.epoch
  epoch_left st st' w w' d cs n e = epoch_by (fault G s st (length w) (dealing d cs)) st st' w w' d cs n e

  -- a dealing that counts
  counts : (e n : ℕ) (d : Deal C) (cs : List C) (a : C) → n ≤ e → counted (added G) e (dealing d cs) (epoch_is n) a ≡ added G d cs a
  counts e n d cs a h = ap (λ b. cond b (added G d cs a) a) (le-leb n e h)

  -- the opening's key, where the calls before it were accepted
  pub opens_total : OpensToTotal G s
      → (st0 st1 st2 st3 st4 st5 st6 : State C) (w0 w1 w2 w4 w5 w6 : List C) (k1 k2 : C) (c1 c2 c5 : List C) (h h' e1 e2 a3 a4 e5 : ℕ) (hs hs' : List ℕ) (r : Result C CabinetFault)
      → made G s ≡ st0
      → step G s st0 w0 (dealing (depositing k1) c1) ≡ leaves (epoch_is e1) st1 w1
      → step G s st1 w1 (dealing refreshing c2) ≡ leaves (epoch_is e2) st2 w2
      → step G s st2 [] (revoking h) ≡ leaves (holder_is a3) st3 []
      → step G s st3 w2 (repairing h' hs) ≡ leaves (holder_is a4) st4 w4
      → step G s st4 w4 (dealing (withdrawing k2) c5) ≡ leaves (epoch_is e5) st5 w5
      → step G s st5 w5 (opening hs') ≡ leaves (answered key_is r) st6 w6
      → IfOk r (λ k. k ≡ G.plus (G.plus G.zero k1) (G.minus k2))
  opens_total law st0 st1 st2 st3 st4 st5 st6 w0 w1 w2 w4 w5 w6 k1 k2 c1 c2 c5 h h' e1 e2 a3 a4 e5 hs hs' (Err f) m q1 q2 q3 q4 q5 q6 = tt
  opens_total law st0 st1 st2 st3 st4 st5 st6 w0 w1 w2 w4 w5 w6 k1 k2 c1 c2 c5 h h' e1 e2 a3 a4 e5 hs hs' (Ok k) m q1 q2 q3 q4 q5 q6 =
      let d1 = dealing (depositing k1) c1 in
      let d2 = dealing refreshing c2 in
      let d5 = dealing (withdrawing k2) c5 in
      let x6 : List (Request C) = asked w5 (opening hs') ∷ [] in
      let x5 : List (Request C) = asked w4 d5 ∷ x6 in
      let x4 : List (Request C) = asked w2 (repairing h' hs) ∷ x5 in
      let x3 : List (Request C) = asked [] (revoking h) ∷ x4 in
      let x2 : List (Request C) = asked w1 d2 ∷ x3 in
      let x1 : List (Request C) = asked w0 d1 ∷ x2 in
      let y6 : List (Entry C) = noted st5 w5 (opening hs') (key_is k) ∷ [] in
      let y5 : List (Entry C) = noted st4 w4 d5 (epoch_is e5) ∷ y6 in
      let y4 : List (Entry C) = noted st3 w2 (repairing h' hs) (holder_is a4) ∷ y5 in
      let y3 : List (Entry C) = noted st2 [] (revoking h) (holder_is a3) ∷ y4 in
      let y2 : List (Entry C) = noted st1 w1 d2 (epoch_is e2) ∷ y3 in
      let y1 : List (Entry C) = noted st0 w0 d1 (epoch_is e1) ∷ y2 in
      let t6 : trace G s st5 x6 ≡ y6 = trace_step st5 st6 w5 w6 (opening hs') (key_is k) [] q6 in
      let t5 : trace G s st4 x5 ≡ y5 = trace_step st4 st5 w4 w5 d5 (epoch_is e5) x6 q5 ∙ ap (λ ys. noted st4 w4 d5 (epoch_is e5) ∷ ys) t6 in
      let t4 : trace G s st3 x4 ≡ y4 = trace_step st3 st4 w2 w4 (repairing h' hs) (holder_is a4) x5 q4 ∙ ap (λ ys. noted st3 w2 (repairing h' hs) (holder_is a4) ∷ ys) t5 in
      let t3 : trace G s st2 x3 ≡ y3 = trace_step st2 st3 [] [] (revoking h) (holder_is a3) x4 q3 ∙ ap (λ ys. noted st2 [] (revoking h) (holder_is a3) ∷ ys) t4 in
      let t2 : trace G s st1 x2 ≡ y2 = trace_step st1 st2 w1 w2 d2 (epoch_is e2) x3 q2 ∙ ap (λ ys. noted st1 w1 d2 (epoch_is e2) ∷ ys) t3 in
      let t1 : trace G s st0 x1 ≡ y1 = trace_step st0 st1 w0 w1 d1 (epoch_is e1) x2 q1 ∙ ap (λ ys. noted st0 w0 d1 (epoch_is e1) ∷ ys) t2 in
      let t : history G s x1 ≡ y1 = ap (λ st. trace G s st x1) m ∙ t1 in
      let opens : AllByRecursion (λ x. Opens G s (total_at G x.before.ledger.epoch y1) x) y1 =
      subst (λ (ys : List (Entry C)). AllByRecursion (λ x. Opens G s (total_at G x.before.ledger.epoch ys) x) ys) t (law x1) in
      let e = st5.ledger.epoch in
      let i1 : e1 ≡ st1.ledger.epoch = epoch_left st0 st1 w0 w1 (depositing k1) c1 e1 q1 in
      let i2 : e2 ≡ st2.ledger.epoch = epoch_left st1 st2 w1 w2 refreshing c2 e2 q2 in
      let i5 : e5 ≡ st5.ledger.epoch = epoch_left st4 st5 w4 w5 (withdrawing k2) c5 e5 q5 in
      let l2 : st1.ledger.epoch ≤ st2.ledger.epoch = later st1 st2 w1 w2 d2 (epoch_is e2) q2 in
      let l3 : st2.ledger.epoch ≤ st3.ledger.epoch = later st2 st3 [] [] (revoking h) (holder_is a3) q3 in
      let l4 : st3.ledger.epoch ≤ st4.ledger.epoch = later st3 st4 w2 w4 (repairing h' hs) (holder_is a4) q4 in
      let l5 : st4.ledger.epoch ≤ st5.ledger.epoch = later st4 st5 w4 w5 d5 (epoch_is e5) q5 in
      let b1 : e1 ≤ st5.ledger.epoch = omega arith in
      let b2 : e2 ≤ st5.ledger.epoch = omega arith in
      let b5 : e5 ≤ st5.ledger.epoch = omega arith in
      opens.1.1.1.1.1.0.returned hs' k refl refl
      ∙ ap (λ a. gathered (added G) e a y2) (counts e e1 (depositing k1) c1 G.zero b1)
      ∙ ap (λ a. gathered (added G) e a y3) (counts e e2 refreshing c2 (G.plus G.zero k1) b2)
      ∙ counts e e5 (withdrawing k2) c5 (G.plus G.zero k1) b5

module _ {K C : Type 0} (ops : K → GroupOps C) where
  -- a step of a cabinet with the group b and the scheme s
  step_of : (b : K) (s : Scheme) (z : Cabinet K) → z.group ≡ b → z.scheme ≡ s → (m w : List C) (c : Call C) (o : Outcome C) → step (ops z.group) z.scheme (state_of z m) w c ≡ o
      → step (ops b) s (state_of z m) w c ≡ o
  step_of b s z p q m w c o e = sym (ap₂ (λ x y. step (ops x) y (state_of z m) w c) p q) ∙ e

  -- the same from the contracts of the calls, with the cabinets and the memory that each leaves
  pub lived : (b : K) (s : Scheme) (n number : ℕ) (z0 z1 z2 z3 z4 z5 : Cabinet K) (m0 m1 m2 m3 m4 m5 w0 w1 w2 w4 w5 w6 : List C) (k1 k2 : C) (c1 c2 c5 : List C) (h h' e1 e2 a3 a4 e5 : ℕ) (hs hs' : List ℕ) (r : Result C CabinetFault)
      → OpensToTotal (ops b) s
      → (z0.group ≡ b) × (z0.scheme ≡ s) × (z0.number ≡ number) × (z0.ledger ≡ fresh)
      → m0 ≡ tuple_zero (ops b) n
      → n ≡ s.n * (s.q - 1)
      → step (ops z0.group) z0.scheme (state_of z0 m0) w0 (dealing (depositing k1) c1) ≡ leaves (epoch_is e1) (state_of z1 m1) w1
      → SameCabinet z0 z1
      → step (ops z1.group) z1.scheme (state_of z1 m1) w1 (dealing refreshing c2) ≡ leaves (epoch_is e2) (state_of z2 m2) w2
      → SameCabinet z1 z2
      → step (ops z2.group) z2.scheme (state_of z2 m2) [] (revoking h) ≡ leaves (holder_is a3) (state_of z3 m3) []
      → SameCabinet z2 z3
      → step (ops z3.group) z3.scheme (state_of z3 m3) w2 (repairing h' hs) ≡ leaves (holder_is a4) (state_of z4 m4) w4
      → SameCabinet z3 z4
      → step (ops z4.group) z4.scheme (state_of z4 m4) w4 (dealing (withdrawing k2) c5) ≡ leaves (epoch_is e5) (state_of z5 m5) w5
      → SameCabinet z4 z5
      → step (ops z5.group) z5.scheme (state_of z5 m5) w5 (opening hs') ≡ leaves (answered key_is r) (state_of z5 m5) w6
      → IfOk r (λ k. k ≡ (ops b).plus ((ops b).plus (ops b).zero k1) ((ops b).minus k2))
  lived b s n number z0 z1 z2 z3 z4 z5 m0 m1 m2 m3 m4 m5 w0 w1 w2 w4 w5 w6 k1 k2 c1 c2 c5 h h' e1 e2 a3 a4 e5 hs hs' r law makes zeros full q1 s1 q2 s2 q3 s3 q4 s4 q5 s5 q6 =
      let g0 : z0.group ≡ b = makes.0 in
      let g1 : z1.group ≡ b = s1.0 ∙ g0 in
      let g2 : z2.group ≡ b = s2.0 ∙ g1 in
      let g3 : z3.group ≡ b = s3.0 ∙ g2 in
      let g4 : z4.group ≡ b = s4.0 ∙ g3 in
      let g5 : z5.group ≡ b = s5.0 ∙ g4 in
      let p0 : z0.scheme ≡ s = makes.1 in
      let p1 : z1.scheme ≡ s = s1.1 ∙ p0 in
      let p2 : z2.scheme ≡ s = s2.1 ∙ p1 in
      let p3 : z3.scheme ≡ s = s3.1 ∙ p2 in
      let p4 : z4.scheme ≡ s = s4.1 ∙ p3 in
      let p5 : z5.scheme ≡ s = s5.1 ∙ p4 in
      opens_total (ops b) s law (state_of z0 m0) (state_of z1 m1) (state_of z2 m2) (state_of z3 m3) (state_of z4 m4) (state_of z5 m5) (state_of z5 m5) w0 w1 w2 w4 w5 w6 k1 k2 c1 c2 c5 h h' e1 e2 a3 a4 e5 hs hs' r
      (at_making (ops b) s z0.ledger m0 n makes.3 zeros full)
      (step_of b s z0 g0 p0 m0 w0 (dealing (depositing k1) c1) _ q1)
      (step_of b s z1 g1 p1 m1 w1 (dealing refreshing c2) _ q2)
      (step_of b s z2 g2 p2 m2 [] (revoking h) _ q3)
      (step_of b s z3 g3 p3 m3 w2 (repairing h' hs) _ q4)
      (step_of b s z4 g4 p4 m4 w4 (dealing (withdrawing k2) c5) _ q5)
      (step_of b s z5 g5 p5 m5 w5 (opening hs') _ q6)
