-- One more of the same call.
use Rattle.std.proofs.Common.{◌≡◌, ℕ, Bool, MatchBool, ◌+◌, ◌-◌, ◌*◌, List, length, Some, None, Ok, Err, Option, Result, sym, refl, ap, ◌∙◌, subst, add-one, MatchResult}
use Rattle.std.specs.Result.{IsErrAnd, is_ok}
use Rattle.algebra.specs.Group.{GroupOps}
use Rattle.algebra.specs.Tuples.{tuple_zero}
use Rattle.sharing.specs.declared.fault.CabinetFault.{CabinetFault}
use Rattle.sharing.specs.declared.scheme.Scheme.{Scheme}
use Rattle.history.specs.declared.ledger.Ledger.{Ledger}
use Rattle.history.specs.Ledgers.{fresh}
use Rattle.history.specs.Calls.{State, Call, Answer, key_is, refused, answered, Outcome}
use Rattle.history.specs.Rules.{fault}
use Rattle.history.specs.Steps.{made, accepted, decided, step}
use Rattle.history.proofs.Refusals.{passed_on}
use Rattle.bench.specs.Rounds.{after, Stopped}

module _ {C : Type 0} where
  -- a step's state depends on the length of the working memory alone
  decided_state : (G : GroupOps C) (s : Scheme) (f : Option CabinetFault) (st : State C) (v w : List C) (c : Call C) → (decided G s f st v (accepted G s st v c)).state ≡ (decided G s f st w (accepted G s st w c)).state
  decided_state G s (Some f) st v w c = refl
  decided_state G s None st v w c = refl

  step_state : (G : GroupOps C) (s : Scheme) (st : State C) (v w : List C) (c : Call C) → length v ≡ length w → (step G s st v c).state ≡ (step G s st w c).state
  step_state G s st v w c e =
      decided_state G s (fault G s st (length v) c) st v w c ∙ ap (λ (n : ℕ). (decided G s (fault G s st n c) st w (accepted G s st w c)).state) e

  pub again : (G H : GroupOps C) (s t : Scheme) (w v u : List C) (c : Call C) (k : ℕ) (st mid next : State C) (a : Answer C)
      → H ≡ G → t ≡ s → length v ≡ length w
      → after G s w c k st ≡ mid
      → step H t mid v c ≡ record { answer = a; state = next; working = u }
      → after G s w c (k + 1) st ≡ next
  again G H s t w v u c k st mid next a eG es len before one =
      ap (λ (n : ℕ). after G s w c n st) (add-one k)
      ∙ ap (λ (m : State C). (step G s m w c).state) before
      ∙ sym (step_state G s mid v w c len)
      ∙ sym (ap (λ (K : GroupOps C). (step K s mid v c).state) eG)
      ∙ sym (ap (λ (r : Scheme). (step H r mid v c).state) es)
      ∙ ap (λ (o : Outcome C). o.state) one

  -- from a new cabinet on
  pub begun : (G H : GroupOps C) (s t : Scheme) (w : List C) (c : Call C) (k m : ℕ) (l : Ledger) (shares : List C) (next : State C)
      → H ≡ G → t ≡ s → l ≡ fresh → shares ≡ tuple_zero G m → m ≡ s.n * (s.q - 1)
      → after H t w c k (record { ledger = l; shares = shares }) ≡ next
      → after G s w c k (made G s) ≡ next
  begun G H s t w c k m l shares next eG es el zeros len e =
      sym (ap (λ (n : ℕ). after G s w c k (record { ledger = fresh; shares = tuple_zero G n })) len)
      ∙ sym (ap (λ (xs : List C). after G s w c k (record { ledger = fresh; shares = xs })) zeros)
      ∙ sym (ap (λ (z : Ledger). after G s w c k (record { ledger = z; shares = shares })) el)
      ∙ sym (ap (λ (K : GroupOps C). after K s w c k (record { ledger = l; shares = shares })) eG)
      ∙ sym (ap (λ (r : Scheme). after H r w c k (record { ledger = l; shares = shares })) es)
      ∙ e

  -- a step's answer too depends on the length of the working memory alone
  decided_answer : (G : GroupOps C) (s : Scheme) (f : Option CabinetFault) (st : State C) (v w : List C) (c : Call C) → (decided G s f st v (accepted G s st v c)).answer ≡ (decided G s f st w (accepted G s st w c)).answer
  decided_answer G s (Some f) st v w c = refl
  decided_answer G s None st v w c = refl

  pub told_after : (G H : GroupOps C) (s t : Scheme) (w v : List C) (c : Call C) (st mid : State C) (a : Answer C)
      → H ≡ G → t ≡ s → length v ≡ length w → st ≡ mid
      → (step H t mid v c).answer ≡ a
      → (step G s st w c).answer ≡ a
  told_after G H s t w v c st mid a eG es len e told =
      ap (λ (m : State C). (step G s m w c).answer) e
      ∙ sym (ap (λ (n : ℕ). (decided G s (fault G s mid n c) mid w (accepted G s mid w c)).answer) len)
      ∙ sym (decided_answer G s (fault G s mid (length v) c) mid v w c)
      ∙ sym (ap (λ (K : GroupOps C). (step K s mid v c).answer) eG)
      ∙ sym (ap (λ (r : Scheme). (step H r mid v c).answer) es)
      ∙ told

  pub stopped : (G H : GroupOps C) (s t : Scheme) (w : List C) (c : Call C) (k m : ℕ) (l : Ledger) (shares : List C) (f : CabinetFault)
      → H ≡ G → t ≡ s → l ≡ fresh → shares ≡ tuple_zero G m → m ≡ s.n * (s.q - 1)
      → Stopped H t w c k (record { ledger = l; shares = shares }) f
      → Stopped G s w c k (made G s) f
  stopped G H s t w c k m l shares f eG es el zeros len z =
      let st : State C = record { ledger = l; shares = shares } in
      record {
        round = z.round;
        within = z.within;
        answer = told_after G H s t w w c (after G s w c z.round (made G s)) (after H t w c z.round st) (refused f) eG es refl
            (begun G H s t w c z.round m l shares (after H t w c z.round st) eG es el zeros len refl) z.answer;
      }

  -- by what an opening answered
  pub by_answer : (r : Result C CabinetFault) (P : C → Type 0) (Q : CabinetFault → Type 0) (a : Answer C)
      → a ≡ answered key_is r → ((k : C) → a ≡ key_is k → P k) → ((e : CabinetFault) → a ≡ refused e → Q e) → MatchResult r P Q
  by_answer (Ok x) P Q a e f g = f x e
  by_answer (Err x) P Q a e f g = g x e

module _ {X E : Type 0} where
  pub on_refusal : (r : Result X E) (P : X → Type 0) (Q : E → Type 0) (f : E) → IsErrAnd r (λ x. x ≡ f) → Q f → MatchResult r P Q
  on_refusal r P Q f e q = subst (λ (z : Result X E). MatchResult z P Q) (sym (passed_on r f e)) q

  -- a result as whether it is accepted
  pub whether : (r : Result X E) {b : Bool} {P : X → Type 0} {Q : E → Type 0} (P' Q' : Type 0) → b ≡ is_ok r → MatchResult r P Q → ((x : X) → P x → P') → ((e : E) → Q e → Q') → MatchBool b P' Q'
  whether (Ok x) P' Q' e h f g = subst (λ (z : Bool). MatchBool z P' Q') (sym e) (f x h)
  whether (Err y) P' Q' e h f g = subst (λ (z : Bool). MatchBool z P' Q') (sym e) (g y h)
