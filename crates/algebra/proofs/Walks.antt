-- A walk in steps of d places around a circle of q comes to every place, and writes a quotient there.
use Rattle.std.proofs.Common.{◌≡◌, ℕ, zero, suc, ◌+◌, ◌-◌, ◌*◌, ◌%◌, ◌<◌, ◌≤◌, T, List, length, get_or, set, sym, ap, ◌∙◌, subst, ap₂, inl, inr, mod-lt, mod-eq_of_lt, mul_assoc, mul_comm, zero-mul, mul-one, arith}
use Rattle.std.proofs.Math.Nat.{mod-add-mod, add-mod-mod, add-mod_right, zero-mod}
use Rattle.std.proofs.lemmas.List.{get_or_past, get_or-set_same, get_or-set_other, ext_get_or}
use Rattle.std.proofs.lemmas.Bool.{cases_lt, cases_eq}
use Rattle.std.proofs.lemmas.Nat.{mul-mod_first, mul-mod_second}
use Rattle.algebra.specs.Circle.{around, Quotient}
use Rattle.algebra.specs.Group.{GroupOps, GroupLaws}
use Rattle.algebra.specs.Tuples.{all_valid, ok}
use Rattle.algebra.specs.Space.{ok_valid}
use Rattle.algebra.proofs.Around.{part_valid, taken_over}

-- steps of d places come to every place: some number times d is one more than a multiple of q
abbrev pub ComesRound : ℕ → ℕ → Type 0
ComesRound q d = (e : ℕ) × ((d * e) % q ≡ 1)

module _ (q d : ℕ) (some : 0 < q) where
  -- before the first step
  pub at_zero : q - 1 ≡ (q - 1 + 0 * d) % q
  at_zero = sym (ap (λ z. z % q) (omega arith) ∙ mod-eq_of_lt (omega arith))

  -- a step more
  pub onward : (n to next : ℕ) → to ≡ (q - 1 + n * d) % q → next ≡ (to + d) % q → next ≡ (q - 1 + (n + 1) * d) % q
  onward n to next e f =
      let more : q - 1 + n * d + d ≡ q - 1 + (n + 1) * d = omega arith in
      f ∙ ap (λ z. (z + d) % q) e ∙ mod-add-mod (q - 1 + n * d) q d ∙ ap (λ z. z % q) more

  -- q - d places on from there is one step back
  pub stepped_back : (n to back : ℕ) → d < q → to ≡ (q - 1 + (n + 1) * d) % q → back ≡ (q - 1 + n * d) % q → back ≡ (to + (q - d)) % q
  stepped_back n to back h e f =
      let round : q - 1 + (n + 1) * d + (q - d) ≡ q - 1 + n * d + q = omega arith in
      f ∙ sym (ap (λ z. (z + (q - d)) % q) e ∙ mod-add-mod (q - 1 + (n + 1) * d) q (q - d) ∙ ap (λ z. z % q) round ∙ add-mod_right (q - 1 + n * d) q)

  module _ (comes : ComesRound q d) where
    -- no step but the last of q comes back
    lands : (n : ℕ) → 1 ≤ n → n < q → (q - 1 + n * d) % q < q - 1
    lands n l h = elim (cases_lt ((q - 1 + n * d) % q) (q - 1)) [
      | inl below ↦ below
      | inr past ↦
          let e : ℕ = comes.0 in
          let top : (q - 1 + n * d) % q ≡ q - 1 = omega (arith, mod-lt (q - 1 + n * d) some) in
          let all : q - 1 + n * d + 1 ≡ n * d + q = omega arith in
          let whole : q - 1 + 1 ≡ 0 + q = omega arith in
          let none : (n * d) % q ≡ 0 =
          sym (ap (λ z. z % q) all ∙ add-mod_right (n * d) q) ∙ sym (mod-add-mod (q - 1 + n * d) q 1) ∙ ap (λ z. (z + 1) % q) top ∙ ap (λ z. z % q) whole ∙ add-mod_right 0 q ∙ zero-mod q in
          let zero_times : (n * d * e) % q ≡ 0 = sym (mul-mod_first (n * d) e q) ∙ ap (λ z. (z * e) % q) none ∙ ap (λ z. z % q) (zero-mul e) ∙ zero-mod q in
          let again : (n * d * e) % q ≡ n = ap (λ z. z % q) (mul_assoc n d e) ∙ sym (mul-mod_second n (d * e) q) ∙ ap (λ z. (n * z) % q) comes.1 ∙ ap (λ z. z % q) (mul-one n) ∙ mod-eq_of_lt h in
          absurd (omega arith)
    ]

    pub next_lands : (n to next : ℕ) → n < q - 1 → to ≡ (q - 1 + n * d) % q → next ≡ (to + d) % q → next < q - 1
    next_lands n to next h e f = subst (λ z. z < q - 1) (sym (onward n to next e f)) (lands (n + 1) (omega arith) (omega arith))

    reached : (i : ℕ) → i < q - 1 → (n : ℕ) × (1 ≤ n) × (n ≤ q - 1) × ((q - 1 + n * d) % q ≡ i)
    reached i h =
        let e : ℕ = comes.0 in
        let n : ℕ = ((i + 1) * e) % q in
        let below : n < q = mod-lt ((i + 1) * e) some in
        let product : (n * d) % q ≡ (i + 1) % q =
        mul-mod_first ((i + 1) * e) d q ∙ ap (λ z. z % q) (mul_assoc (i + 1) e d ∙ ap (λ z. (i + 1) * z) (mul_comm e d)) ∙ sym (mul-mod_second (i + 1) (d * e) q) ∙ ap (λ z. ((i + 1) * z) % q) comes.1 ∙ ap (λ z. z % q) (mul-one (i + 1)) in
        let whole : q - 1 + (i + 1) ≡ i + q = omega arith in
        let place : (q - 1 + n * d) % q ≡ i =
        sym (add-mod-mod (q - 1) (n * d) q) ∙ ap (λ z. (q - 1 + z) % q) product ∙ add-mod-mod (q - 1) (i + 1) q ∙ ap (λ z. z % q) whole ∙ add-mod_right i q ∙ mod-eq_of_lt (omega arith) in
        (n, first n place (sym at_zero), omega arith, place)
      where
        first : (n : ℕ) → (q - 1 + n * d) % q ≡ i → (q - 1 + 0 * d) % q ≡ q - 1 → 1 ≤ n
        first zero e f = absurd (omega arith)
        first (suc n) e f = omega arith

  module _ {C : Type 0} (G : GroupOps C) (L : GroupLaws G) (r : List C) where
    -- after n steps: the last element written, and those on the way
    abbrev pub Walked : ℕ → C → List C → Type 0
    Walked n sum out =
        (sum ≡ around G q r (q - 1 + n * d)) × ((k : ℕ) → 1 ≤ k → k ≤ n → get_or out ((q - 1 + k * d) % q) G.zero ≡ around G q r (q - 1 + k * d))

    pub walk_starts : (sum : C) (out : List C) → length r ≤ q - 1 → sum ≡ G.zero → Walked 0 sum out
    walk_starts sum out n e =
        (e ∙ sym (ap (λ z. get_or r z G.zero) (sym at_zero) ∙ get_or_past r (q - 1) G.zero n), λ k l h. absurd (omega arith))

    -- what a step from u comes to
    pub walk_sum : (come gone : ℕ) (m : List C) (u : ℕ) (sum more less rest sum' : C)
        → T (all_valid G m) → T (ok G (q - 1) r) → Quotient G q d come gone m r
        → sum ≡ around G q r u → more ≡ around G q m (u + d + come) → less ≡ around G q m (u + d + gone)
        → (T (G.valid more) → T (G.valid less) → rest ≡ G.plus more (G.minus less))
        → (T (G.valid sum) → T (G.valid rest) → sum' ≡ G.plus sum rest)
        → sum' ≡ around G q r (u + d)
    walk_sum come gone m u sum more less rest sum' v h Q esum emore eless erest enext =
        let vr : (i : ℕ) → T (G.valid (around G q r i)) = λ i. part_valid G L r (i % q) (ok_valid G (q - 1) r h) in
        let vm : (i : ℕ) → T (G.valid (around G q m i)) = λ i. part_valid G L m (i % q) v in
        taken_over G L sum more less rest sum' (around G q r (u + d))
        (subst (λ c. T (G.valid c)) (sym esum) (vr u)) (subst (λ c. T (G.valid c)) (sym emore) (vm (u + d + come))) (subst (λ c. T (G.valid c)) (sym eless) (vm (u + d + gone))) (vr (u + d))
        erest enext
        (ap (G.plus (around G q r (u + d))) eless ∙ Q u ∙ sym (ap₂ G.plus esum emore))

    -- one step, to the place `to`
    pub walk_step : (come gone : ℕ) (m : List C) (n to : ℕ) (sum more less rest sum' : C) (out : List C)
        → T (all_valid G m) → T (ok G (q - 1) r) → Quotient G q d come gone m r
        → to ≡ (q - 1 + (n + 1) * d) % q → to < length out
        → more ≡ get_or m ((to + come) % q) G.zero → less ≡ get_or m ((to + gone) % q) G.zero
        → (T (G.valid more) → T (G.valid less) → rest ≡ G.plus more (G.minus less))
        → (T (G.valid sum) → T (G.valid rest) → sum' ≡ G.plus sum rest)
        → Walked n sum out → Walked (n + 1) sum' (set out to sum')
    walk_step come gone m n to sum more less rest sum' out v h Q at within em el erest esum before =
        let u : ℕ = q - 1 + n * d in
        let next : u + d ≡ q - 1 + (n + 1) * d = omega arith in
        let here : (c : ℕ) → (to + c) % q ≡ (u + d + c) % q = λ c. ap (λ z. (z + c) % q) (at ∙ ap (λ z. z % q) (sym next)) ∙ mod-add-mod (u + d) q c in
        let place : (c : ℕ) → get_or m ((to + c) % q) G.zero ≡ around G q m (u + d + c) = λ c. ap (λ z. get_or m z G.zero) (here c) in
        let new : sum' ≡ around G q r (q - 1 + (n + 1) * d) =
        walk_sum come gone m u sum more less rest sum' v h Q before.0 (em ∙ place come) (el ∙ place gone) erest esum ∙ ap (around G q r) next in (
          new,
          λ k l top. elim (cases_eq ((q - 1 + k * d) % q) to) [
            | inl same ↦
                ap (λ z. get_or (set out to sum') z G.zero) same ∙ get_or-set_same out to sum' G.zero within ∙ new
                ∙ ap (λ z. get_or r z G.zero) (sym (same ∙ at))
            | inr other ↦ get_or-set_other out to ((q - 1 + k * d) % q) sum' G.zero other ∙ before.1 k l (earlier k top other)
          ],
        )
      where
        earlier : (k : ℕ) → k ≤ n + 1 → ((q - 1 + k * d) % q ≡ to → ⊥) → k ≤ n
        earlier k top other = elim (cases_lt n k) [
          | inl l ↦ let e : k ≡ n + 1 = omega arith in absurd (other (ap (λ z. (q - 1 + z * d) % q) e ∙ sym at))
          | inr l ↦ l
        ]

    pub walk_ends : ComesRound q d → (n : ℕ) (sum : C) (out : List C) → q - 1 ≤ n → length out ≡ q - 1 → length r ≡ q - 1 → Walked n sum out → out ≡ r
    walk_ends comes n sum out full lo lr after =
        ext_get_or G.zero out r (lo ∙ sym lr)
        (λ i h.
        let p = reached comes i (omega arith) in
        ap (λ z. get_or out z G.zero) (sym p.3) ∙ after.1 p.0 p.1 (omega (arith, p.2)) ∙ ap (λ z. get_or r z G.zero) p.3)
