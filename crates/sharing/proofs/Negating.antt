-- The negatives of all elements of a list by one negative, that of their sum.
use Rattle.std.proofs.Common.{◌≡◌, ◌≢◌, ℕ, zero, suc, ◌+◌, ◌<◌, ◌≤◌, T, List, length, get_or, set, sym, ap, ◌∙◌, subst, inl, inr, add-one, arith}
use Rattle.std.proofs.lemmas.List.{get_or-set_same, get_or-set_other, get_or_read, ext_get_or}
use Rattle.std.proofs.lemmas.Bool.{cases_eq}
use Rattle.algebra.specs.Group.{GroupOps, GroupLaws}
use Rattle.algebra.specs.Tuples.{all_valid, tuple_minus}
use Rattle.algebra.specs.Valid.{valid_at, valid_read, length_minus}
use Rattle.algebra.proofs.Places.{get_or_minus}
use Rattle.algebra.proofs.TupleSums.{minus_unique}

-- the sum of the first k elements
abbrev before : {C : Type 0} → GroupOps C → List C → ℕ → C
before G xs zero = G.zero
before G xs (suc k) = G.plus (before G xs k) (get_or xs k G.zero)

module _ {C : Type 0} (G : GroupOps C) (xs : List C) where
  -- the sum so far, and in each of the first k places the sum of what stands before it
  abbrev pub Summed : ℕ → C → List C → Type 0
  Summed k sum to = (sum ≡ before G xs k) × ((j : ℕ) (d : C) → j < k → get_or to j d ≡ before G xs j)

  -- what is still to be taken away, those sums, and from the place k on the negatives
  abbrev pub Negated : ℕ → C → List C → Type 0
  Negated k rest to =
      (rest ≡ G.minus (before G xs k)) × ((j : ℕ) (d : C) → j < k → get_or to j d ≡ before G xs j)
      × ((j : ℕ) (d : C) → k ≤ j → j < length xs → get_or to j d ≡ G.minus (get_or xs j d))

  before_next : (k : ℕ) → before G xs (k + 1) ≡ G.plus (before G xs k) (get_or xs k G.zero)
  before_next k = ap (before G xs) (add-one k)

  pub summed_none : (to : List C) (sum : C) → sum ≡ G.zero → Summed 0 sum to
  summed_none to sum e = (e, λ j d l. absurd (omega arith))

  pub negated_all : (k : ℕ) (to : List C) (rest : C) → k ≤ 0 → length to ≡ length xs → Negated k rest to → to ≡ tuple_minus G xs
  negated_all k to rest z n h =
      ext_get_or G.zero to (tuple_minus G xs) (n ∙ sym (length_minus G xs))
      (λ i l. h.2 i G.zero (omega arith) (omega arith) ∙ sym (get_or_minus G xs i G.zero (omega arith)))

module _ {C : Type 0} (G : GroupOps C) (L : GroupLaws G) where
  -- a - (a + b) = -b
  taken : (a b : C) → T (G.valid a) → T (G.valid b) → G.plus a (G.minus (G.plus a b)) ≡ G.minus b
  taken a b p q =
      let ab : T (G.valid (G.plus a b)) = L.plus_valid a b p q in
      let n : T (G.valid (G.minus (G.plus a b))) = L.minus_valid (G.plus a b) ab in
      minus_unique G L b (G.plus a (G.minus (G.plus a b))) q (L.plus_valid a (G.minus (G.plus a b)) p n)
      (sym (L.plus_assoc b a (G.minus (G.plus a b)) q p n) ∙ ap (λ (z : C). G.plus z (G.minus (G.plus a b))) (L.plus_comm b a q p) ∙ L.plus_minus (G.plus a b) ab)

  -- -(a + b) + b = -a
  given_back : (a b : C) → T (G.valid a) → T (G.valid b) → G.plus (G.minus (G.plus a b)) b ≡ G.minus a
  given_back a b p q =
      let ab : T (G.valid (G.plus a b)) = L.plus_valid a b p q in
      let n : T (G.valid (G.minus (G.plus a b))) = L.minus_valid (G.plus a b) ab in
      L.plus_comm (G.minus (G.plus a b)) b n q ∙ ap (λ (z : C). G.plus b (G.minus z)) (L.plus_comm a b p q) ∙ taken b a q p

  module _ (xs : List C) (v : T (all_valid G xs)) where
    before_valid : (k : ℕ) → k ≤ length xs → T (G.valid (before G xs k))
    before_valid zero l = L.zero_valid
    before_valid (suc k) l = L.plus_valid (before G xs k) (get_or xs k G.zero) (before_valid k (omega arith)) (valid_at G xs k G.zero (omega arith) v)

    pub summed_more : (k : ℕ) (sum x sum' : C) (to : List C) → k < length xs → length to ≡ length xs → x ≡ get_or xs k x
        → (T (G.valid sum) → T (G.valid x) → sum' ≡ G.plus sum x) → Summed G xs k sum to → Summed G xs (k + 1) sum' (set to k sum)
    summed_more k sum x sum' to l n read plus h = (next, places)
      where
        vs : T (G.valid sum)
        vs = subst (λ (c : C). T (G.valid c)) (sym h.0) (before_valid k (omega arith))

        vx : T (G.valid x)
        vx = valid_read G xs k x l read v

        next : sum' ≡ before G xs (k + 1)
        next = plus vs vx ∙ ap (λ (c : C). G.plus c x) h.0 ∙ ap (G.plus (before G xs k)) (get_or_read xs k x l read G.zero) ∙ sym (before_next G xs k)

        places : (j : ℕ) (d : C) → j < k + 1 → get_or (set to k sum) j d ≡ before G xs j
        places j d m =
            elim (cases_eq j k) [
              | inl e ↦ subst (λ (i : ℕ). get_or (set to k sum) i d ≡ before G xs i) (sym e) (get_or-set_same to k sum d (omega arith) ∙ h.0)
              | inr ne ↦ get_or-set_other to k j sum d ne ∙ h.1 j d (omega arith)
            ]

    pub negated_none : (k : ℕ) (sum rest : C) (to : List C) → k ≡ length xs → (T (G.valid sum) → rest ≡ G.minus sum) → Summed G xs k sum to → Negated G xs (length xs) rest to
    negated_none k sum rest to n minus h = (
      minus (subst (λ (c : C). T (G.valid c)) (sym h.0) (before_valid k (omega arith))) ∙ ap G.minus (h.0 ∙ ap (before G xs) n),
      λ j d l. h.1 j d (omega arith),
      λ j d l m. absurd (omega arith),
    )

    pub negated_more : (k i : ℕ) (t x y rest rest' : C) (to : List C) → k ≡ i + 1 → k ≤ length xs → length to ≡ length xs → t ≡ get_or to i t → x ≡ get_or xs i x
        → (T (G.valid t) → T (G.valid rest) → y ≡ G.plus t rest) → (T (G.valid rest) → T (G.valid x) → rest' ≡ G.plus rest x)
        → Negated G xs k rest to → Negated G xs i rest' (set to i y)
    negated_more k i t x y rest rest' to e l n told read write plus h = (plus vr vx ∙ ap (λ (c : C). G.plus c x) is_rest ∙ given_back (before G xs i) x vb vx, sums, negatives)
      where
        vx : T (G.valid x)
        vx = valid_read G xs i x (omega arith) read v

        vb : T (G.valid (before G xs i))
        vb = before_valid i (omega arith)

        is_t : t ≡ before G xs i
        is_t = told ∙ h.1 i t (omega arith)

        is_rest : rest ≡ G.minus (G.plus (before G xs i) x)
        is_rest = h.0 ∙ ap (λ (m : ℕ). G.minus (before G xs m)) e ∙ ap G.minus (before_next G xs i) ∙ ap (λ (c : C). G.minus (G.plus (before G xs i) c)) (sym (get_or_read xs i x (omega arith) read G.zero))

        vt : T (G.valid t)
        vt = subst (λ (c : C). T (G.valid c)) (sym is_t) vb

        vr : T (G.valid rest)
        vr = subst (λ (c : C). T (G.valid c)) (sym is_rest) (L.minus_valid (G.plus (before G xs i) x) (L.plus_valid (before G xs i) x vb vx))

        is_y : y ≡ G.minus x
        is_y = write vt vr ∙ ap (λ (c : C). G.plus c rest) is_t ∙ ap (G.plus (before G xs i)) is_rest ∙ taken (before G xs i) x vb vx

        sums : (j : ℕ) (d : C) → j < i → get_or (set to i y) j d ≡ before G xs j
        sums j d m = let ne : j ≢ i = omega arith in get_or-set_other to i j y d ne ∙ h.1 j d (omega arith)

        negatives : (j : ℕ) (d : C) → i ≤ j → j < length xs → get_or (set to i y) j d ≡ G.minus (get_or xs j d)
        negatives j d low m =
            elim (cases_eq j i) [
              | inl e ↦
                  subst (λ (p : ℕ). get_or (set to i y) p d ≡ G.minus (get_or xs p d)) (sym e)
                  (get_or-set_same to i y d (omega arith) ∙ is_y ∙ ap G.minus (get_or_read xs i x (omega arith) read d))
              | inr ne ↦ get_or-set_other to i j y d ne ∙ h.2 j d (omega arith) m
            ]
