-- The polynomial that a history has dealt: each share is its value, and at 0 it is the total.
use Rattle.std.proofs.Common.{◌≡◌, ℕ, zero, suc, ◌+◌, ◌-◌, ◌*◌, ◌<◌, ◌≤◌, Bool, true, false, cond, not, T, ◌⊎◌, List, [], ◌∷◌, length, get_or, set, Some, None, Option, sym, refl, ap, ◌∙◌, subst, ap₂, inl, inr, arith}
use lib.ListN.{length-replicate}
use Rattle.std.specs.List.{AllByRecursion}
use Rattle.std.proofs.ByRecursion.{All-weaker}
use Rattle.std.proofs.lemmas.List.{length-map, length-set, get_or-set_same, get_or-set_other}
use Rattle.std.proofs.lemmas.Bool.{cond-true, le-leb, cases_eq, not_from_true}
use Rattle.algebra.specs.Group.{GroupOps, GroupLaws}
use Rattle.algebra.specs.Module.{ModuleOps}
use Rattle.algebra.specs.Tuples.{tuple_zero, tuple_plus, tuple_minus, nonzero_at, ok, list_ops}
use Rattle.algebra.specs.Valid.{zero_tuple_valid}
use Rattle.algebra.specs.Space.{Tuple, tuple_ops, ok_length, ok_valid, zero_ok, plus_ok, minus_ok}
use Rattle.algebra.specs.Scalars.{nought, act, point}
use Rattle.algebra.specs.Sharing.{value, join}
use Rattle.algebra.specs.Primes.{inverse_number}
use Rattle.algebra.specs.Rows.{rows, row_at, put_row, flat}
use Rattle.algebra.specs.Dealing.{embedded, dealt, weight_at, tuple_at}
use Rattle.algebra.proofs.TupleModule.{tuple_sums, tuple_laws, act_list}
use Rattle.algebra.proofs.Polynomials.{length_join}
use Rattle.algebra.proofs.Theorems.{sharing}
use Rattle.algebra.proofs.Lagrange.{all_both}
use Rattle.algebra.proofs.PrimeNumbers.{inverts}
use Rattle.algebra.proofs.RowLists.{length_rows, get_or_rows}
use Rattle.algebra.proofs.Dealings.{rows_ok, embedded_ok, dealt_ok, tuple_at_ok}
use Rattle.sharing.specs.declared.fault.CabinetFault.{CabinetFault}
use Rattle.sharing.specs.declared.scheme.Scheme.{Scheme}
use Rattle.sharing.specs.declared.shares.Change.{Change}
use Rattle.sharing.specs.declared.shares.Change.TheVariants.{Add, Subtract}
use Rattle.sharing.specs.Shares.{changed}
use Rattle.history.specs.declared.ledger.Holder.{Holder}
use Rattle.history.specs.declared.ledger.Ledger.{Ledger}
use Rattle.history.specs.Ledgers.{holder, fresh, is_present, with_holder}
use Rattle.history.specs.Calls.{State, Deal, depositing, withdrawing, refreshing, Call, dealing, revoking, repairing, opening, Answer, epoch_is, holder_is, key_is, refused}
use Rattle.history.specs.Rules.{fault}
use Rattle.history.specs.Steps.{direction, key_of, credited, shared_out, told_by, told, made, accepted, decided}
use Rattle.laws.specs.Histories.{Request, outcome, public_fault, counted, added, credit}
use Rattle.history.proofs.SharedOut.{present_at, put_valid, length_shared, shared_at}
use Rattle.laws.proofs.Memory.{row_put_same, row_put_other, length_put, row_replicate, row_flat, flat_long, flat_valid}
use Rattle.laws.proofs.Lifting.{lift, lift_ok, total_lift, poly_of, poly_dealt, signed, changed_value}
use Rattle.laws.proofs.Verdicts.{nowhere_from, true_from, Listed, Proper, proper, deal_none, revoke_none, repair_none, open_none, Sound, sound_fault}
use Rattle.laws.proofs.Along.{refused_counts}

-- whether the holder at the place i is present
abbrev pub there : List Holder → ℕ → Bool
there hs i = (get_or hs i (holder false 0)).present

-- of the numbers of holders
pub there_at : (s : Scheme) (hs : List Holder) (h : ℕ) → (1 ≤ h) × (h ≤ s.n) → is_present hs h ≡ there hs (h - 1)
there_at s hs h b = present_at hs h b.0 (omega (arith, b.1, s.allowed))

module _ {C : Type 0} (G : GroupOps C) (L : GroupLaws G) (w : ℕ) where
  credited_ok : (d : Change) (b : Bool) (ys r : List C) → T (ok G w ys) → T (ok G w r) → T (ok G w (credited G d b ys r))
  credited_ok Add true ys r h k = plus_ok G L w r ys k h
  credited_ok Subtract true ys r h k = plus_ok G L w r (tuple_minus G ys) k (minus_ok G L w ys h)
  credited_ok Add false ys r h k = k
  credited_ok Subtract false ys r h k = k

  shared_ok : (d : Change) (f : ℕ → List C) → ((j : ℕ) → T (ok G w (f j))) → (i : ℕ) (hs : List Holder) (rs : List (List C)) → AllByRecursion (λ r. T (ok G w r)) rs → AllByRecursion (λ r. T (ok G w r)) (shared_out G d f i hs rs)
  shared_ok d f g i hs [] h = tt
  shared_ok d f g i [] (r ∷ rs) h = h
  shared_ok d f g i (k ∷ hs) (r ∷ rs) h = (credited_ok d k.present (f i) r (g i) h.0, shared_ok d f g (i + 1) hs rs h.1)

  -- keys as tuples add up
  zeros_plus : (n : ℕ) → tuple_plus G (tuple_zero G n) (tuple_zero G n) ≡ tuple_zero G n
  zeros_plus zero = refl
  zeros_plus (suc n) = ap₂ (λ x xs. x ∷ xs) (L.plus_zero G.zero L.zero_valid) (zeros_plus n)

  zeros_less : (n : ℕ) → tuple_plus G (tuple_zero G n) (tuple_minus G (tuple_zero G n)) ≡ tuple_zero G n
  zeros_less zero = refl
  zeros_less (suc n) = ap₂ (λ x xs. x ∷ xs) (L.plus_minus G.zero L.zero_valid) (zeros_less n)

  embedded_changed : (d : Deal C) (cs : List C) (a : C) → T (G.valid a) → changed G (direction d) (embedded G w a) (embedded G w (key_of G d)) ≡ embedded G w (added G d cs a)
  embedded_changed (depositing k) cs a h = ap (λ zs. G.plus a k ∷ zs) (zeros_plus (w - 1))
  embedded_changed (withdrawing k) cs a h = ap (λ zs. G.plus a (G.minus k) ∷ zs) (zeros_less (w - 1))
  embedded_changed refreshing cs a h = ap₂ (λ x xs. x ∷ xs) (L.plus_zero a h) (zeros_plus (w - 1))

  added_valid : (d : Deal C) (cs : List C) (a : C) → T (G.valid a) → T (G.valid (key_of G d)) → T (G.valid (added G d cs a))
  added_valid (depositing k) cs a h v = L.plus_valid a k h v
  added_valid (withdrawing k) cs a h v = L.plus_valid a (G.minus k) h (L.minus_valid k v)
  added_valid refreshing cs a h v = h

  -- a key's tuple tells the key
  zero_everywhere : (n i : ℕ) → get_or (tuple_zero G n) i G.zero ≡ G.zero
  zero_everywhere zero i = refl
  zero_everywhere (suc n) zero = refl
  zero_everywhere (suc n) (suc i) = zero_everywhere n i

  zero_above : (a : C) (n j : ℕ) → 1 ≤ j → nonzero_at G (a ∷ tuple_zero G n) j ≡ false
  zero_above a n zero l = absurd (omega arith)
  zero_above a n (suc j) l =
      ap (λ x. not (G.same x G.zero)) (zero_everywhere n j) ∙ not_from_true (G.same G.zero G.zero) (true_from _ (L.same_self G.zero L.zero_valid))

  pub told_key : (a : C) → told G (embedded G w a) ≡ key_is a
  told_key a = ap (λ o. told_by G o (embedded G w a)) (nowhere_from (nonzero_at G (embedded G w a)) 1 (length (embedded G w a) - 1) (λ j l m. zero_above a (w - 1) j l))

module _ {C : Type 0} (G : GroupOps C) (L : GroupLaws G) (s : Scheme) where
  abbrev pub O : ModuleOps (Tuple G (s.q - 1))
  O = tuple_ops G L (s.q - 1)

  -- polynomials of tuples
  abbrev pub Poly : Type 0
  Poly = List (Tuple G (s.q - 1))

  -- the polynomial P with that of a dealing added
  abbrev pub grown : Deal C → List C → Poly → Poly
  grown d cs P = join O P (signed G L (s.q - 1) (direction d) (poly_of G L (s.q - 1) (key_of G d) (s.t - 1) cs))

  -- the share of the holder at the place i is the value of P, or zeros where it is missing
  abbrev pub RowIs : List Holder → List C → Poly → ℕ → Type 0
  RowIs hs shares P i = row_at (s.q - 1) i shares ≡ cond (there hs i) (value O P (point (suc i))).0 (tuple_zero G (s.q - 1))

  -- P is the polynomial of the state st
  pub record Shared (st : State C) (P : Poly) : Type 0 where
    pub sound : Sound G L s st
    pub short : length P ≤ s.t
    pub each : (i : ℕ) → i < s.n → RowIs st.ledger.holders st.shares P i

  -- k is the key that P shares
  pub record Worth (P : Poly) (k : C) : Type 0 where
    pub first : (value O P nought).0 ≡ embedded G (s.q - 1) k
    pub good : T (G.valid k)

  pub wide : 0 < s.q - 1
  wide = omega (arith, s.above, s.allowed)

  pub two : 2 ≤ s.q
  two = omega (arith, s.above, s.allowed)

  -- a present holder's share
  pub share_value : (st : State C) (P : Poly) → Shared st P → (h : ℕ) → (1 ≤ h) × (h ≤ s.n) → is_present st.ledger.holders h ≡ true
      → row_at (s.q - 1) (h - 1) st.shares ≡ (value O P (point h)).0
  share_value st P j h b e =
      let l : h - 1 < s.n = omega (arith, b.0, b.1) in
      let k : suc (h - 1) ≡ h = omega (arith, b.0) in
      j.each (h - 1) l ∙ cond-true _ _ _ (sym (there_at s st.ledger.holders h b) ∙ e) ∙ ap (λ i. (value O P (point i)).0) k

  -- what t present holders' shares give at a point
  pub helped : (st : State C) (P : Poly) → Shared st P → (hs : List ℕ) → Listed s st.ledger.holders hs
      → (p : ℕ) → tuple_at G s.q hs p st.shares ≡ (value O P (point p)).0
  helped st P j hs l p =
      let f : ℕ → Tuple G (s.q - 1) = λ i. act O (weight_at s.q hs p i) (value O P (point i)) in
      let g : ℕ → List C = λ i. act (list_ops G (s.q - 1)) (weight_at s.q hs p i) (row_at (s.q - 1) (i - 1) st.shares) in
      let short : length P ≤ length hs = omega (arith, j.short, l.right) in
      sym (total_lift G L (s.q - 1) f g hs (All-weaker (λ i. ((1 ≤ i) × (i ≤ s.n)) × (is_present st.ledger.holders i ≡ true)) (λ i. (f i).0 ≡ g i)
      (λ i b. act_list G L (s.q - 1) (weight_at s.q hs p i) (value O P (point i)) ∙ ap (act (list_ops G (s.q - 1)) (weight_at s.q hs p i)) (sym (share_value st P j i b.0 b.1)))
      hs (all_both _ _ hs l.known l.there)))
      ∙ ap (λ (a : Tuple G (s.q - 1)). a.0) ((sharing (tuple_laws G L s.q two) (inverse_number s.q) (inverts s.q s.prime s.small)).interpolates hs l.different
      (All-weaker (λ i. (1 ≤ i) × (i ≤ s.n)) (λ i. i < s.q) (λ i b. omega (arith, b.1, s.above)) hs l.known) P short p)

  -- dealings
  module _ (d : Deal C) (cs : List C) (p : Proper G L s d cs) where
    enough : (s.t - 1) * (s.q - 1) ≤ length cs
    enough = omega (arith, p.count)

    pub credit_value : (h : ℕ) (P : Poly) (m : List C) → m ≡ (value O P (point h)).0 → credit G s h d cs m ≡ (value O (grown d cs P) (point h)).0
    credit_value h P m e = changed_value G L (s.q - 1) (direction d) m _ P _ (point h) e (poly_dealt G L (s.q - 1) (key_of G d) (s.t - 1) cs wide enough p.key p.valid h)

    length_signed : (c : Change) (D : Poly) → length (signed G L (s.q - 1) c D) ≡ length D
    length_signed Add D = refl
    length_signed Subtract D = length-map D O.neg

    pub grown_short : (P : Poly) → length P ≤ s.t → length (grown d cs P) ≤ s.t
    grown_short P l =
        let D = poly_of G L (s.q - 1) (key_of G d) (s.t - 1) cs in
        let a : length D ≡ suc (length (rows (s.q - 1) (s.t - 1) cs)) = length-map (embedded G (s.q - 1) (key_of G d) ∷ rows (s.q - 1) (s.t - 1) cs) (lift G L (s.q - 1)) in
        length_join (tuple_sums G L (s.q - 1)) s.t P (signed G L (s.q - 1) (direction d) D) l (omega (arith, length_signed (direction d) D, a, length_rows (s.q - 1) (s.t - 1) cs, s.allowed))

    pub worth : (P : Poly) (a : C) → Worth P a → Worth (grown d cs P) (added G d cs a)
    worth P a u =
        let w : ℕ = s.q - 1 in
        let e : List C = embedded G w (key_of G d) in
        let D = poly_of G L w (key_of G d) (s.t - 1) cs in
        let first_of : (value O D nought).0 ≡ e = ap (λ (m : Tuple G w). m.0) ((tuple_sums G L w).add_nil (lift G L w e)) ∙ lift_ok G L w e (embedded_ok G L w (key_of G d) wide p.key) in
        record {
          first = sym (changed_value G L w (direction d) (embedded G w a) e P D nought (sym u.first) (sym first_of)) ∙ embedded_changed G L w d cs a u.good;
          good = added_valid G L w d cs a u.good p.key;
        }

    -- what the holders are dealt
    abbrev share_for : ℕ → List C
    share_for i = dealt G (s.q - 1) i (key_of G d) (s.t - 1) cs

    abbrev dealt_rows : State C → List (List C)
    dealt_rows st = shared_out G (direction d) share_for 1 st.ledger.holders (rows (s.q - 1) s.n st.shares)

    rows_are_ok : (st : State C) → Sound G L s st → AllByRecursion (λ r. T (ok G (s.q - 1) r)) (dealt_rows st)
    rows_are_ok st o = shared_ok G L (s.q - 1) (direction d) share_for (λ i. dealt_ok G L (s.q - 1) i (s.t - 1) (key_of G d) cs wide enough p.key p.valid) 1 st.ledger.holders _
        (rows_ok G L (s.q - 1) s.n st.shares (omega (arith, o.size)) o.valid)

    all_rows : (st : State C) → length (dealt_rows st) ≡ s.n
    all_rows st = length_shared G (direction d) share_for 1 st.ledger.holders _ ∙ length_rows (s.q - 1) s.n st.shares

    dealt_row : (st : State C) → Sound G L s st → (i : ℕ) → i < s.n
        → row_at (s.q - 1) i (flat (dealt_rows st)) ≡ credited G (direction d) (there st.ledger.holders i) (share_for (i + 1)) (row_at (s.q - 1) i st.shares)
    dealt_row st o i l =
        row_flat G (s.q - 1) (dealt_rows st) (rows_are_ok st o) i (omega (arith, all_rows st))
        ∙ shared_at G (direction d) share_for 1 i st.ledger.holders (rows (s.q - 1) s.n st.shares) [] (omega (arith, length_rows (s.q - 1) s.n st.shares))
        ∙ ap (credited G (direction d) (there st.ledger.holders i) (share_for (i + 1))) (get_or_rows (s.q - 1) s.n i st.shares [] l)

    pub deals_on : (st : State C) (P : Poly) → Shared st P → Shared (accepted G s st [] (dealing d cs)).state (grown d cs P)
    deals_on st P j = record {
      sound = record {
        size = flat_long G (s.q - 1) (dealt_rows st) (rows_are_ok st j.sound) ∙ ap (λ (n : ℕ). n * (s.q - 1)) (all_rows st);
        valid = flat_valid G (s.q - 1) (dealt_rows st) (rows_are_ok st j.sound);
        table = j.sound.table;
      };
      short = grown_short P j.short;
      each = λ i l. dealt_row st j.sound i l ∙ go i (there st.ledger.holders i) (row_at (s.q - 1) i st.shares) (j.each i l);
    }
      where
        go : (i : ℕ) (b : Bool) (r : List C) → r ≡ cond b (value O P (point (suc i))).0 (tuple_zero G (s.q - 1))
            → credited G (direction d) b (share_for (i + 1)) r ≡ cond b (value O (grown d cs P) (point (suc i))).0 (tuple_zero G (s.q - 1))
        go i true r e = let k : i + 1 ≡ suc i = omega arith in ap (λ n. changed G (direction d) r (share_for n)) k ∙ credit_value (suc i) P r e
        go i false r e = e

  -- a holder's share put in place: of a revoked one zeros, of a repaired one the value
  puts : (st : State C) (P : Poly) → Shared st P → (h : ℕ) → (1 ≤ h) × (h ≤ s.n) → (b : Bool) (ys : List C) → T (ok G (s.q - 1) ys)
      → ys ≡ cond b (value O P (point h)).0 (tuple_zero G (s.q - 1))
      → Shared (record { ledger = with_holder h b st.ledger; shares = put_row (s.q - 1) (h - 1) ys st.shares }) P
  puts st P j h k b ys o e = record {
    sound = record {
      size = length_put (s.q - 1) s.n (h - 1) ys st.shares low (ok_length G (s.q - 1) ys o) j.sound.size;
      valid = put_valid G (s.q - 1) (h - 1) ys st.shares (ok_valid G (s.q - 1) ys o) j.sound.valid;
      table = length-set st.ledger.holders (h - 1) _ ∙ j.sound.table;
    };
    short = j.short;
    each = λ i l. go i l (cases_eq i (h - 1));
  }
    where
      low : h - 1 < s.n
      low = omega (arith, k.0, k.1)

      inside : h - 1 < length st.ledger.holders
      inside = omega (arith, k.0, k.1, s.allowed, j.sound.table)

      here : RowIs (set st.ledger.holders (h - 1) (holder b st.ledger.epoch)) (put_row (s.q - 1) (h - 1) ys st.shares) P (h - 1)
      here =
          let n : h ≡ suc (h - 1) = omega (arith, k.0) in
          row_put_same (s.q - 1) s.n (h - 1) ys st.shares low (ok_length G (s.q - 1) ys o) j.sound.size ∙ e
          ∙ ap (λ i. cond b (value O P (point i)).0 (tuple_zero G (s.q - 1))) n
          ∙ ap (λ (x : Holder). cond x.present (value O P (point (suc (h - 1)))).0 (tuple_zero G (s.q - 1))) (sym (get_or-set_same st.ledger.holders (h - 1) (holder b st.ledger.epoch) (holder false 0) inside))

      go : (i : ℕ) → i < s.n → (i ≡ h - 1) ⊎ (i ≡ h - 1 → ⊥) → RowIs (set st.ledger.holders (h - 1) (holder b st.ledger.epoch)) (put_row (s.q - 1) (h - 1) ys st.shares) P i
      go i l (inl f) = subst (RowIs (set st.ledger.holders (h - 1) (holder b st.ledger.epoch)) (put_row (s.q - 1) (h - 1) ys st.shares) P) (sym f) here
      go i l (inr f) =
          row_put_other (s.q - 1) s.n i (h - 1) ys st.shares l low f (ok_length G (s.q - 1) ys o) j.sound.size ∙ j.each i l
          ∙ ap (λ (x : Holder). cond x.present (value O P (point (suc i))).0 (tuple_zero G (s.q - 1))) (sym (get_or-set_other st.ledger.holders (h - 1) i (holder b st.ledger.epoch) (holder false 0) f))

  keep_by : (v : Option CabinetFault) (st : State C) (w : List C) (c : Call C) (P : Poly) → public_fault G s st.ledger (length w) c ≡ v → Shared st P
      → Shared (decided G s v st w (accepted G s st w c)).state (counted grown (decided G s v st w (accepted G s st w c)).state.ledger.epoch c (decided G s v st w (accepted G s st w c)).answer P)
  keep_by (Some g) st w c P e j = subst (Shared st) (sym (refused_counts grown st.ledger.epoch c g P)) j
  keep_by None st w (dealing d cs) P e j =
      subst (Shared (accepted G s st w (dealing d cs)).state) (sym (cond-true _ _ _ (le-leb (st.ledger.epoch + 1) (st.ledger.epoch + 1) (omega arith))))
      (deals_on d cs (proper G L s st.ledger.epoch d cs (deal_none G L s st.ledger (length w) d cs e)) st P j)
  keep_by None st w (revoking h) P e j = puts st P j h (revoke_none G L s st.ledger (length w) h e) false (tuple_zero G (s.q - 1)) (zero_ok G L (s.q - 1)) refl
  keep_by None st w (repairing h hs) P e j =
      let r = repair_none G L s st.ledger (length w) h hs e in
      puts st P j h r.0 true (tuple_at G s.q hs h st.shares) (tuple_at_ok G L s.q two hs h s.n st.shares j.sound.size r.1.known j.sound.valid) (helped st P j hs r.1 h)
  keep_by None st w (opening hs) P e j = j

  -- the step of a sound state, by the public rows
  pub keep : (st : State C) (x : Request C) (P : Poly) → Shared st P
      → Shared (outcome G s st x).state (counted grown (outcome G s st x).state.ledger.epoch x.call (outcome G s st x).answer P)
  keep st x P j = keep_by (fault G s st (length x.working) x.call) st x.working x.call P (sym (sound_fault G L s st j.sound (length x.working) x.call)) j

  pub start_shared : Shared (made G s) []
  start_shared = record {
    sound = record {
      size = length-replicate (s.n * (s.q - 1)) G.zero;
      valid = zero_tuple_valid G L (s.n * (s.q - 1));
      table = refl;
    };
    short = omega arith;
    each = λ i l. row_replicate (s.q - 1) s.n i G.zero l ∙ sym (same (there fresh.holders i));
  }
    where
      same : (b : Bool) → cond b (tuple_zero G (s.q - 1)) (tuple_zero G (s.q - 1)) ≡ tuple_zero G (s.q - 1)
      same true = refl
      same false = refl

  pub start_worth : Worth [] G.zero
  start_worth = record { first = zeros (s.q - 1) wide; good = L.zero_valid }
    where
      zeros : (w : ℕ) → 0 < w → tuple_zero G w ≡ embedded G w G.zero
      zeros zero l = absurd (omega arith)
      zeros (suc w) l = let e : w ≡ suc w - 1 = omega arith in ap (λ n. G.zero ∷ tuple_zero G n) e

  -- the answer to a call, by the ledger and the total alone
  abbrev pub foretold_by : Option CabinetFault → Ledger → C → Call C → Answer C
  foretold_by (Some f) l a c = refused f
  foretold_by None l a (dealing d cs) = epoch_is (l.epoch + 1)
  foretold_by None l a (revoking h) = holder_is h
  foretold_by None l a (repairing h hs) = holder_is h
  foretold_by None l a (opening hs) = key_is a

  pub foretells : (v : Option CabinetFault) (st : State C) (w : List C) (c : Call C) (P : Poly) (a : C) → public_fault G s st.ledger (length w) c ≡ v → Shared st P → Worth P a
      → (decided G s v st w (accepted G s st w c)).answer ≡ foretold_by v st.ledger a c
  foretells (Some f) st w c P a e j u = refl
  foretells None st w (dealing d cs) P a e j u = refl
  foretells None st w (revoking h) P a e j u = refl
  foretells None st w (repairing h hs) P a e j u = refl
  foretells None st w (opening hs) P a e j u =
      ap (told G) (helped st P j hs (open_none G L s st.ledger (length w) hs e) 0 ∙ u.first) ∙ told_key G L (s.q - 1) a
