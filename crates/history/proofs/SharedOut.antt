-- The share memory, row by row, as the shares that are present are changed by what is dealt.
use Rattle.std.proofs.Common.{◌≡◌, ℕ, zero, suc, ◌+◌, ◌-◌, ◌*◌, ◌<◌, ◌≤◌, Bool, true, false, ◌&&◌, T, List, [], ◌∷◌, ◌++◌, length, get_or, take, drop, set, sym, refl, ap, ◌∙◌, subst, ap₂, le_of_suc-le-suc, not-suc-le-zero, zero-add, arith}
use Rattle.std.proofs.lemmas.List.{length-take-le, length-drop, get_or_default}
use Rattle.std.proofs.lemmas.Bool.{lt-ltb, le-leb}
use Rattle.algebra.specs.Group.{GroupOps, GroupLaws}
use Rattle.algebra.specs.Tuples.{all_valid, tuple_minus}
use Rattle.algebra.specs.Valid.{append_valid, plus_tuple_valid, minus_tuple_valid, length_plus, length_minus}
use Rattle.algebra.specs.Rows.{rows, row_at, put_row, flat}
use Rattle.algebra.proofs.Places.{take_step, drop_step, take_end, read_left}
use Rattle.algebra.proofs.RowLists.{take_valid, drop_valid, part_valid, length_rows, get_or_rows, row_end, rows_put, flat_rows, put_own}
use Rattle.sharing.specs.declared.shares.Change.{Change}
use Rattle.sharing.specs.declared.shares.Change.TheVariants.{Add, Subtract}
use Rattle.sharing.specs.Shares.{changed}
use Rattle.history.specs.declared.ledger.Holder.{Holder}
use Rattle.history.specs.Ledgers.{holder, is_present}
use Rattle.history.specs.Steps.{credited, shared_out}

-- of the numbers of holders
pub present_at : (hs : List Holder) (h : ℕ) → 1 ≤ h → h ≤ 30 → is_present hs h ≡ (get_or hs (h - 1) (holder false 0)).present
present_at hs h low high = ap₂ (λ (a b : Bool). a && (b && (get_or hs (h - 1) (holder false 0)).present)) (lt-ltb 0 h low) (le-leb h 30 high)

module _ {C : Type 0} (G : GroupOps C) where
  length_changed : (d : Change) (ys r : List C) → length ys ≡ length r → length (changed G d r ys) ≡ length r
  length_changed Add ys r e = length_plus G r ys e
  length_changed Subtract ys r e = length_plus G r (tuple_minus G ys) (length_minus G ys ∙ e)

  length_credited : (d : Change) (b : Bool) (ys r : List C) → length ys ≡ length r → length (credited G d b ys r) ≡ length r
  length_credited d true ys r e = length_changed d ys r e
  length_credited d false ys r e = refl

  -- a row of valid elements put into valid memory
  pub put_valid : (w h : ℕ) (ys xs : List C) → T (all_valid G ys) → T (all_valid G xs) → T (all_valid G (put_row w h ys xs))
  put_valid w h ys xs p q =
      append_valid G (take (h * w) xs) (ys ++ drop (h * w + w) xs) (take_valid G (h * w) xs q)
      (append_valid G ys (drop (h * w + w) xs) p (drop_valid G (h * w + w) xs q))

  module _ (d : Change) (f : ℕ → List C) where
    pub length_shared : (i : ℕ) (hs : List Holder) (rs : List (List C)) → length (shared_out G d f i hs rs) ≡ length rs
    length_shared i hs [] = refl
    length_shared i [] (r ∷ rs) = refl
    length_shared i (h ∷ hs) (r ∷ rs) = ap suc (length_shared (i + 1) hs rs)

    pub shared_at : (i k : ℕ) (hs : List Holder) (rs : List (List C)) (x : List C) → k < length rs
        → get_or (shared_out G d f i hs rs) k x ≡ credited G d (get_or hs k (holder false 0)).present (f (k + i)) (get_or rs k x)
    shared_at i k hs [] x l = absurd (not-suc-le-zero l)
    shared_at i k [] (r ∷ rs) x l = refl
    shared_at i zero (h ∷ hs) (r ∷ rs) x l = ap (λ (j : ℕ). credited G d h.present (f j) r) (sym (zero-add i))
    shared_at i (suc k) (h ∷ hs) (r ∷ rs) x l =
        let e : k + (i + 1) ≡ suc k + i = omega arith in
        shared_at (i + 1) k hs rs x (le_of_suc-le-suc l)
        ∙ ap (λ (j : ℕ). credited G d (get_or hs k (holder false 0)).present (f j) (get_or rs k x)) e

module _ {C : Type 0} (G : GroupOps C) (L : GroupLaws G) (d : Change) where
  changed_valid : (e : Change) (ys r : List C) → T (all_valid G ys) → T (all_valid G r) → T (all_valid G (changed G e r ys))
  changed_valid Add ys r p q = plus_tuple_valid G L r ys q p
  changed_valid Subtract ys r p q = plus_tuple_valid G L r (tuple_minus G ys) q (minus_tuple_valid G L ys p)

  credited_valid : (b : Bool) (ys r : List C) → T (all_valid G ys) → T (all_valid G r) → T (all_valid G (credited G d b ys r))
  credited_valid true ys r p q = changed_valid d ys r p q
  credited_valid false ys r p q = q

  -- a holder that is not present keeps its row
  pub row_kept : (w h : ℕ) (xs ys : List C) (b : Bool) → b ≡ false → xs ≡ put_row w h (credited G d b ys (row_at w h xs)) xs
  row_kept w h xs ys b t = sym (put_own w h xs) ∙ ap (λ (z : Bool). put_row w h (credited G d z ys (row_at w h xs)) xs) (sym t)

  pub row_credited : (w h : ℕ) (xs ys : List C) (b : Bool) → b ≡ true → put_row w h (changed G d (row_at w h xs) ys) xs ≡ put_row w h (credited G d b ys (row_at w h xs)) xs
  row_credited w h xs ys b t = ap (λ (z : Bool). put_row w h (credited G d z ys (row_at w h xs)) xs) (sym t)

  module _ (f : ℕ → List C) (w n : ℕ) (hs : List Holder) where
    -- the first h holders are dealt to, and the others are as they were
    abbrev pub Shared : List C → ℕ → List C → Type 0
    Shared xs₀ h xs =
        (take h (rows w n xs) ≡ take h (shared_out G d f 1 hs (rows w n xs₀))) × (drop h (rows w n xs) ≡ drop h (rows w n xs₀)) × T (all_valid G xs)

    pub share_step : ((i : ℕ) → length (f i) ≡ w) → ((i : ℕ) → T (all_valid G (f i)))
        → (xs₀ xs after : List C) (h : ℕ) (b : Bool) → h < n → length xs ≡ n * w → b ≡ (get_or hs h (holder false 0)).present
        → (T (all_valid G xs) → after ≡ put_row w h (credited G d b (f (h + 1)) (row_at w h xs)) xs)
        → Shared xs₀ h xs → Shared xs₀ (h + 1) after
    share_step lf pf xs₀ xs after h b l n-w be en inv =
        let rs : List (List C) = rows w n xs in
        let rs₀ : List (List C) = rows w n xs₀ in
        let R : List (List C) = shared_out G d f 1 hs rs₀ in
        let x : List C = row_at w h xs in
        let v : List C = credited G d b (f (h + 1)) x in
        let e : after ≡ put_row w h v xs = en inv.2 in
        let re : h * w + w ≤ n * w = row_end h n w l in
        let lw : w ≤ length (drop (h * w) xs) = omega (arith, length-drop (h * w) xs) in
        let lx : length x ≡ w = length-take-le w (drop (h * w) xs) lw in
        let lv : length v ≡ w = length_credited G d b (f (h + 1)) x (lf (h + 1) ∙ sym lx) ∙ lx in
        let le : n * w ≤ length xs = omega arith in
        let written : rows w n after ≡ set rs h v = ap (rows w n) e ∙ rows_put w n h v xs l lv le in
        let hx : h < length rs = omega (arith, length_rows w n xs) in
        let h0 : h < length rs₀ = omega (arith, length_rows w n xs₀) in
        let hr : h < length R = omega (arith, length_shared G d f 1 hs rs₀) in
        let old : x ≡ get_or rs₀ h x = read_left rs rs₀ h x inv.1 (sym (get_or_rows w n h xs x l)) in
        let new : v ≡ get_or R h v =
        ap (credited G d b (f (h + 1))) old ∙ ap (λ (z : Bool). credited G d z (f (h + 1)) (get_or rs₀ h x)) be
        ∙ sym (shared_at G d f 1 h hs rs₀ x h0) ∙ get_or_default R h x v hr in (
          ap (take (h + 1)) written ∙ take_step rs R h v hx hr inv.0 new,
          ap (drop (h + 1)) written ∙ drop_step rs rs₀ h v inv.1,
          subst (λ (z : List C). T (all_valid G z)) (sym e)
              (put_valid G w h v xs (credited_valid b (f (h + 1)) x (pf (h + 1)) (part_valid G w (h * w) xs inv.2)) inv.2),
        )

    pub share_end : (xs₀ xs : List C) (h : ℕ) → n ≤ h → length xs ≡ n * w → Shared xs₀ h xs → xs ≡ flat (shared_out G d f 1 hs (rows w n xs₀))
    share_end xs₀ xs h l n-w inv =
        let R : List (List C) = shared_out G d f 1 hs (rows w n xs₀) in
        let a : length (rows w n xs) ≤ h = omega (arith, length_rows w n xs) in
        let b : length R ≤ h = omega (arith, length_shared G d f 1 hs (rows w n xs₀), length_rows w n xs₀) in
        sym (flat_rows w n xs n-w) ∙ ap flat (take_end (rows w n xs) R h a b inv.0)
