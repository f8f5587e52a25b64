-- The valid tuples of q - 1 elements are a module in which the first q powers of x sum to zero.
use Rattle.std.proofs.Common.{◌≡◌, ℕ, zero, suc, ◌+◌, ◌-◌, ◌≤◌, T, List, [], ◌∷◌, ◌++◌, length, replicate, sym, refl, ap, ◌∙◌, subst, ap₂, le_of_suc-le-suc, not-suc-le-zero, zero-add, add-one, arith, length-append}
use mathlib.Core.HLevel.{Σ_prop_path}
use lib.Dec.{T_prop}
use lib.ListN.{length-replicate}
use Rattle.std.proofs.lemmas.List.{append_assoc, append-nil, replicate_more}
use Rattle.algebra.specs.Group.{GroupOps, GroupLaws}
use Rattle.algebra.specs.Module.{ModuleLaws, first_powers}
use Rattle.algebra.specs.Tuples.{all_valid, tuple_zero, tuple_plus, tuple_minus, times_x, ok, list_ops}
use Rattle.algebra.specs.Valid.{cons_valid, head_valid, tail_valid, append_valid, zero_tuple_valid}
use Rattle.algebra.specs.Space.{Tuple, tuple_ops, ok_length, ok_valid, ok_of}
use Rattle.algebra.proofs.TupleSums.{tuple_comm, tuple_assoc, tuple_plus_zero, tuple_plus_minus, times_x_plus, times_x_push, times_x_same}
use Rattle.algebra.specs.Scalars.{Scalar, nought, one, root, plus, times, minus, act, point}
use Rattle.algebra.proofs.Actions.{act_add, act_nil, act_comm}
use Rattle.algebra.proofs.Points.{point_first_powers}

pub same_tuple : {C : Type 0} (G : GroupOps C) (n : ℕ) (a b : Tuple G n) → a.0 ≡ b.0 → a ≡ b
same_tuple G n a b e = Σ_prop_path (λ l. T_prop (ok G n l)) e

module _ {C : Type 0} (G : GroupOps C) (L : GroupLaws G) where
  pub zero_tuple_plus : (xs : List C) → T (all_valid G xs) → tuple_plus G (tuple_zero G (length xs)) xs ≡ xs
  zero_tuple_plus xs h = tuple_comm G L (tuple_zero G (length xs)) xs (zero_tuple_valid G L (length xs)) h ∙ tuple_plus_zero G L xs h

  -- one zero less at the end, and c at the front
  front : (c : C) (xs : List C) (j p : ℕ) → length xs + j ≡ p → T (G.valid c) → T (all_valid G xs) → tuple_plus G (c ∷ tuple_zero G p) (times_x G (xs ++ tuple_zero G (suc j))) ≡ c ∷ (xs ++ tuple_zero G j)
  front c xs j p e h k =
      let ys : List C = xs ++ tuple_zero G j in
      let zs : List C = G.zero ∷ [] in
      let ly : T (all_valid G ys) = append_valid G xs (tuple_zero G j) k (zero_tuple_valid G L j) in
      let n : length ys ≡ p = length-append xs (tuple_zero G j) ∙ ap (λ (i : ℕ). length xs + i) (length-replicate j G.zero) ∙ e in
      let w : xs ++ tuple_zero G (suc j) ≡ ys ++ zs =
      ap (λ (l : List C). xs ++ l) (sym (ap (tuple_zero G) (add-one j)) ∙ sym (replicate_more j G.zero)) ∙ sym (append_assoc xs (tuple_zero G j) zs) in
      ap (λ (l : List C). tuple_plus G (c ∷ tuple_zero G p) (times_x G l)) w
      ∙ ap (tuple_plus G (c ∷ tuple_zero G p)) (times_x_push G L ys ly)
      ∙ ap (λ (a : C). a ∷ tuple_plus G (tuple_zero G p) ys) (L.plus_zero c h)
      ∙ ap (λ (l : List C). c ∷ l) (ap (λ (i : ℕ). tuple_plus G (tuple_zero G i) ys) (sym n) ∙ zero_tuple_plus ys ly)

  -- a(k) times (c, 0, …, 0) is c at the first k places
  unit_point : (c : C) (p k j : ℕ) → k + j ≡ suc p → T (G.valid c) → act (list_ops G (suc p)) (point k) (c ∷ tuple_zero G p) ≡ replicate k c ++ tuple_zero G j
  unit_point c p zero j e h = ap (tuple_zero G) (sym e ∙ zero-add j)
  unit_point c p (suc k) j e h =
      let e1 : k + suc j ≡ suc p = omega arith in
      let e2 : length (replicate k c) + j ≡ p = simp length-replicate (omega arith) in
      ap (λ (l : List C). tuple_plus G (c ∷ tuple_zero G p) (times_x G l)) (unit_point c p k (suc j) e1 h)
      ∙ front c (replicate k c) j p e2 h (same_valid k)
    where
      same_valid : (i : ℕ) → T (all_valid G (replicate i c))
      same_valid zero = tt
      same_valid (suc i) = cons_valid G c (replicate i c) h (same_valid i)

  pub unit_cycle : (c : C) (p : ℕ) → T (G.valid c) → act (list_ops G (suc p)) (point (suc (suc p))) (c ∷ tuple_zero G p) ≡ tuple_zero G (suc p)
  unit_cycle c p h =
      let e : suc p + 0 ≡ suc p = omega arith in
      let z : List C = tuple_zero G p in
      let n : length z ≡ p = length-replicate p G.zero in
      ap (λ (l : List C). tuple_plus G (c ∷ z) (times_x G l)) (unit_point c p (suc p) 0 e h ∙ append-nil (replicate (suc p) c))
      ∙ ap (tuple_plus G (c ∷ z)) (times_x_same G L c p h)
      ∙ ap (λ (a : C). a ∷ tuple_plus G z z) (L.plus_minus c h)
      ∙ ap (λ (l : List C). G.zero ∷ l) (ap (λ (i : ℕ). tuple_plus G (tuple_zero G i) z) (sym n) ∙ zero_tuple_plus z (zero_tuple_valid G L p))

  -- all the laws of a module but the cycle, which at 0 says nothing
  pub tuple_sums : (n : ℕ) → ModuleLaws (tuple_ops G L n) 0
  tuple_sums n = record {
    add_comm = λ a b. same_tuple G n _ _ (tuple_comm G L a.0 b.0 (ok_valid G n a.0 a.1) (ok_valid G n b.0 b.1));
    add_assoc = λ a b c. same_tuple G n _ _ (tuple_assoc G L a.0 b.0 c.0 (ok_valid G n a.0 a.1) (ok_valid G n b.0 b.1) (ok_valid G n c.0 c.1));
    add_nil = λ a. same_tuple G n _ _ (ap (λ (k : ℕ). tuple_plus G a.0 (tuple_zero G k)) (sym (ok_length G n a.0 a.1)) ∙ tuple_plus_zero G L a.0 (ok_valid G n a.0 a.1));
    add_neg = λ a. same_tuple G n _ _ (tuple_plus_minus G L a.0 (ok_valid G n a.0 a.1) ∙ ap (tuple_zero G) (ok_length G n a.0 a.1));
    shift_add = λ a b. same_tuple G n _ _ (times_x_plus G L a.0 b.0 (ok_length G n a.0 a.1 ∙ sym (ok_length G n b.0 b.1)) (ok_valid G n a.0 a.1) (ok_valid G n b.0 b.1));
    cycle = λ m. refl;
  }

  -- a scalar acts on a tuple as it acts on its list
  pub act_list : (n : ℕ) (s : Scalar) (m : Tuple G n) → (act (tuple_ops G L n) s m).0 ≡ act (list_ops G n) s m.0
  act_list n nought m = refl
  act_list n one m = refl
  act_list n root m = refl
  act_list n (plus s t) m = ap₂ (tuple_plus G) (act_list n s m) (act_list n t m)
  act_list n (times s t) m = act_list n s (act (tuple_ops G L n) t m) ∙ ap (act (list_ops G n) s) (act_list n t m)
  act_list n (minus s) m = ap (tuple_minus G) (act_list n s m)

  module _ (p : ℕ) where
    padded : (l : List C) (r : ℕ) → T (all_valid G l) → length l + r ≡ suc p → Tuple G (suc p)
    padded l r h e = (
      l ++ tuple_zero G r,
      ok_of G (suc p) (l ++ tuple_zero G r) (length-append l (tuple_zero G r) ∙ ap (λ (i : ℕ). length l + i) (length-replicate r G.zero) ∙ e) (append_valid G l (tuple_zero G r) h (zero_tuple_valid G L r)),
    )

    unit : (c : C) → T (G.valid c) → Tuple G (suc p)
    unit c h = (
      c ∷ tuple_zero G p,
      ok_of G (suc p) (c ∷ tuple_zero G p) (ap suc (length-replicate p G.zero)) (cons_valid G c (tuple_zero G p) h (zero_tuple_valid G L p)),
    )

    padded_cycle : (l : List C) (r : ℕ) (h : T (all_valid G l)) (e : length l + r ≡ suc p) → act (tuple_ops G L (suc p)) (point (suc (suc p))) (padded l r h e) ≡ (tuple_ops G L (suc p)).nil
    unfolding padded unit
    padded_cycle [] r h e =
        let O = tuple_ops G L (suc p) in
        let z : Scalar = point (suc (suc p)) in
        ap (act O z) (same_tuple G (suc p) (padded [] r h e) O.nil (ap (tuple_zero G) (sym (zero-add r) ∙ e))) ∙ act_nil (tuple_sums (suc p)) z
    padded_cycle (x ∷ l) r h e =
        let O = tuple_ops G L (suc p) in
        let A = tuple_sums (suc p) in
        let z : Scalar = point (suc (suc p)) in
        let hx : T (G.valid x) = head_valid G x l h in
        let hl : T (all_valid G l) = tail_valid G x l h in
        let e1 : length l + suc r ≡ suc p = omega arith in
        let e2 : length l + r ≡ p = omega arith in
        let u = unit x hx in
        let m = padded l (suc r) hl e1 in
        let split : padded (x ∷ l) r h e ≡ O.add u (O.shift m) = same_tuple G (suc p) (padded (x ∷ l) r h e) (O.add u (O.shift m)) (sym (front x l r p e2 hx hl)) in
        let cu : act O z u ≡ O.nil = same_tuple G (suc p) (act O z u) O.nil (act_list (suc p) z u ∙ unit_cycle x p hx) in
        let cm : act O z (O.shift m) ≡ O.nil = act_comm A z root m ∙ ap O.shift (padded_cycle l (suc r) hl e1) ∙ act_nil A root in
        ap (act O z) split ∙ act_add A z u (O.shift m) ∙ ap₂ O.add cu cm ∙ A.add_nil O.nil

    pub tuple_cycle : (m : Tuple G (suc p)) → first_powers (tuple_ops G L (suc p)) (suc (suc p)) m ≡ (tuple_ops G L (suc p)).nil
    unfolding padded
    tuple_cycle m =
        let O = tuple_ops G L (suc p) in
        let n : length m.0 ≡ suc p = ok_length G (suc p) m.0 m.1 in
        let e : length m.0 + 0 ≡ suc p = omega arith in
        let h = ok_valid G (suc p) m.0 m.1 in
        sym (point_first_powers (tuple_sums (suc p)) (suc (suc p)) m)
        ∙ ap (act O (point (suc (suc p)))) (same_tuple G (suc p) m (padded m.0 0 h e) (sym (append-nil m.0))) ∙ padded_cycle m.0 0 h e

    pub tuple_laws_at : ModuleLaws (tuple_ops G L (suc p)) (suc (suc p))
    tuple_laws_at =
        let A = tuple_sums (suc p) in
        record { add_comm = A.add_comm; add_assoc = A.add_assoc; add_nil = A.add_nil; add_neg = A.add_neg; shift_add = A.shift_add; cycle = tuple_cycle }

  pub tuple_laws : (q : ℕ) → 2 ≤ q → ModuleLaws (tuple_ops G L (q - 1)) q
  tuple_laws zero h = absurd (not-suc-le-zero h)
  tuple_laws (suc zero) h = absurd (not-suc-le-zero (le_of_suc-le-suc h))
  tuple_laws (suc (suc p)) h =
      let e : suc p ≡ suc (suc p) - 1 = omega arith in
      subst (λ (n : ℕ). ModuleLaws (tuple_ops G L n) (suc (suc p))) e (tuple_laws_at p)
