-- What a holder is dealt, from the last coefficient to the first.
use Rattle.std.proofs.Common.{◌≡◌, ℕ, suc, ◌+◌, ◌*◌, ◌%◌, ◌<◌, T, List, [], ◌∷◌, ◌++◌, length, sym, ap, ◌∙◌, ap₂, subst, inl, inr, suc-mul, arith}
use Rattle.std.proofs.Math.Nat.{add-mod_right, mul-mod_left}
use Rattle.std.proofs.lemmas.Bool.{cases_lt}
use Rattle.std.proofs.lemmas.List.{append_assoc, length-append, take_at, drop_at, take_all, nil_from_length}
use Rattle.algebra.specs.Group.{GroupOps, GroupLaws}
use Rattle.algebra.specs.Tuples.{all_valid, tuple_plus, list_ops}
use Rattle.algebra.specs.Valid.{head_valid, tail_valid, cons_valid, plus_tuple_valid}
use Rattle.algebra.specs.Space.{ok_of}
use Rattle.algebra.specs.Scalars.{act, point}
use Rattle.algebra.specs.Sharing.{value}
use Rattle.algebra.specs.Rows.{rows}
use Rattle.algebra.specs.Dealing.{embedded, dealt}
use Rattle.algebra.proofs.RowLists.{row_end}
use Rattle.algebra.proofs.Dealings.{value_one, dealt_value}
use Rattle.sharing.proofs.Acting.{as_valid, act_valid}

module _ {C : Type 0} (G : GroupOps C) (w i : ℕ) where
  -- the value at the point i of k rows of coefficients
  abbrev pub value_of : ℕ → List C → List C
  value_of k cs = value (list_ops G w) (rows w k cs) (point i)

  -- `out` is the value of the rows that are done, the last k
  pub record Dealt (cs rest out : List C) : Type 0 where
    pub done : List C
    pub k : ℕ
    pub all : cs ≡ rest ++ done
    pub count : length done ≡ k * w
    pub same : T (all_valid G cs) → (out ≡ value_of k done) × T (all_valid G out)

module _ {C : Type 0} (G : GroupOps C) (L : GroupLaws G) where
  front_valid : (xs ys : List C) → T (all_valid G (xs ++ ys)) → T (all_valid G xs)
  front_valid [] ys h = tt
  front_valid (x ∷ xs) ys h = cons_valid G x xs (head_valid G x (xs ++ ys) h) (front_valid xs ys (tail_valid G x (xs ++ ys) h))

  back_valid : (xs ys : List C) → T (all_valid G (xs ++ ys)) → T (all_valid G ys)
  back_valid [] ys h = h
  back_valid (x ∷ xs) ys h = back_valid xs ys (tail_valid G x (xs ++ ys) h)

  module _ (w i : ℕ) where
    -- the last row alone; those ahead are whole rows, so nothing stands before them
    pub deal_starts : (n : ℕ) (cs ahead last before rest out : List C) → cs ≡ ahead ++ last → length last ≡ w → length cs ≡ n * w
        → ahead ≡ before ++ rest → length before ≡ length ahead % w → out ≡ last → Dealt G w i cs rest out
    deal_starts n cs ahead last before rest out parts long full ahead_parts over e =
        let split : length ahead + w ≡ n * w = omega (arith, ap length parts, length-append ahead last) in
        let whole : length ahead % w ≡ 0 = sym (add-mod_right (length ahead) w) ∙ ap (λ k. k % w) split ∙ mul-mod_left n w in
        let none : before ≡ [] = nil_from_length before (over ∙ whole) in
        record {
          done = last;
          k = 1;
          all = parts ∙ ap (λ z. z ++ last) (ahead_parts ∙ ap (λ z. z ++ rest) none);
          count = omega arith;
          same = λ v.
              let vl : T (all_valid G last) = back_valid ahead last (subst (λ z. T (all_valid G z)) parts v) in (
                e ∙ sym (value_one G L w last (ok_of G w last long vl) (point i)) ∙ ap (λ r. value (list_ops G w) (r ∷ []) (point i)) (sym (take_all w last (omega arith))),
                as_valid G L out last e vl,
              );
        }

    pub deal_goes_on : (cs rest ahead row out copied after : List C) → rest ≡ ahead ++ row → length row ≡ w → length out ≡ w → copied ≡ row
        → (T (all_valid G out) → T (all_valid G copied) → after ≡ tuple_plus G copied (act (list_ops G w) (point i) out))
        → Dealt G w i cs rest out → Dealt G w i cs ahead after
    deal_goes_on cs rest ahead row out copied after r lr lo c e d =
        let all : cs ≡ ahead ++ (row ++ d.done) = d.all ∙ ap (λ z. z ++ d.done) r ∙ append_assoc ahead row d.done in
        record {
          done = row ++ d.done;
          k = suc d.k;
          all = all;
          count = omega (arith, length-append row d.done, lr, d.count, suc-mul d.k w);
          same = λ v.
              let vr : T (all_valid G row) = front_valid row d.done (back_valid ahead (row ++ d.done) (subst (λ z. T (all_valid G z)) all v)) in
              let inv = d.same v in
              let t : after ≡ tuple_plus G row (act (list_ops G w) (point i) out) = e inv.1 (as_valid G L copied row c vr) ∙ ap (λ a. tuple_plus G a (act (list_ops G w) (point i) out)) c in
              let rs : rows w (suc d.k) (row ++ d.done) ≡ row ∷ rows w d.k d.done = ap₂ (λ a b. a ∷ rows w d.k b) (take_at row d.done w lr) (drop_at row d.done w lr) in (
                t ∙ ap (λ a. tuple_plus G row (act (list_ops G w) (point i) a)) inv.0 ∙ sym (ap (λ z. value (list_ops G w) z (point i)) rs),
                as_valid G L after _ t (plus_tuple_valid G L row (act (list_ops G w) (point i) out) vr (act_valid G L w out lo inv.1 (point i))),
              );
        }

    -- where less than a row is left of n rows, all are done
    all_done : (n k a b : ℕ) → a + b ≡ n * w → b ≡ k * w → a < w → k ≡ n
    all_done n k a b e f l = elim (cases_lt k n) [
      | inl h ↦ absurd (omega (arith, row_end k n w h))
      | inr h ↦ elim (cases_lt n k) [ inl g ↦ absurd (omega (arith, row_end n k w g)) | inr g ↦ omega (arith, g) ]
    ]

    pub deal_ends : (n : ℕ) (key : C) (cs rest out : List C) → length rest < w → length cs ≡ n * w → Dealt G w i cs rest out
        → T (G.valid key) → T (all_valid G cs) → T (all_valid G out) × (tuple_plus G (embedded G w key) (act (list_ops G w) (point i) out) ≡ dealt G w i key n cs)
    deal_ends n key cs rest out none enough d vk v =
        let lengths : length rest + length d.done ≡ n * w = sym (length-append rest d.done) ∙ sym (ap length d.all) ∙ enough in
        let last : d.k ≡ n = all_done n d.k (length rest) (length d.done) lengths d.count none in
        let empty : rest ≡ [] = nil_from_length rest (omega (arith, lengths, d.count, ap (λ a. a * w) last)) in
        let whole : cs ≡ d.done = d.all ∙ ap (λ z. z ++ d.done) empty in (
          (d.same v).1,
          ap (λ a. tuple_plus G (embedded G w key) (act (list_ops G w) (point i) a)) ((d.same v).0 ∙ ap₂ (value_of G w i) last (sym whole))
              ∙ sym (dealt_value G L w i n key cs (omega (arith, none)) (omega (arith, enough)) vk v),
        )
