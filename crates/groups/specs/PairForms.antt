-- A pair is written as its first part and then its second.
use Rattle.std.specs.Prelude.{◌≡◌, ℕ, ◌+◌, ◌-◌, ◌≤◌, T, List, [], ◌++◌, length, take, drop, ◌≢◌, refl}
use Rattle.std.proofs.Common.{sym, ap, ◌∙◌, arith}
use borrow.Rule.Slice.PartMut.{put_mid, post_of}
use Rattle.std.proofs.lemmas.List.{append-nil, length-append, take-append-drop, take_at, drop_at, take_rest, drop_all, length-drop}
use Rattle.algebra.specs.Group.{GroupOps}
use Rattle.algebra.specs.Valid.{both_of, append_valid}
use Rattle.algebra.specs.Space.{ok_of, ok_length, ok_valid}
use Rattle.groups.specs.Blocks.{bytes}
use Rattle.groups.specs.Pairs.{pairs}
use Rattle.groups.specs.Forms.{Form, FormLaws, Wrote, ReadsAs, pair_form}
use Rattle.groups.specs.Couples.{left, right, couple}

pub long : {C : Type 0} (G : GroupOps C) (F : Form C) → FormLaws G F → (a : C) → T (G.valid a) → length (F.written a) ≡ F.width
long G F L a h = ok_length bytes F.width (F.written a) (L.written_bytes a h)

module _ {C D : Type 0} (G : GroupOps C) (H : GroupOps D) (F : Form C) (E : Form D) (L : FormLaws G F) (K : FormLaws H E) where
  abbrev Valid : C × D → Type 0
  Valid a = T ((pairs G H).valid a)

  abbrev both_parts : C × D → List ℕ
  both_parts a = F.written a.0 ++ E.written a.1

  front : (a : C × D) (xs : List ℕ) → Valid a → xs ≡ both_parts a → take F.width xs ≡ F.written a.0
  front a xs h e = ap (take F.width) e ∙ take_at (F.written a.0) (E.written a.1) F.width (long G F L a.0 (left G H a h))

  back : (a : C × D) (xs : List ℕ) → Valid a → xs ≡ both_parts a → drop F.width xs ≡ E.written a.1
  back a xs h e = ap (drop F.width) e ∙ drop_at (F.written a.0) (E.written a.1) F.width (long G F L a.0 (left G H a h))

  whole : (a : C × D) (xs : List ℕ) → Valid a → xs ≡ both_parts a → length xs ≡ F.width + E.width
  whole a xs h e =
      let p : length (F.written a.0) ≡ F.width = long G F L a.0 (left G H a h) in
      let q : length (E.written a.1) ≡ E.width = long H E K a.1 (right G H a h) in
      let r : length (both_parts a) ≡ length (F.written a.0) + length (E.written a.1) = length-append (F.written a.0) (E.written a.1) in
      ap length e ∙ omega arith

  pub pair_form_laws : (n m : ℕ) → (1 ≤ n) × (n ≤ 255) → F.width ≤ 16 → E.width ≤ 16 → FormLaws (pairs G H) (pair_form n m F E)
  pair_form_laws n m named p q = record {
    id_range = named;
    width_range = (omega (arith, L.width_range.0), omega arith);
    written_bytes = λ a h.
        ok_of bytes (F.width + E.width) (both_parts a) (whole a (both_parts a) h refl)
        (append_valid bytes (F.written a.0) (E.written a.1) (ok_valid bytes F.width (F.written a.0) (L.written_bytes a.0 (left G H a h)))
        (ok_valid bytes E.width (E.written a.1) (K.written_bytes a.1 (right G H a h))));
    written_once = λ a b h k e.
        couple a b (L.written_once a.0 b.0 (left G H a h) (left G H b k) (sym (front a (both_parts a) h refl) ∙ front b (both_parts a) k e))
        (K.written_once a.1 b.1 (right G H a h) (right G H b k) (sym (back a (both_parts a) h refl) ∙ back b (both_parts a) k e));
  }

  -- what is read of xs, which is cut at `mid`
  module _ (xs : List ℕ) (mid : ℕ) (cut : mid ≡ F.width) where
    first_part : take (mid - 0) xs ≡ take F.width xs
    first_part = let e : mid - 0 ≡ F.width = omega arith in ap (λ (n : ℕ). take n xs) e

    second_part : take (length xs - mid) (drop mid xs) ≡ drop F.width xs
    second_part = take_rest xs mid ∙ ap (λ (n : ℕ). drop n xs) cut

    pub length_refused : (w : ℕ) → w ≡ E.width → (length xs ≢ mid + w) → (a : C × D) → Valid a → xs ≢ both_parts a
    length_refused w e other a h r = let l : length xs ≡ F.width + E.width = whole a xs h r in other (omega arith)

    pub first_refused : ((a : C) → T (G.valid a) → take (mid - 0) xs ≢ F.written a) → (a : C × D) → Valid a → xs ≢ both_parts a
    first_refused none a h r = none a.0 (left G H a h) (first_part ∙ front a xs h r)

    pub second_refused : ((b : D) → T (H.valid b) → take (length xs - mid) (drop mid xs) ≢ E.written b) → (a : C × D) → Valid a → xs ≢ both_parts a
    second_refused none a h r = none a.1 (right G H a h) (second_part ∙ back a xs h r)

    pub both_read : (n m : ℕ) (a : C) (b : D) → ReadsAs G F (take (mid - 0) xs) a → ReadsAs H E (take (length xs - mid) (drop mid xs)) b → ReadsAs (pairs G H) (pair_form n m F E) xs (a, b)
    both_read n m a b h k = (
      both_of (G.valid a) (H.valid b) h.0 k.0,
      sym (take-append-drop F.width xs) ∙ ap (λ (ys : List ℕ). ys ++ drop F.width xs) (sym first_part ∙ h.1) ∙ ap (λ (ys : List ℕ). F.written a ++ ys) (sym second_part ∙ k.1),
    )

  -- what is written to a slice, which is cut at `mid`: first x and then y
  module _ (out x y : List ℕ) (mid : ℕ) (cut : mid ≡ F.width) (kept : length x ≡ length (take (mid - 0) out)) where
    abbrev halfway : List ℕ
    halfway = x ++ post_of 0 (mid - 0) out

    abbrev ended : List ℕ
    ended = put_mid mid (length halfway - mid) halfway y

    filled : length x ≡ F.width → ended ≡ x ++ y
    filled long-x =
        let front_x : take mid halfway ≡ x = take_at x (post_of 0 (mid - 0) out) mid (long-x ∙ sym cut) in
        let short : length (drop mid halfway) ≤ length halfway - mid = omega (arith, length-drop mid halfway) in
        let rest : post_of mid (length halfway - mid) halfway ≡ [] = drop_all (length halfway - mid) (drop mid halfway) short in
        ap (λ (zs : List ℕ). zs ++ (y ++ post_of mid (length halfway - mid) halfway)) front_x ∙ ap (λ (zs : List ℕ). x ++ (y ++ zs)) rest ∙ ap (λ (zs : List ℕ). x ++ zs) (append-nil y)

    pub both_wrote : (n m w : ℕ) (a : C × D) → w ≡ E.width → length out ≡ mid + w → Wrote G F a.0 (take (mid - 0) out) x → (T (H.valid a.1) → y ≡ E.written a.1) → Wrote (pairs G H) (pair_form n m F E) a out ended
    both_wrote n m w a e room h k = (
      omega arith,
      λ v.
          filled (kept ∙ h.0) ∙ ap (λ (zs : List ℕ). zs ++ y) (h.1 (left G H a v)) ∙ ap (λ (zs : List ℕ). F.written a.0 ++ zs) (k (right G H a v)),
    )

    pub has_room : (w : ℕ) → w ≡ E.width → length out ≡ mid + w → length (take (mid - 0) out) ≡ F.width → length (take (length halfway - mid) (drop mid halfway)) ≡ E.width
    has_room w e room h =
        let j : length halfway ≡ length x + length (post_of 0 (mid - 0) out) = length-append x (post_of 0 (mid - 0) out) in
        let r : length (post_of 0 (mid - 0) out) ≡ length out - (mid - 0) = length-drop (mid - 0) out in
        let d : length (drop mid halfway) ≡ length halfway - mid = length-drop mid halfway in
        ap length (take_rest halfway mid) ∙ omega arith
