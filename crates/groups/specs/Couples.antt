-- Pairs of two commutative groups are one.
use Rattle.std.specs.Prelude.{◌≡◌, T}
use Rattle.algebra.specs.Group.{GroupOps, GroupLaws}
use Rattle.algebra.specs.Valid.{both_left, both_right, both_of}
use Rattle.groups.specs.Pairs.{pairs}

module _ {C D : Type 0} (G : GroupOps C) (H : GroupOps D) where
  pub left : (a : C × D) → T ((pairs G H).valid a) → T (G.valid a.0)
  left a h = both_left (G.valid a.0) (H.valid a.1) h

  pub right : (a : C × D) → T ((pairs G H).valid a) → T (H.valid a.1)
  right a h = both_right (G.valid a.0) (H.valid a.1) h

pub couple : {C D : Type 0} (a b : C × D) → a.0 ≡ b.0 → a.1 ≡ b.1 → a ≡ b
couple a b e f i = (e i, f i)

module _ {C D : Type 0} (G : GroupOps C) (H : GroupOps D) (L : GroupLaws G) (K : GroupLaws H) where
  pub pairs_laws : GroupLaws (pairs G H)
  pairs_laws = record {
    same_equal = λ a b h k e.
        couple a b (L.same_equal a.0 b.0 (left G H a h) (left G H b k) (both_left (G.same a.0 b.0) (H.same a.1 b.1) e))
        (K.same_equal a.1 b.1 (right G H a h) (right G H b k) (both_right (G.same a.0 b.0) (H.same a.1 b.1) e));
    same_self = λ a h. both_of (G.same a.0 a.0) (H.same a.1 a.1) (L.same_self a.0 (left G H a h)) (K.same_self a.1 (right G H a h));
    zero_valid = both_of (G.valid G.zero) (H.valid H.zero) L.zero_valid K.zero_valid;
    plus_valid = λ a b h k.
        both_of (G.valid (G.plus a.0 b.0)) (H.valid (H.plus a.1 b.1)) (L.plus_valid a.0 b.0 (left G H a h) (left G H b k)) (K.plus_valid a.1 b.1 (right G H a h) (right G H b k));
    minus_valid = λ a h. both_of (G.valid (G.minus a.0)) (H.valid (H.minus a.1)) (L.minus_valid a.0 (left G H a h)) (K.minus_valid a.1 (right G H a h));
    plus_comm = λ a b h k. couple _ _ (L.plus_comm a.0 b.0 (left G H a h) (left G H b k)) (K.plus_comm a.1 b.1 (right G H a h) (right G H b k));
    plus_assoc = λ a b c h k l.
        couple _ _ (L.plus_assoc a.0 b.0 c.0 (left G H a h) (left G H b k) (left G H c l)) (K.plus_assoc a.1 b.1 c.1 (right G H a h) (right G H b k) (right G H c l));
    plus_zero = λ a h. couple _ _ (L.plus_zero a.0 (left G H a h)) (K.plus_zero a.1 (right G H a h));
    plus_minus = λ a h. couple _ _ (L.plus_minus a.0 (left G H a h)) (K.plus_minus a.1 (right G H a h));
  }
