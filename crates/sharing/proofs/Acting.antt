-- What a scalar makes of a tuple.
use Rattle.std.proofs.Common.{◌≡◌, ℕ, T, List, length, sym, subst}
use Rattle.algebra.specs.Group.{GroupOps, GroupLaws}
use Rattle.algebra.specs.Tuples.{all_valid, list_ops}
use Rattle.algebra.specs.Space.{ok_length, ok_valid, ok_of}
use Rattle.algebra.specs.Scalars.{Scalar, act}
use Rattle.algebra.proofs.Dealings.{act_ok}

module _ {C : Type 0} (G : GroupOps C) (L : GroupLaws G) where
  pub as_valid : (xs ys : List C) → xs ≡ ys → T (all_valid G ys) → T (all_valid G xs)
  as_valid xs ys e h = subst (λ (l : List C). T (all_valid G l)) (sym e) h

  -- a tuple m of w elements
  module _ (w : ℕ) (m : List C) (n : length m ≡ w) (p : T (all_valid G m)) where
    pub act_valid : (s : Scalar) → T (all_valid G (act (list_ops G w) s m))
    act_valid s = ok_valid G w (act (list_ops G w) s m) (act_ok G L w s m (ok_of G w m n p))

    pub act_length : (s : Scalar) → length (act (list_ops G w) s m) ≡ w
    act_length s = ok_length G w (act (list_ops G w) s m) (act_ok G L w s m (ok_of G w m n p))
