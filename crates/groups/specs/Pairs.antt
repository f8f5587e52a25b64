-- Pairs of elements of two groups, part by part.
use Rattle.algebra.specs.Group.{GroupOps}
use Rattle.algebra.specs.Tuples.{both}

abbrev pub pairs : {C D : Type 0} → GroupOps C → GroupOps D → GroupOps (C × D)
pairs G H = record {
  valid = λ a. both (G.valid a.0) (H.valid a.1);
  same = λ a b. both (G.same a.0 b.0) (H.same a.1 b.1);
  zero = (G.zero, H.zero);
  plus = λ a b. (G.plus a.0 b.0, H.plus a.1 b.1);
  minus = λ a. (G.minus a.0, H.minus a.1);
}
