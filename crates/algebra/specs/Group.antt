-- A commutative group on the valid elements of a type.
use Rattle.std.specs.Prelude.{◌≡◌, Bool, T}

-- a group's whole meaning: which elements are valid, whether two are the same, and zero, sum and negative
pub record GroupOps (C : Type 0) : Type 0 where
  pub valid : C → Bool
  pub same : C → C → Bool
  pub zero : C
  pub plus : C → C → C
  pub minus : C → C

-- the laws, of valid elements only
pub record GroupLaws {C : Type 0} (G : GroupOps C) : Type 0 where
  -- two valid elements are the same exactly when they are equal
  pub same_equal : (a b : C) → T (G.valid a) → T (G.valid b) → T (G.same a b) → a ≡ b
  pub same_self : (a : C) → T (G.valid a) → T (G.same a a)
  pub zero_valid : T (G.valid G.zero)
  pub plus_valid : (a b : C) → T (G.valid a) → T (G.valid b) → T (G.valid (G.plus a b))
  pub minus_valid : (a : C) → T (G.valid a) → T (G.valid (G.minus a))
  pub plus_comm : (a b : C) → T (G.valid a) → T (G.valid b) → G.plus a b ≡ G.plus b a
  pub plus_assoc : (a b c : C) → T (G.valid a) → T (G.valid b) → T (G.valid c) → G.plus (G.plus a b) c ≡ G.plus a (G.plus b c)
  pub plus_zero : (a : C) → T (G.valid a) → G.plus a G.zero ≡ a
  pub plus_minus : (a : C) → T (G.valid a) → G.plus a (G.minus a) ≡ G.zero
