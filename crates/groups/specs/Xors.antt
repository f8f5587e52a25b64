-- Exclusive or makes bytes, and blocks of bytes, a commutative group.
use Rattle.std.specs.Prelude.{◌≡◌, ℕ, suc, ◌<◌, Bool, true, false, T, List, [], ◌∷◌, length, bit_xor, slice_index, refl}
use Rattle.std.proofs.Common.{sym, ap, ◌∙◌, ltb→lt, lt→ltb, eqb→eq, Fits}
use Rattle.std.proofs.lemmas.Nat.{xor_comm, xor_lt}
use Rattle.std.specs.Int.Bits.{xor_assoc, xor_zero_r, xor_self}
use Rattle.std.proofs.Math.Dec.{eqb_refl}
use Rattle.std.proofs.lemmas.Bool.{false≢true}
use Rattle.std.specs.Int.{w8}
use Rattle.std.specs.Str.{bytes_eq}
use Rattle.std.proofs.lemmas.Slice.Eq.{bytes_eq-Decides}
use Rattle.algebra.specs.Group.{GroupLaws}
use Rattle.algebra.specs.Tuples.{all_valid, ok, tuple_zero, tuple_plus, tuple_minus}
use Rattle.algebra.specs.Valid.{cons_valid}
use Rattle.algebra.specs.Space.{ok_of, zero_ok, plus_ok, ok_length, ok_valid}
use Rattle.algebra.proofs.TupleSums.{tuple_comm, tuple_assoc, tuple_plus_zero, tuple_plus_minus}
use Rattle.groups.specs.Blocks.{bytes, blocks}

pub byte_laws : GroupLaws bytes
byte_laws = record {
  same_equal = λ a b h k e. eqb→eq a b e;
  same_self = λ a h. eqb_refl a;
  zero_valid = tt;
  plus_valid = λ a b h k. lt→ltb (bit_xor a b) 256 (xor_lt 8 a b (ltb→lt a 256 h) (ltb→lt b 256 k));
  minus_valid = λ a h. h;
  plus_comm = λ a b h k. xor_comm a b;
  plus_assoc = λ a b c h k l. xor_assoc a b c;
  plus_zero = λ a h. xor_zero_r a;
  plus_minus = λ a h. xor_self a;
}

minus_itself : (xs : List ℕ) → tuple_minus bytes xs ≡ xs
minus_itself [] = refl
minus_itself (x ∷ xs) = ap (λ (l : List ℕ). x ∷ l) (minus_itself xs)

true_is : (b : Bool) → T b → true ≡ b
true_is true h = refl
true_is false h = absurd h

is_true : (b : Bool) → b ≡ true → T b
is_true true e = tt
is_true false e = absurd (false≢true e)

pub blocks_laws : GroupLaws blocks
blocks_laws = record {
  same_equal = λ a b h k e. (bytes_eq-Decides a b).0 (sym (true_is (bytes_eq a b) e));
  same_self = λ a h. is_true (bytes_eq a a) ((bytes_eq-Decides a a).1 refl);
  zero_valid = zero_ok bytes byte_laws 16;
  plus_valid = λ a b h k. plus_ok bytes byte_laws 16 a b h k;
  minus_valid = λ a h. h;
  plus_comm = λ a b h k. tuple_comm bytes byte_laws a b (ok_valid bytes 16 a h) (ok_valid bytes 16 b k);
  plus_assoc = λ a b c h k l. tuple_assoc bytes byte_laws a b c (ok_valid bytes 16 a h) (ok_valid bytes 16 b k) (ok_valid bytes 16 c l);
  plus_zero = λ a h. ap (λ (n : ℕ). tuple_plus bytes a (tuple_zero bytes n)) (sym (ok_length bytes 16 a h)) ∙ tuple_plus_zero bytes byte_laws a (ok_valid bytes 16 a h);
  plus_minus = λ a h. ap (tuple_plus bytes a) (sym (minus_itself a)) ∙ tuple_plus_minus bytes byte_laws a (ok_valid bytes 16 a h) ∙ ap (tuple_zero bytes) (ok_length bytes 16 a h);
}

pub all_bytes : (xs : List ℕ) → ((i : ℕ) → slice_index xs i < 256) → T (all_valid bytes xs)
all_bytes [] h = tt
all_bytes (x ∷ xs) h = cons_valid bytes x xs (lt→ltb x 256 (h 0)) (all_bytes xs (λ i. h (suc i)))

-- what an array of 16 bytes holds is valid
pub array_ok : (a : List ℕ) → length a ≡ 16 → ((i : ℕ) → Fits w8 (slice_index a i)) → T (ok bytes 16 a)
array_ok a n f = ok_of bytes 16 a n (all_bytes a (λ i. (f i).fits))

pub array_valid : (a : List ℕ) → length a ≡ 16 → ((i : ℕ) → Fits w8 (slice_index a i)) → true ≡ ok bytes 16 a
array_valid a n f = true_is (ok bytes 16 a) (array_ok a n f)
