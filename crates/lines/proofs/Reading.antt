-- Digits, numbers and fields, one step at a time.
use Rattle.std.proofs.Common.{◌≡◌, ℕ, zero, suc, ◌+◌, ◌-◌, ◌*◌, ◌<◌, ◌≤◌, true, cond, ltb, List, [], ◌∷◌, ◌++◌, length, get_or, take, drop, Some, None, sym, refl, ap, add-zero, arith, rules}
use Rattle.std.proofs.lemmas.List.{at_drop_more, at_drop_all, drop-drop, length-drop, length-take, take_all}
use Rattle.std.proofs.lemmas.List.Folds.{length-prefix_len}
use Rattle.std.proofs.lemmas.List.Sums.{take_while-cons}
use Rattle.std.proofs.lemmas.Str.Parse.{IsNumeralModel, numerals_by_fold}
use Rattle.std.proofs.lemmas.Bool.Decides.{nat_tests}
use Rattle.std.proofs.lemmas.Grind.{common_steps}
use Rattle.std.specs.List.{prefix_len}
use Rattle.std.specs.Str.{all_ascii_digits}
use Rattle.std.specs.Char.{is_ascii_digit}
use Rattle.lines.specs.declared.letter.Letter.{Letter}
use Rattle.lines.specs.Lines.{good, bad, front_digits, value_after, number_of, fine, read_fields, from_offset, least, first_letter, read_line}

-- the digits and the number of a text, as the library has them
pub numerals : IsNumeralModel (λ ds. all_ascii_digits ds ≡ true) (value_after 0)
numerals = numerals_by_fold _ (search rules) value_after (search rules)

-- the digits at the front are a front, and digits
pub front_short : (bs : List ℕ) → length (front_digits bs) ≤ length bs
front_short bs = omega (arith, length-take {A = ℕ})

pub front_is : (bs : List ℕ) → all_ascii_digits (front_digits bs) ≡ true
front_is [] = refl
front_is (b ∷ bs) = rw take_while-cons (grind (arith, nat_tests, front_is bs))

-- the digits at the front of what follows p, and how many they are
pub front_of : (bs : List ℕ) (p n : ℕ) → n ≡ prefix_len is_ascii_digit (take (length bs - p) (drop p bs)) → (take n (take (length bs - p) (drop p bs)) ≡ front_digits (drop p bs)) × (n ≡ length (front_digits (drop p bs)))
front_of bs p n e = grind (arith, take_all, length-drop, length-prefix_len)

-- each of the digits is one
pub digit_at : (ds : List ℕ) (i : ℕ) → all_ascii_digits ds ≡ true → i < length ds → 48 ≤ get_or ds i 0
digit_at [] i t h = absurd (omega arith)
digit_at (d ∷ ds) zero t h = grind (arith, nat_tests)
digit_at (d ∷ ds) (suc i) t h = grind (arith, nat_tests, digit_at ds i)

-- a number goes on with its next digit, and does not fall as its digits are read
pub value_more : (n : ℕ) (ds : List ℕ) (i : ℕ) → i < length ds → value_after n (drop i ds) ≡ value_after (n * 10 + (get_or ds i 0 - 48)) (drop (i + 1) ds)
value_more n ds i h = at_drop_more (value_after n) ds i 0 h

value_grows : (n : ℕ) (ds : List ℕ) → n ≤ value_after n ds
value_grows n [] = omega arith
value_grows n (d ∷ ds) = omega (arith, value_grows (n * 10 + (d - 48)) ds)

-- the digits before i write n, and with the next digit the number is too large
pub too_large : (ds : List ℕ) (n i : ℕ) → value_after n (drop i ds) ≡ value_after 0 ds → i < length ds → 4294967295 < n * 10 + (get_or ds i 0 - 48) → number_of ds ≡ None
too_large ds n i sofar h large =
    let more : n * 10 + (get_or ds i 0 - 48) ≤ value_after 0 ds = omega (arith, value_more n ds i h, value_grows (n * 10 + (get_or ds i 0 - 48)) (drop (i + 1) ds)) in
    grind (arith, nat_tests)

-- all digits are read, and write n
pub read_all : (ds : List ℕ) (n i : ℕ) → value_after n (drop i ds) ≡ value_after 0 ds → length ds ≤ i → 0 < length ds → length ds ≤ 10 → n ≤ 4294967295 → number_of ds ≡ Some n
read_all ds n i sofar end some few small =
    let all : n ≡ value_after 0 ds = omega (arith, at_drop_all (value_after n) ds i end) in
    grind (arith, nat_tests)

-- the digits of a number are passed over
pub skip_on : (bs : List ℕ) (k : ℕ) (l : Letter) (ns : List ℕ) (p : ℕ) → k ≤ length bs → read_fields bs k l ns p ≡ read_fields (drop k bs) 0 l ns (p + k)
skip_on bs zero l ns p h = ap (read_fields bs 0 l ns) (sym (add-zero p))
skip_on [] (suc k) l ns p h = absurd (omega arith)
skip_on (b ∷ bs) (suc k) l ns p h = grind (arith, skip_on bs k l ns (p + 1))

-- the line bs from p on, where a field follows the numbers ns
pub is_fine : (bs : List ℕ) (l : Letter) (ns : List ℕ) (p : ℕ) → p < length bs → get_or bs p 0 ≡ 32 → fine l (length ns) (front_digits (drop (p + 1) bs)) ≡ true → from_offset bs l ns p ≡ from_offset bs l (ns ++ value_after 0 (front_digits (drop (p + 1) bs)) ∷ []) (p + 1 + length (front_digits (drop (p + 1) bs)))
is_fine bs l ns p h t f = grind (arith, nat_tests, common_steps, skip_on, front_short, drop-drop)

-- a line that is not too long, from the letter on, and at its end
pub at_end : (bs : List ℕ) (l : Letter) (ns : List ℕ) (p : ℕ) → length bs ≤ 16384 → first_letter bs ≡ Some l → from_offset bs l ns p ≡ from_offset bs l [] 1 → p ≡ length bs → read_line bs ≡ cond (ltb (length ns) (least l)) (bad p) (good l ns)
at_end bs l ns p few first sofar end = grind (arith, nat_tests, common_steps)
