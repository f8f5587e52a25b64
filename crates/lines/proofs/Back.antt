-- A line that is written is read back.
use Rattle.std.proofs.Common.{◌≡◌, ℕ, ◌+◌, ◌^◌, ◌<◌, ◌≤◌, true, List, [], ◌∷◌, ◌++◌, length, Some, decimal, sym, refl, ap, ◌∙◌, subst, append_assoc, append-nil, arith}
use Rattle.std.proofs.lemmas.Fmt.{digits_decimal, digits_value-decimal, length-decimal-le, decimal_nonempty}
use Rattle.std.proofs.lemmas.List.{drop_at, length_push, length-append}
use Rattle.std.proofs.lemmas.List.Sums.{take_while-cons}
use Rattle.std.proofs.lemmas.Bool.Decides.{nat_tests}
use Rattle.std.proofs.lemmas.Bool.{cond-true, cond-false, and_parts, le-ltb}
use Rattle.std.specs.List.{flat_map}
use Rattle.std.specs.Char.{is_ascii_digit}
use Rattle.std.specs.Str.{all_ascii_digits}
use Rattle.lines.specs.declared.letter.Letter.{Letter}
use Rattle.lines.specs.declared.letter.Letter.TheVariants.{Make, Deposit, Withdraw, Refresh, Revoke, Repair, Open}
use Rattle.lines.specs.Letters.{letter_of, sign}
use Rattle.lines.specs.Lines.{good, front_digits, accepts, least, fine, read_fields, after_letter, line_of, Accepted, ReadsBack}
use Rattle.lines.proofs.Reading.{numerals, skip_on}

abbrev spaced : ℕ → List ℕ
spaced n = 32 ∷ decimal n

-- digits before a space or the line's end are all that is read as digits
front_end : (ns : List ℕ) → front_digits (flat_map spaced ns) ≡ []
front_end [] = refl
front_end (n ∷ ns) = refl

front_all : (ds ns : List ℕ) → all_ascii_digits ds ≡ true → front_digits (ds ++ flat_map spaced ns) ≡ ds
front_all [] ns t = front_end ns
front_all (d ∷ ds) ns t =
    let p = and_parts (is_ascii_digit d) (all_ascii_digits ds) t in
    take_while-cons is_ascii_digit d (ds ++ flat_map spaced ns) ∙ cond-true _ _ _ p.0 ∙ ap (λ l. d ∷ l) (front_all ds ns p.1)

-- a number in decimal is a field
decimal_fine : (l : Letter) (k n : ℕ) → n ≤ 4294967295 → accepts l k n ≡ true → fine l k (decimal n) ≡ true
decimal_fine l k n small ok =
    let fits : n < 2 ^ 64 = omega arith in
    grind (arith, nat_tests, digits_value-decimal numerals n fits, decimal_nonempty n fits, length-decimal-le 10 n (omega arith) (omega arith) fits)

-- a field that is written is read, and what follows it
field_back : (l : Letter) (ms ns : List ℕ) (n p : ℕ) → n ≤ 4294967295 → accepts l (length ms) n ≡ true → read_fields (flat_map spaced (n ∷ ns)) 0 l ms p ≡ read_fields (flat_map spaced ns) 0 l (ms ++ n ∷ []) (p + 1 + length (decimal n))
field_back l ms ns n p small ok =
    let fits : n < 2 ^ 64 = omega arith in
    let front = front_all (decimal n) ns (digits_decimal numerals n fits) in
    grind (arith, decimal_fine l (length ms) n small ok, front, digits_value-decimal numerals n fits, skip_on, drop_at, length-append (decimal n) (flat_map spaced ns))

fields_back : (l : Letter) (ms ns : List ℕ) (p : ℕ) → Accepted l (length ms) ns → least l ≤ length (ms ++ ns) → read_fields (flat_map spaced ns) 0 l ms p ≡ good l (ms ++ ns)
fields_back l ms [] p ok enough = grind (arith, nat_tests, append-nil)
fields_back l ms (n ∷ ns) p ok enough =
    let again = append_assoc ms (n ∷ []) ns in
    field_back l ms ns n p ok.0 ok.1
    ∙ fields_back l (ms ++ n ∷ []) ns (p + 1 + length (decimal n)) (subst (λ k. Accepted l k ns) (sym (length_push ms n)) ok.2) (subst (λ x. least l ≤ length x) (sym again) enough)
    ∙ ap (good l) again

letter_back : (l : Letter) → letter_of (sign l) ≡ Some l
letter_back Make = refl
letter_back Deposit = refl
letter_back Withdraw = refl
letter_back Refresh = refl
letter_back Revoke = refl
letter_back Repair = refl
letter_back Open = refl

pub reads_back : ReadsBack
reads_back l ns enough ok few =
    cond-false _ _ _ (le-ltb 16384 (length (line_of l ns)) few)
    ∙ ap (λ o. after_letter o (flat_map spaced ns)) (letter_back l)
    ∙ fields_back l [] ns 1 ok enough
