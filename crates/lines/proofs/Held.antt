-- What a line reader holds after many bytes.
use Rattle.std.proofs.Common.{◌≡◌, ℕ, ◌≤◌, false, ◌==◌, List, [], ◌∷◌, ◌++◌, length, take, sym, ap, ◌∙◌, append_assoc, append-nil, arith}
use Rattle.std.proofs.lemmas.List.{take_all, take_at, length_push}
use Rattle.std.proofs.lemmas.Bool.Decides.{nat_tests}
use Rattle.lines.specs.Reader.{fed, fed_all, OneLine, FirstBytes}

-- a byte that is no newline, where there is room, and where there is none
fed_one : (bs cs : List ℕ) (c : ℕ) → (c == 10) ≡ false → length bs ≤ 16385 → (length (fed bs c) ≤ 16385) × (take 16385 (fed bs c ++ cs) ≡ take 16385 (bs ++ c ∷ cs))
fed_one bs cs c t few = grind (arith, nat_tests, length_push bs c, append_assoc bs (c ∷ []) cs, take_at bs cs 16385, take_at bs (c ∷ cs) 16385)

kept : (bs cs : List ℕ) → length bs ≤ 16385 → OneLine cs → fed_all bs cs ≡ take 16385 (bs ++ cs)
kept bs [] few ok = sym (ap (take 16385) (append-nil bs) ∙ take_all 16385 bs few)
kept bs (c ∷ cs) few ok = let one = fed_one bs cs c ok.0 few in kept (fed bs c) cs one.0 ok.1 ∙ one.1

pub first_bytes : FirstBytes
first_bytes cs ok = kept [] cs (omega arith) ok
