use Rattle.std.proofs.Common.{rules, ◌≡◌, ℕ, zero, suc, ◌+◌, ◌<◌, List, length, get_or, sym, subst, ◌∙◌, arith, bit_xor}
use denote.Param.Members.{Mut, Called}
use Rattle.std.specs.Array.{IsFromFnResultFrom}
use Rattle.std.proofs.lemmas.List.{ext_get_or}
use Rattle.groups.specs.Blocks.{bytes}
use Rattle.algebra.specs.Valid.{length_plus}
use Rattle.algebra.specs.Tuples.{tuple_plus}
use Rattle.algebra.proofs.Places.{get_or_plus}
use Rattle.groups.proofs.blocks.BlocksGroup.sum.Goals as goal

-- where each call gives v of its number and leaves the closure as it was, v of j stands at the place j
each : {F B : Type 0} (g : Mut F (ℕ × Unit {0}) B) (f : F) (v : ℕ → B) (d : B) → ((i : ℕ) (y : B) (q : F) → Called g f (i, tt) y q → (y ≡ v i) × (q ≡ f)) → (ys : List B) (n i : ℕ) → IsFromFnResultFrom g f ys i n → (k j : ℕ) → k < n → j ≡ i + k → get_or ys j d ≡ v j
each g f v d h ys zero i e k j l p = absurd (omega arith)
each g f v d h ys (suc n) i (q, y, at, one, rest) zero j l p = let e : i ≡ j = omega arith in subst (λ m. get_or ys m d ≡ v m) e (at.1 d ∙ (h i y q one).0)
each g f v d h ys (suc n) i (q, y, at, one, rest) (suc k) j l p =
    each g f v d h ys n (i + 1) (subst (λ c. IsFromFnResultFrom g c ys (i + 1) n) (h i y q one).1 rest) k j (omega arith) (omega arith)

pub returns : goal.returns
returns c p q =
    let xs = c.args.a in
    let ys = c.args.b in
    let items = c.from_fn.ensures.items in
    let nx : length xs ≡ 16 = search rules in
    let ny : length ys ≡ 16 = search rules in
    let n : length (tuple_plus bytes xs ys) ≡ 16 = length_plus bytes xs ys (ny ∙ sym nx) ∙ nx in
    ext_get_or 0 _ _ (items.long ∙ sym n)
    (λ i l. each _ _ (λ j. bit_xor (get_or xs j 0) (get_or ys j 0)) 0 (λ j y f e. search rules) _ 16 0 items.each i i (omega arith) (omega arith) ∙ sym (get_or_plus bytes xs ys i 0 (omega arith) (omega arith)))
