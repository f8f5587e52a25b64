use Rattle.std.proofs.Common.{◌≡◌, ℕ, zero, suc, ◌+◌, ◌-◌, ◌%◌, ◌<◌, T, List, [], ◌∷◌, length, get_or, sym, refl, ap, ◌∙◌, subst, arith}
use Rattle.std.proofs.lemmas.List.{get_or_read}
use Rattle.algebra.specs.Group.{GroupOps, GroupLaws}
use Rattle.algebra.specs.Tuples.{all_valid, tuple_minus}
use Rattle.algebra.proofs.Around.{part_valid}
use Rattle.algebra.proofs.TupleSums.{minus_zero}
use Rattle.sharing.proofs.points.less_behind.Goals as goal

module _ {C : Type 0} (G : GroupOps C) (L : GroupLaws G) where
  -- an element's negative, or the zero after them
  minus_part : (xs : List C) (i : ℕ) → get_or (tuple_minus G xs) i G.zero ≡ G.minus (get_or xs i G.zero)
  minus_part [] i = sym (minus_zero G L)
  minus_part (x ∷ xs) zero = refl
  minus_part (x ∷ xs) (suc i) = minus_part xs i

  by_minus : (m minus : List C) (s p : ℕ) (x y z : C) → T (all_valid G m) → minus ≡ tuple_minus G m → s < length m → x ≡ get_or m s x → y ≡ get_or minus p G.zero
      → (T (G.valid x) → T (G.valid y) → z ≡ G.plus x y) → z ≡ G.plus (get_or m s G.zero) (G.minus (get_or m p G.zero))
  by_minus m minus s p x y z v is l read gone sum =
      let here : x ≡ get_or m s G.zero = get_or_read m s x l read G.zero in
      let there : y ≡ G.minus (get_or m p G.zero) = gone ∙ ap (λ (ms : List C). get_or ms p G.zero) is ∙ minus_part m p in
      sum (subst (λ (c : C). T (G.valid c)) (sym here) (part_valid G L m s v)) (subst (λ (c : C). T (G.valid c)) (sym there) (L.minus_valid (get_or m p G.zero) (part_valid G L m p v)))
      ∙ ap (λ (c : C). G.plus c y) here ∙ ap (G.plus (get_or m s G.zero)) there

  by_difference : (m : List C) (s p : ℕ) (x y z : C) → T (all_valid G m) → s < length m → x ≡ get_or m s x → y ≡ get_or m p G.zero
      → (T (G.valid x) → T (G.valid y) → z ≡ G.plus x (G.minus y)) → z ≡ G.plus (get_or m s G.zero) (G.minus (get_or m p G.zero))
  by_difference m s p x y z v l read gone difference =
      let here : x ≡ get_or m s G.zero = get_or_read m s x l read G.zero in
      difference (subst (λ (c : C). T (G.valid c)) (sym here) (part_valid G L m s v)) (subst (λ (c : C). T (G.valid c)) (sym gone) (part_valid G L m p v))
      ∙ ap (λ (c : C). G.plus c (G.minus y)) here ∙ ap (λ (c : C). G.plus (get_or m s G.zero) (G.minus c)) gone

pub returns-then-dear : goal.returns-then-dear
returns-then-dear g c v is =
    by_minus (g.G.Group.ops c.args.g.now) (g.met.G.Group.laws c.args.g.now) c.args.m.now c.args.minus.now c.args.s ((c.args.s + (c.args.scheme.q - c.args.i)) % c.args.scheme.q)
    c.index-m-s.result c.behind.result c.sum.result v (is c.if-dear.true) (omega arith) c.index-m-s.is c.behind.ensures c.sum.ensures

pub returns : goal.returns
returns g c v is =
    by_difference (g.G.Group.ops c.args.g.now) (g.met.G.Group.laws c.args.g.now) c.args.m.now c.args.s ((c.args.s + (c.args.scheme.q - c.args.i)) % c.args.scheme.q)
    c.index-m-s-2.result c.behind-2.result c.difference.result v (omega arith) c.index-m-s-2.is c.behind-2.ensures c.difference.ensures
