-- The numbers below m, added modulo m, are a commutative group.
use Rattle.std.specs.Prelude.{◌≡◌, ℕ, ◌+◌, ◌-◌, ◌*◌, ◌%◌, ◌<◌, ◌≤◌, T, nat_lt}
use Rattle.std.proofs.Common.{sym, ap, ◌∙◌, mod-lt, mod-eq_of_lt, add_comm, add_assoc, add-zero, arith, ltb→lt, lt→ltb, eqb→eq}
use Rattle.std.proofs.Math.Nat.{mod-add-mod, add-mod-mod, mod_self, add-mul-mod_self_right}
use Rattle.std.proofs.Math.Dec.{eqb_refl}
use Rattle.algebra.specs.Group.{GroupLaws}
use Rattle.groups.specs.Sums.{sums}

-- A number below m that is n less a multiple of m is n modulo m.
pub rest : {m n r : ℕ} (k : ℕ) → r < m → n ≡ r + k * m → r ≡ n % m
rest {m = m} {r = r} k l e = sym (ap (λ (x : ℕ). x % m) e ∙ add-mul-mod_self_right r k m ∙ mod-eq_of_lt l)

module _ (m : ℕ) (big : 2 ≤ m) where
  below : (a : ℕ) → T (nat_lt (a % m) m)
  below a = let h : 0 < m = omega arith in lt→ltb (a % m) m (mod-lt a h)

  pub sums_laws : GroupLaws (sums m)
  sums_laws = record {
    same_equal = λ a b h k e. eqb→eq a b e;
    same_self = λ a h. eqb_refl a;
    zero_valid = lt→ltb 0 m (omega arith);
    plus_valid = λ a b h k. below (a + b);
    minus_valid = λ a h. below (m - a);
    plus_comm = λ a b h k. ap (λ (n : ℕ). n % m) (add_comm a b);
    plus_assoc = λ a b c h k l. mod-add-mod (a + b) m c ∙ ap (λ (n : ℕ). n % m) (add_assoc a b c) ∙ sym (add-mod-mod a (b + c) m);
    plus_zero = λ a h. ap (λ (n : ℕ). n % m) (add-zero a) ∙ mod-eq_of_lt (ltb→lt a m h);
    plus_minus = λ a h.
        let l : a < m = ltb→lt a m h in
        let e : a + (m - a) ≡ m = omega arith in
        add-mod-mod a (m - a) m ∙ ap (λ (n : ℕ). n % m) e ∙ mod_self m;
  }
