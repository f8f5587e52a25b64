-- The factors of a weight, and a walk for each of them.
use Rattle.std.proofs.Common.{◌≡◌, ℕ, ◌-◌, ◌%◌, ◌<◌, ◌≤◌, T, eqb, List, [], ◌∷◌, length, sym, refl, ap, ◌∙◌, subst, arith}
use Rattle.std.proofs.lemmas.Bool.{cond_both, cond-true, cond-false, eq-eqb, ne_eqb, eqb-true, eqb-false}
use Rattle.algebra.specs.Circle.{ahead, Quotient}
use Rattle.algebra.specs.Group.{GroupOps, GroupLaws}
use Rattle.algebra.specs.Module.{ModuleOps, ModuleLaws}
use Rattle.algebra.specs.Tuples.{all_valid, ok, tuple_plus, list_ops}
use Rattle.algebra.specs.Space.{ok_of}
use Rattle.algebra.specs.Scalars.{Scalar, one, times, act, point}
use Rattle.algebra.specs.Sharing.{less, inverse, factor}
use Rattle.algebra.specs.Primes.{inverse_number}
use Rattle.algebra.specs.Dealing.{weight_at}
use Rattle.algebra.proofs.Around.{factor_is}
use Rattle.algebra.proofs.Dealings.{act_ok, act_equal}
use Rattle.algebra.proofs.Ways.{ahead_some, ahead_back, point_mod}
use Rattle.algebra.proofs.Walks.{ComesRound}
use Rattle.algebra.proofs.PrimeNumbers.{inverts}
use Rattle.algebra.proofs.TupleModule.{tuple_laws}
use Rattle.sharing.specs.declared.scheme.Scheme.{Scheme}
use Rattle.sharing.proofs.Acting.{as_valid, act_valid}

pub q_some : (s : Scheme) → 0 < s.q
q_some s = omega (arith, s.above)

-- each way comes round, since q is a prime
pub comes_round : (s : Scheme) (d : ℕ) → 0 < d → d < s.q → ComesRound s.q d
comes_round s d some below = (inverse_number s.q d, inverts s.q s.prime s.small d some below)

-- and there is some way between two places
pub way_some : (q j k d : ℕ) → j < q → k < q → (k ≡ j → ⊥) → d ≡ ahead q j k → 0 < d
way_some q j k d hj hk apart e = subst (λ (x : ℕ). 0 < x) (sym e) (ahead_some q j k hj hk apart)

-- k's part in the weight of j at the point p
abbrev pub factor_at : ℕ → ℕ → ℕ → ℕ → Scalar
factor_at q p j k = factor point (inverse q (inverse_number q)) (point p) j k

factor_same : (q p j k : ℕ) → k ≡ j → factor_at q p j k ≡ one
factor_same q p j k e = cond-true (eqb k j) one (times (less (point k) (point p)) (inverse q (inverse_number q) k j)) (eq-eqb k j e)

factor_other : (q p j k : ℕ) → (k ≡ j → ⊥) → factor_at q p j k ≡ times (less (point k) (point p)) (inverse q (inverse_number q) k j)
factor_other q p j k h = cond-false (eqb k j) one (times (less (point k) (point p)) (inverse q (inverse_number q) k j)) (ne_eqb k j h)

-- the point p below q does as any other that is as many whole turns away
factor_turned : {M : Type 0} {O : ModuleOps M} (q : ℕ) → ModuleLaws O q → (p j k : ℕ) (m : M) → act O (factor_at q (p % q) j k) m ≡ act O (factor_at q p j k) m
factor_turned {O = O} q L p j k m =
    cond_both (eqb k j) one (times (less (point k) (point (p % q))) (inverse q (inverse_number q) k j)) (λ s. act O s m ≡ act O (factor_at q p j k) m)
    (λ e. ap (λ s. act O s m) (sym (factor_same q p j k (eqb-true k j e))))
    (λ e. ap (λ z. O.add (act O (point k) (act O (inverse q (inverse_number q) k j) m)) (O.neg z)) (point_mod L p (act O (inverse q (inverse_number q) k j) m)) ∙ ap (λ s. act O s m) (sym (factor_other q p j k (eqb-false k j e))))

-- and so in a whole weight
turned_weight : {M : Type 0} {O : ModuleOps M} (q : ℕ) → ModuleLaws O q → (p j : ℕ) (hs : List ℕ) (m : M) → act O (weight_at q hs (p % q) j) m ≡ act O (weight_at q hs p j) m
turned_weight q L p j [] m = refl
turned_weight {O = O} q L p j (k ∷ hs) m =
    factor_turned q L p j k (act O (weight_at q hs (p % q) j) m) ∙ ap (act O (factor_at q p j k)) (turned_weight q L p j hs m)

module _ {C : Type 0} (G : GroupOps C) (L : GroupLaws G) where
  -- what a walk writes
  pub factored : (s : Scheme) (p j k d come : ℕ) (m out : List C) → k < s.q → p < s.q → j < s.q → length m ≡ s.q - 1 → T (all_valid G m) → (k ≡ j → ⊥)
      → d ≡ ahead s.q j k → come ≡ ahead s.q p j
      → ((r : List C) → T (ok G (s.q - 1) r) → Quotient G s.q d come (s.q - d) m r → out ≡ r)
      → out ≡ act (list_ops G (s.q - 1)) (factor_at s.q p j k) m
  factored s p j k d come m out hk hp hj n v apart ed ec walk =
      let q : ℕ = s.q in
      let t : Scalar = times (less (point k) (point p)) (inverse q (inverse_number q) k j) in
      let good : T (ok G (q - 1) m) = ok_of G (q - 1) m n v in
      let r : List C = act (list_ops G (q - 1)) t m in
      let is : Quotient G q (ahead q j k) (ahead q p j) (ahead q k j) m r = factor_is G L q k p j (inverse_number q) (inverts q s.prime s.small) s.prime.1.0 hk hp hj apart m good in
      let back : q - ahead q j k ≡ ahead q k j = sym (ahead_back q j k hj hk apart) in
      let ways : Quotient G q d come (q - d) m r =
      subst (λ (x : ℕ). Quotient G q x come (q - x) m r) (sym ed)
      (subst (λ (x : ℕ). Quotient G q (ahead q j k) x (q - ahead q j k) m r) (sym ec) (subst (λ (x : ℕ). Quotient G q (ahead q j k) (ahead q p j) x m r) (sym back) is)) in
      walk r (act_ok G L (q - 1) t m good) ways ∙ ap (λ (u : Scalar). act (list_ops G (q - 1)) u m) (sym (factor_other q p j k apart))

  pub weight_turned : (q p j : ℕ) → 2 ≤ q → (hs : List ℕ) (m : List C) → T (ok G (q - 1) m) → act (list_ops G (q - 1)) (weight_at q hs (p % q) j) m ≡ act (list_ops G (q - 1)) (weight_at q hs p j) m
  weight_turned q p j two hs = act_equal G L (q - 1) (weight_at q hs (p % q) j) (weight_at q hs p j) (turned_weight q (tuple_laws G L q two) p j hs)

  -- the factor of one helper more
  pub weight_more : (q p j k : ℕ) (done : List ℕ) (m from to : List C) → length m ≡ q - 1 → T (all_valid G m)
      → from ≡ act (list_ops G (q - 1)) (weight_at q done p j) m
      → (T (all_valid G from) → to ≡ act (list_ops G (q - 1)) (factor_at q p j k) from)
      → to ≡ act (list_ops G (q - 1)) (weight_at q (k ∷ done) p j) m
  weight_more q p j k done m from to n v is f =
      let s : Scalar = weight_at q done p j in
      f (as_valid G L from (act (list_ops G (q - 1)) s m) is (act_valid G L (q - 1) m n v s)) ∙ ap (act (list_ops G (q - 1)) (factor_at q p j k)) is

  -- the product is added to a tuple
  pub weight_added : (q p j : ℕ) (hs done : List ℕ) (m from out after : List C) → hs ≡ done → length m ≡ q - 1
      → (T (all_valid G m) → from ≡ act (list_ops G (q - 1)) (weight_at q done p j) m)
      → (T (all_valid G out) → T (all_valid G from) → after ≡ tuple_plus G out from)
      → T (all_valid G m) → T (all_valid G out) → after ≡ tuple_plus G out (act (list_ops G (q - 1)) (weight_at q hs p j) m)
  weight_added q p j hs done m from out after e n is add v vo =
      let s : Scalar = weight_at q done p j in
      add vo (as_valid G L from (act (list_ops G (q - 1)) s m) (is v) (act_valid G L (q - 1) m n v s))
      ∙ ap (tuple_plus G out) (is v ∙ ap (λ (B : List ℕ). act (list_ops G (q - 1)) (weight_at q B p j) m) (sym e))
