-- What holds of tuples holds of the lists that the code computes on: values, what is dealt, and interpolation.
use Rattle.std.proofs.Common.{◌≡◌, ℕ, zero, suc, ◌-◌, ◌*◌, ◌<◌, ◌≤◌, T, ltb, List, [], ◌∷◌, length, take, drop, sym, refl, ap, ◌∙◌, subst, ap₂, suc-mul, arith}
use lib.ListN.{length-replicate}
use Rattle.std.specs.List.{AllByRecursion}
use Rattle.std.proofs.ByRecursion.{All-weaker}
use Rattle.std.proofs.lemmas.List.{length-take-le, length-drop}
use Rattle.std.proofs.lemmas.Bool.{cond_both, ltb-true, ltb-false}
use Rattle.algebra.specs.Circle.{inverse_around}
use Rattle.algebra.specs.Group.{GroupOps, GroupLaws}
use Rattle.algebra.specs.Module.{ModuleOps, ModuleLaws}
use Rattle.algebra.specs.Tuples.{all_valid, tuple_zero, tuple_plus, ok, list_ops}
use Rattle.algebra.specs.Valid.{cons_valid, zero_tuple_valid}
use Rattle.algebra.specs.Space.{Tuple, tuple_ops, ok_of, zero_ok, plus_ok}
use Rattle.algebra.specs.Scalars.{Scalar, minus, act, power, point, geometric}
use Rattle.algebra.specs.Sharing.{less, difference_above, difference, inverse, value, repeat, terms, total}
use Rattle.algebra.specs.Theorems.{Inverts, Distinct}
use Rattle.algebra.specs.Primes.{inverse_number}
use Rattle.algebra.specs.Rows.{rows, row_at}
use Rattle.algebra.specs.Dealing.{embedded, dealt, weight_at, tuple_at, Interpolates, ZeroIsKey}
use Rattle.algebra.proofs.Actions.{act_neg, act_nil}
use Rattle.algebra.proofs.Points.{less_above, less_swap}
use Rattle.algebra.proofs.Ways.{around_inverse}
use Rattle.algebra.proofs.Polynomials.{terms_value}
use Rattle.algebra.proofs.TupleModule.{tuple_sums, tuple_laws, act_list}
use Rattle.algebra.proofs.RowLists.{take_valid, drop_valid, part_valid, row_before, length_rows}
use Rattle.algebra.proofs.Theorems.{sharing}

pub geometric_point : {M : Type 0} (O : ModuleOps M) (e : ℕ) (m : M) → act O (geometric 1 e) m ≡ act O (point e) m
geometric_point O zero m = refl
geometric_point O (suc e) m = ap (λ s. O.add m (O.shift s)) (geometric_point O e m)

module _ {M : Type 0} {O : ModuleOps M} {q : ℕ} (L : ModuleLaws O q) where
  above_less : (k j : ℕ) → j ≤ k → (m : M) → act O (difference_above k j) m ≡ act O (less (point k) (point j)) m
  above_less k j h m = ap (act O (power j)) (geometric_point O (k - j) m) ∙ sym (less_above L k j h m)

  across_less : (k j : ℕ) (m : M) → act O (difference k j) m ≡ act O (less (point k) (point j)) m
  across_less k j m =
      cond_both (ltb j k) (difference_above k j) (minus (difference_above j k)) (λ s. act O s m ≡ act O (less (point k) (point j)) m)
      (λ e. let h : j < k = ltb-true j k e in above_less k j (omega arith) m)
      (λ e. ap O.neg (above_less j k (ltb-false j k e) m) ∙ sym (act_neg L (less (point j) (point k)) m) ∙ less_swap L (point j) (point k) m)

module _ {C : Type 0} (G : GroupOps C) (L : GroupLaws G) (w : ℕ) where
  -- the list of a tuple is ok
  tuple_ok : (a : Tuple G w) (l : List C) → a.0 ≡ l → T (ok G w l)
  tuple_ok a l e = subst (λ (m : List C). T (ok G w m)) e a.1

  pub act_ok : (s : Scalar) (m : List C) → T (ok G w m) → T (ok G w (act (list_ops G w) s m))
  act_ok s m h = tuple_ok (act (tuple_ops G L w) s (m, h)) _ (act_list G L w s (m, h))

  -- two scalars that act equally on tuples do so on their lists
  pub act_equal : (s t : Scalar) → ((m : Tuple G w) → act (tuple_ops G L w) s m ≡ act (tuple_ops G L w) t m) → (m : List C) → T (ok G w m) → act (list_ops G w) s m ≡ act (list_ops G w) t m
  act_equal s t e m h = sym (act_list G L w s (m, h)) ∙ ap (λ (a : Tuple G w). a.0) (e (m, h)) ∙ act_list G L w t (m, h)

  -- lists as tuples
  lifted : (rs : List (List C)) → AllByRecursion (λ r. T (ok G w r)) rs → List (Tuple G w)
  lifted [] h = []
  lifted (r ∷ rs) h = (r, h.0) ∷ lifted rs h.1

  length_lifted : (rs : List (List C)) (h : AllByRecursion (λ r. T (ok G w r)) rs) → length (lifted rs h) ≡ length rs
  unfolding lifted
  length_lifted [] h = refl
  length_lifted (r ∷ rs) h = ap suc (length_lifted rs h.1)

  value_list : (rs : List (List C)) (h : AllByRecursion (λ r. T (ok G w r)) rs) (z : Scalar) → (value (tuple_ops G L w) (lifted rs h) z).0 ≡ value (list_ops G w) rs z
  unfolding lifted
  value_list [] h z = refl
  value_list (r ∷ rs) h z = ap (tuple_plus G r) (act_list G L w z _ ∙ ap (act (list_ops G w) z) (value_list rs h.1 z))

  pub value_one : (r : List C) → T (ok G w r) → (z : Scalar) → value (list_ops G w) (r ∷ []) z ≡ r
  unfolding lifted
  value_one r h z =
      sym (value_list (r ∷ []) (h, tt) z)
      ∙ ap (λ (a : Tuple G w). a.0) (ap ((tuple_ops G L w).add (r, h)) (act_nil (tuple_sums G L w) z) ∙ (tuple_sums G L w).add_nil (r, h))

  terms_lifted : (rs : List (List C)) (h : AllByRecursion (λ r. T (ok G w r)) rs) (n : ℕ) (z : Scalar) → (terms (tuple_ops G L w) (lifted rs h) n z).0 ≡ terms (list_ops G w) rs n z
  unfolding lifted
  terms_lifted [] h n z = refl
  terms_lifted (r ∷ rs) h n z = ap₂ (tuple_plus G) (act_list G L w (repeat z n) (r, h.0)) (terms_lifted rs h.1 (suc n) z)

  total_list : (f : ℕ → Tuple G w) (g : ℕ → List C) (B : List ℕ) → AllByRecursion (λ j. (f j).0 ≡ g j) B → (total (tuple_ops G L w) f B).0 ≡ total (list_ops G w) g B
  total_list f g [] h = refl
  total_list f g (j ∷ B) h = ap₂ (tuple_plus G) h.0 (total_list f g B h.1)

  pub value_ok : (rs : List (List C)) → AllByRecursion (λ r. T (ok G w r)) rs → (z : Scalar) → T (ok G w (value (list_ops G w) rs z))
  value_ok rs h z = tuple_ok (value (tuple_ops G L w) (lifted rs h) z) _ (value_list rs h z)

  pub terms_ok : (rs : List (List C)) → AllByRecursion (λ r. T (ok G w r)) rs → (n : ℕ) (z : Scalar) → T (ok G w (terms (list_ops G w) rs n z))
  terms_ok rs h n z = tuple_ok (terms (tuple_ops G L w) (lifted rs h) n z) _ (terms_lifted rs h n z)

  pub terms_list : (rs : List (List C)) → AllByRecursion (λ r. T (ok G w r)) rs → (z : Scalar) → terms (list_ops G w) rs 0 z ≡ value (list_ops G w) rs z
  terms_list rs h z = sym (terms_lifted rs h 0 z) ∙ ap (λ (a : Tuple G w). a.0) (terms_value (tuple_sums G L w) (lifted rs h) 0 z) ∙ value_list rs h z

  pub rows_ok : (n : ℕ) (cs : List C) → n * w ≤ length cs → T (all_valid G cs) → AllByRecursion (λ r. T (ok G w r)) (rows w n cs)
  rows_ok zero cs l h = tt
  rows_ok (suc n) cs l h = (
    ok_of G w (take w cs) (length-take-le w cs (omega (arith, suc-mul n w))) (take_valid G w cs h),
    rows_ok n (drop w cs) (omega (arith, suc-mul n w, length-drop w cs)) (drop_valid G w cs h),
  )

  pub embedded_ok : (k : C) → 0 < w → T (G.valid k) → T (ok G w (embedded G w k))
  embedded_ok k l h =
      let e : suc (w - 1) ≡ w = omega arith in
      ok_of G w (embedded G w k) (ap suc (length-replicate (w - 1) G.zero) ∙ e) (cons_valid G k (tuple_zero G (w - 1)) h (zero_tuple_valid G L (w - 1)))

  -- the key and the coefficients
  pub dealing_ok : (count : ℕ) (k : C) (cs : List C) → 0 < w → count * w ≤ length cs → T (G.valid k) → T (all_valid G cs) → AllByRecursion (λ r. T (ok G w r)) (embedded G w k ∷ rows w count cs)
  dealing_ok count k cs some enough key valid = (embedded_ok k some key, rows_ok count cs enough valid)

  module _ (i count : ℕ) (k : C) (cs : List C) (some : 0 < w) (enough : count * w ≤ length cs) (key : T (G.valid k)) (valid : T (all_valid G cs)) where
    pub dealt_value : dealt G w i k count cs ≡ value (list_ops G w) (embedded G w k ∷ rows w count cs) (point i)
    dealt_value = terms_list (embedded G w k ∷ rows w count cs) (dealing_ok count k cs some enough key valid) (point i)

    pub dealt_ok : T (ok G w (dealt G w i k count cs))
    dealt_ok = terms_ok (embedded G w k ∷ rows w count cs) (dealing_ok count k cs some enough key valid) 0 (point i)

  pub zero_is_key : 0 < w → ZeroIsKey G w
  zero_is_key some k count cs key valid enough =
      dealt_value 0 count k cs some enough key valid ∙ ap (λ (a : Tuple G w). a.0) ((tuple_sums G L w).add_nil (embedded G w k, embedded_ok k some key))

  -- the share of the holder j, of n
  pub row_ok : (j n : ℕ) (shares : List C) → 1 ≤ j → j ≤ n → length shares ≡ n * w → T (all_valid G shares) → T (ok G w (row_at w (j - 1) shares))
  row_ok j n shares low high e h =
      ok_of G w (row_at w (j - 1) shares)
      (length-take-le w (drop ((j - 1) * w) shares) (omega (arith, row_before j n w low high, length-drop ((j - 1) * w) shares)))
      (part_valid G w ((j - 1) * w) shares h)

  total_ok : (f : ℕ → List C) (B : List ℕ) → AllByRecursion (λ j. T (ok G w (f j))) B → T (ok G w (total (list_ops G w) f B))
  total_ok f [] h = zero_ok G L w
  total_ok f (j ∷ B) h = plus_ok G L w (f j) (total (list_ops G w) f B) h.0 (total_ok f B h.1)

module _ {C : Type 0} (G : GroupOps C) (L : GroupLaws G) (q : ℕ) (two : 2 ≤ q) where
  pub difference_less : (k j : ℕ) (m : List C) → T (ok G (q - 1) m) → act (list_ops G (q - 1)) (difference k j) m ≡ act (list_ops G (q - 1)) (less (point k) (point j)) m
  difference_less k j = act_equal G L (q - 1) (difference k j) (less (point k) (point j)) (across_less (tuple_sums G L (q - 1)) k j)

  pub around_list : (inv : ℕ → ℕ) → Inverts q inv → (k j : ℕ) → k < q → j < q → (k ≡ j → ⊥) → (m : List C) → T (ok G (q - 1) m)
      → act (list_ops G (q - 1)) (inverse_around q inv k j) m ≡ act (list_ops G (q - 1)) (inverse q inv k j) m
  around_list inv inverts k j hk hj apart = act_equal G L (q - 1) (inverse_around q inv k j) (inverse q inv k j) (around_inverse (tuple_laws G L q two) inv inverts k j hk hj apart)

  pub weight_ok : (B : List ℕ) (p j n : ℕ) (shares : List C) → 1 ≤ j → j ≤ n → length shares ≡ n * (q - 1) → T (all_valid G shares) → T (ok G (q - 1) (act (list_ops G (q - 1)) (weight_at q B p j) (row_at (q - 1) (j - 1) shares)))
  weight_ok B p j n shares low high e h = act_ok G L (q - 1) (weight_at q B p j) _ (row_ok G L (q - 1) j n shares low high e h)

  pub tuple_at_ok : (B : List ℕ) (p n : ℕ) (shares : List C) → length shares ≡ n * (q - 1) → AllByRecursion (λ j. (1 ≤ j) × (j ≤ n)) B → T (all_valid G shares) → T (ok G (q - 1) (tuple_at G q B p shares))
  tuple_at_ok B p n shares e inside h =
      total_ok G L (q - 1) _ B (All-weaker (λ j. (1 ≤ j) × (j ≤ n)) _ (λ j t. weight_ok B p j n shares t.0 t.1 e h) B inside)

  -- as the tuples' polynomials, so those of lists
  lists_interpolate : Inverts q (inverse_number q) → (B : List ℕ) → Distinct B → AllByRecursion (λ j. j < q) B → (rs : List (List C)) → AllByRecursion (λ r. T (ok G (q - 1) r)) rs → length rs ≤ length B → (p : ℕ) (f : ℕ → List C) → AllByRecursion (λ j. f j ≡ value (list_ops G (q - 1)) rs (point j)) B → total (list_ops G (q - 1)) (λ j. act (list_ops G (q - 1)) (weight_at q B p j) (f j)) B ≡ value (list_ops G (q - 1)) rs (point p)
  lists_interpolate inverts B distinct below rs h short p f same =
      let w : ℕ = q - 1 in
      let O = list_ops G w in
      let cs : List (Tuple G w) = lifted G L w rs h in
      let shared : ℕ → Tuple G w = λ j. act (tuple_ops G L w) (weight_at q B p j) (value (tuple_ops G L w) cs (point j)) in
      let parts : AllByRecursion (λ j. (shared j).0 ≡ act O (weight_at q B p j) (f j)) B =
      All-weaker (λ j. f j ≡ value O rs (point j)) (λ j. (shared j).0 ≡ act O (weight_at q B p j) (f j))
      (λ j e. act_list G L w (weight_at q B p j) (value (tuple_ops G L w) cs (point j)) ∙ ap (act O (weight_at q B p j)) (value_list G L w rs h (point j) ∙ sym e)) B same in
      sym (total_list G L w shared (λ j. act O (weight_at q B p j) (f j)) B parts)
      ∙ ap (λ (a : Tuple G w). a.0) ((sharing (tuple_laws G L q two) (inverse_number q) inverts).interpolates B distinct below cs (omega (arith, length_lifted G L w rs h)) p)
      ∙ value_list G L w rs h (point p)

  pub interpolates : Inverts q (inverse_number q) → Interpolates G q
  interpolates inverts B some distinct inside k cs shares key valid n dealings p =
      let w : ℕ = q - 1 in
      let count : ℕ = length B - 1 in
      let wide : 0 < w = omega arith in
      let enough : count * w ≤ length cs = omega arith in
      let rs : List (List C) = embedded G w k ∷ rows w count cs in
      let value_of : (i : ℕ) → dealt G w i k count cs ≡ value (list_ops G w) rs (point i) = λ i. dealt_value G L w i count k cs wide enough key valid in
      lists_interpolate inverts B distinct (All-weaker (λ j. (1 ≤ j) × (j < q)) (λ j. j < q) (λ j t. t.1) B inside)
      rs (dealing_ok G L w count k cs wide enough key valid) (omega (arith, length_rows w count cs)) p (λ j. row_at w (j - 1) shares)
      (All-weaker (λ j. row_at w (j - 1) shares ≡ dealt G w j k count cs) (λ j. row_at w (j - 1) shares ≡ value (list_ops G w) rs (point j)) (λ j e. e ∙ value_of j) B dealings)
      ∙ sym (value_of p)
