-- Lists as tuples, and what polynomials of tuples say of the lists.
use Rattle.std.proofs.Common.{◌≡◌, ℕ, ◌*◌, ◌<◌, ◌≤◌, Bool, true, false, T, List, [], ◌∷◌, map, length, sym, refl, ap, ◌∙◌, subst, ap₂}
use Rattle.std.specs.List.{AllByRecursion}
use Rattle.algebra.specs.Group.{GroupOps, GroupLaws}
use Rattle.algebra.specs.Tuples.{all_valid, tuple_plus, tuple_minus, ok, list_ops}
use Rattle.algebra.specs.Space.{Tuple, tuple_ops}
use Rattle.algebra.specs.Scalars.{Scalar, one, minus, act, point}
use Rattle.algebra.specs.Sharing.{value, total, join}
use Rattle.algebra.specs.Rows.{rows}
use Rattle.algebra.specs.Dealing.{embedded, dealt}
use Rattle.algebra.proofs.TupleModule.{tuple_sums, act_list}
use Rattle.algebra.proofs.Polynomials.{value_join, value_act}
use Rattle.algebra.proofs.Dealings.{dealing_ok, dealt_value}
use Rattle.sharing.specs.declared.shares.Change.{Change}
use Rattle.sharing.specs.declared.shares.Change.TheVariants.{Add, Subtract}
use Rattle.sharing.specs.Shares.{changed}

module _ {C : Type 0} (G : GroupOps C) (L : GroupLaws G) (w : ℕ) where
  lift_by : (m : List C) (b : Bool) → ok G w m ≡ b → Tuple G w
  lift_by m true e = (m, subst T (sym e) tt)
  lift_by m false e = (tuple_ops G L w).nil

  lifts : (m : List C) (b : Bool) (e : ok G w m ≡ b) → T b → (lift_by m b e).0 ≡ m
  unfolding lift_by
  lifts m true e h = refl
  lifts m false e h = absurd h

  -- a list as a tuple, which is zero where the list is none
  pub lift : List C → Tuple G w
  lift m = lift_by m (ok G w m) refl

  pub lift_ok : (m : List C) → T (ok G w m) → (lift m).0 ≡ m
  unfolding lift
  lift_ok m h = lifts m (ok G w m) refl h

  pub value_lift : (rs : List (List C)) → AllByRecursion (λ r. T (ok G w r)) rs → (z : Scalar) → (value (tuple_ops G L w) (map lift rs) z).0 ≡ value (list_ops G w) rs z
  value_lift [] h z = refl
  value_lift (r ∷ rs) h z = ap₂ (tuple_plus G) (lift_ok r h.0) (act_list G L w z _ ∙ ap (act (list_ops G w) z) (value_lift rs h.1 z))

  pub total_lift : (f : ℕ → Tuple G w) (g : ℕ → List C) (B : List ℕ) → AllByRecursion (λ j. (f j).0 ≡ g j) B → (total (tuple_ops G L w) f B).0 ≡ total (list_ops G w) g B
  total_lift f g [] h = refl
  total_lift f g (j ∷ B) h = ap₂ (tuple_plus G) h.0 (total_lift f g B h.1)

  -- the polynomial of a key and coefficients
  abbrev pub poly_of : C → ℕ → List C → List (Tuple G w)
  poly_of k count cs = map lift (embedded G w k ∷ rows w count cs)

  pub poly_dealt : (k : C) (count : ℕ) (cs : List C) → 0 < w → count * w ≤ length cs → T (G.valid k) → T (all_valid G cs)
      → (i : ℕ) → dealt G w i k count cs ≡ (value (tuple_ops G L w) (poly_of k count cs) (point i)).0
  poly_dealt k count cs some enough key valid i =
      dealt_value G L w i count k cs some enough key valid ∙ sym (value_lift (embedded G w k ∷ rows w count cs) (dealing_ok G L w count k cs some enough key valid) (point i))

  abbrev pub signed : Change → List (Tuple G w) → List (Tuple G w)
  signed Add P = P
  signed Subtract P = map (tuple_ops G L w).neg P

  -- a share that was a value of P, changed by a value of D
  pub changed_value : (d : Change) (m y : List C) (P D : List (Tuple G w)) (z : Scalar)
      → m ≡ (value (tuple_ops G L w) P z).0 → y ≡ (value (tuple_ops G L w) D z).0 → changed G d m y ≡ (value (tuple_ops G L w) (join (tuple_ops G L w) P (signed d D)) z).0
  changed_value Add m y P D z e f = ap₂ (tuple_plus G) e f ∙ sym (ap (λ (a : Tuple G w). a.0) (value_join (tuple_sums G L w) P D z))
  changed_value Subtract m y P D z e f =
      ap₂ (λ a b. tuple_plus G a (tuple_minus G b)) e f
      ∙ sym (ap (λ (a : Tuple G w). a.0) (value_join (tuple_sums G L w) P (map (tuple_ops G L w).neg D) z ∙ ap ((tuple_ops G L w).add (value (tuple_ops G L w) P z)) (value_act (tuple_sums G L w) (minus one) D z)))
