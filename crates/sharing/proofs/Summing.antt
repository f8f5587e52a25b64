-- The tuple that some shares give at a point, from the last helper to the first.
use Rattle.std.proofs.Common.{◌≡◌, ℕ, ◌+◌, ◌-◌, ◌*◌, ◌%◌, ◌≤◌, T, List, ◌∷◌, length, take, drop, sym, ap, ◌∙◌}
use Rattle.algebra.specs.Group.{GroupOps, GroupLaws}
use Rattle.algebra.specs.Tuples.{all_valid, tuple_plus, list_ops}
use Rattle.algebra.specs.Valid.{plus_tuple_valid}
use Rattle.algebra.specs.Space.{ok_of}
use Rattle.algebra.specs.Scalars.{act}
use Rattle.algebra.specs.Sharing.{total}
use Rattle.algebra.specs.Rows.{row_at}
use Rattle.algebra.specs.Dealing.{weight_at}
use Rattle.algebra.proofs.TupleSums.{tuple_comm}
use Rattle.algebra.proofs.RowLists.{part_row, part_valid}
use Rattle.sharing.proofs.Acting.{as_valid, act_valid}
use Rattle.sharing.proofs.Weights.{weight_turned}

-- what the helper j adds
abbrev pub part_at : {C : Type 0} → GroupOps C → ℕ → List ℕ → ℕ → List C → ℕ → List C
part_at G q hs p shares j = act (list_ops G (q - 1)) (weight_at q hs p j) (row_at (q - 1) (j - 1) shares)

module _ {C : Type 0} (G : GroupOps C) (L : GroupLaws G) (q : ℕ) (hs : List ℕ) (p : ℕ) (shares : List C) where
  -- the share m of one helper more is added, weighted for a point as many whole turns away
  pub sum_step : (done : List ℕ) (j v : ℕ) (out after : List C) → let a : ℕ = (j - 1) * v in let m : List C = take (a + v - a) (drop a shares) in 2 ≤ q
      → v ≡ q - 1
      → length m ≡ q - 1
      → (T (all_valid G m) → T (all_valid G out) → after ≡ tuple_plus G out (act (list_ops G (q - 1)) (weight_at q hs (p % q) j) m))
      → T (all_valid G shares) → (out ≡ total (list_ops G (q - 1)) (part_at G q hs p shares) done) × T (all_valid G out)
      → (after ≡ total (list_ops G (q - 1)) (part_at G q hs p shares) (j ∷ done)) × T (all_valid G after)
  sum_step done j v out after two width n add valid inv =
      let w : ℕ = q - 1 in
      let a : ℕ = (j - 1) * v in
      let m : List C = take (a + v - a) (drop a shares) in
      let part : List C = part_at G q hs p shares j in
      let vm : T (all_valid G m) = part_valid G (a + v - a) a shares valid in
      let r : m ≡ row_at w (j - 1) shares = part_row v a shares ∙ ap (λ (b : ℕ). row_at b (j - 1) shares) width in
      let e : act (list_ops G w) (weight_at q hs (p % q) j) m ≡ part = weight_turned G L q p j two hs m (ok_of G w m n vm) ∙ ap (act (list_ops G w) (weight_at q hs p j)) r in
      let vp : T (all_valid G part) = as_valid G L part _ (sym e) (act_valid G L w m n vm (weight_at q hs (p % q) j)) in
      let u : after ≡ tuple_plus G out part = add vm inv.1 ∙ ap (tuple_plus G out) e in (
        u ∙ tuple_comm G L out part inv.1 vp ∙ ap (tuple_plus G part) inv.0,
        as_valid G L after (tuple_plus G out part) u (plus_tuple_valid G L out part inv.1 vp),
      )
