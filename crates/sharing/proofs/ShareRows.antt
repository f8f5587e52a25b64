-- One row of the share memory, as what its holder is dealt is added to it or taken from it.
use Rattle.std.proofs.Common.{◌≡◌, ℕ, ◌+◌, ◌-◌, ◌*◌, T, List, take, drop, ap, ◌∙◌}
use borrow.Rule.Slice.PartMut.{put_mid}
use Rattle.algebra.specs.Group.{GroupOps}
use Rattle.algebra.specs.Tuples.{all_valid}
use Rattle.algebra.specs.Rows.{row_at, put_row}
use Rattle.algebra.proofs.RowLists.{part_valid, part_row, put_part}
use Rattle.sharing.specs.declared.shares.Change.{Change}
use Rattle.sharing.specs.Shares.{changed}

module _ {C : Type 0} (G : GroupOps C) (d : Change) where
  -- the share memory after a part of it, a row of v ≡ w elements, was changed by a tuple
  pub row_changed : (v w h : ℕ) (xs tuple after : List C) → v ≡ w
      → (T (all_valid G (take (h * v + v - h * v) (drop (h * v) xs))) → after ≡ changed G d (take (h * v + v - h * v) (drop (h * v) xs)) tuple)
      → T (all_valid G xs) → put_mid (h * v) (h * v + v - h * v) xs after ≡ put_row w h (changed G d (row_at w h xs) tuple) xs
  row_changed v w h xs tuple after width e p =
      put_part v (h * v) xs after
      ∙ ap (λ (ys : List C). put_row v h ys xs) (e (part_valid G (h * v + v - h * v) (h * v) xs p) ∙ ap (λ (ys : List C). changed G d ys tuple) (part_row v (h * v) xs))
      ∙ ap (λ (n : ℕ). put_row n h (changed G d (row_at n h xs) tuple) xs) width
