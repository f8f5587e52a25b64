-- A row of the share memory that is written anew.
use Rattle.std.proofs.Common.{◌≡◌, ℕ, ◌+◌, ◌-◌, ◌*◌, List, ap, ◌∙◌, ap₂}
use borrow.Rule.Slice.PartMut.{put_mid}
use Rattle.algebra.specs.Rows.{put_row}
use Rattle.algebra.proofs.RowLists.{put_part}

pub row_written : {C : Type 0} (w h start end : ℕ) (xs after : List C) → start ≡ h * w → end ≡ start + w → put_mid start (end - start) xs after ≡ put_row w h after xs
row_written w h start end xs after e f =
    ap₂ (λ (i j : ℕ). put_mid i (j - i) xs after) e (f ∙ ap (λ (i : ℕ). i + w) e) ∙ put_part w (h * w) xs after
