-- A walk of a list from its end: what is ahead, and what is done.
use Rattle.std.proofs.Common.{◌≡◌, ℕ, ◌<◌, List, [], ◌∷◌, ◌++◌, length, get_or, ap, ◌∙◌, subst, arith}
use Rattle.std.specs.List.{push}
use Rattle.std.proofs.Math.Seq.{get_or-append_seam}
use Rattle.std.proofs.lemmas.List.{append_assoc, length-append}

module _ {X : Type 0} (xs rest ahead done : List X) (x : X) (all : xs ≡ rest ++ done) (one : rest ≡ push ahead x) where
  pub walked : xs ≡ ahead ++ (x ∷ done)
  walked = all ∙ ap (λ r. r ++ done) one ∙ append_assoc ahead (x ∷ []) done

  -- what holds at each place holds of the element between
  pub kept : (P : X → Type 0) (d : X) → ((i : ℕ) → i < length xs → P (get_or xs i d)) → P x
  kept P d each =
      let within : length ahead < length xs = omega (arith, ap length walked, length-append ahead (x ∷ done)) in
      subst P (ap (λ l. get_or l (length ahead) d) walked ∙ get_or-append_seam ahead x done d) (each (length ahead) within)
