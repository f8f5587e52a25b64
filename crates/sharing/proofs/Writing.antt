-- What a tuple that is written place by place holds.
use Rattle.std.proofs.Common.{◌≡◌, ℕ, ◌<◌, T, List, length, get_or, sym, ◌∙◌, arith}
use Rattle.std.proofs.lemmas.List.{same_lists, get_or_default}
use Rattle.algebra.specs.Group.{GroupOps, GroupLaws}
use Rattle.algebra.specs.Tuples.{all_valid, tuple_plus}
use Rattle.algebra.specs.Valid.{length_plus, valid_at}
use Rattle.algebra.proofs.Places.{get_or_plus}
use Rattle.sharing.specs.declared.shares.Change.{Change}
use Rattle.sharing.specs.Shares.{changed_element, changed}
use Rattle.sharing.proofs.Changing.{changed_at, length_changed}

module _ {C : Type 0} (G : GroupOps C) (xs zs : List C) (q : length zs ≡ length xs) (v : T (all_valid G xs)) where
  module _ (ys : List C) (p : length ys ≡ length xs) (w : T (all_valid G ys)) where
    pub plus_written : ((k : ℕ) (d : C) → k < length xs → T (G.valid (get_or xs k d)) → T (G.valid (get_or ys k d)) → get_or zs k d ≡ G.plus (get_or xs k d) (get_or ys k d))
        → zs ≡ tuple_plus G xs ys
    plus_written each = same_lists zs (tuple_plus G xs ys) (q ∙ sym (length_plus G xs ys p)) (λ k d l.
        let a : k < length xs = omega arith in
        let b : k < length ys = omega arith in
        each k d a (valid_at G xs k d a v) (valid_at G ys k d b w) ∙ sym (get_or_plus G xs ys k d a b))

    pub changed_written : GroupLaws G → (c : Change) → ((k : ℕ) (d : C) → k < length xs → T (G.valid (get_or xs k d)) → T (G.valid (get_or ys k d)) → get_or zs k d ≡ changed_element G c (get_or xs k d) (get_or ys k d))
        → zs ≡ changed G c xs ys
    changed_written L c each = same_lists zs (changed G c xs ys) (q ∙ sym (length_changed G L c xs ys p)) (λ k d l.
        let a : k < length xs = omega arith in
        let b : k < length ys = omega arith in
        let r : k < length (changed G c xs ys) = omega (arith, length_changed G L c xs ys p) in
        let x : get_or xs k d ≡ get_or xs k (get_or xs k d) = get_or_default xs k d (get_or xs k d) a in
        let y : get_or ys k d ≡ get_or ys k (get_or ys k d) = get_or_default ys k d (get_or ys k d) b in
        changed_at G L c xs ys k (get_or xs k d) (get_or ys k d) (get_or zs k d) a b x y (each k d a (valid_at G xs k d a v) (valid_at G ys k d b w))
        ∙ get_or_default (changed G c xs ys) k (get_or zs k d) d r)
