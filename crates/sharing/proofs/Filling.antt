-- What calls of a closure that always answers the same leave in a list.
use Rattle.std.proofs.Common.{◌≡◌, List, [], ◌∷◌, length, replicate, refl, ap₂, subst}
use Rattle.std.specs.List.{FoldsTo}

pub filled : {A F : Type 0} (step : F → A → F → Type 0) (z : A) (f : F) → ((x : A) (q : F) → step f x q → (q ≡ f) × (x ≡ z))
    → (xs : List A) (last : F) → FoldsTo step f xs last → xs ≡ replicate (length xs) z
filled step z f same [] last e = refl
filled step z f same (x ∷ xs) last e =
    let s = same x e.0 e.1 in
    ap₂ (λ y ys. y ∷ ys) s.1 (filled step z f same xs last (subst (λ q. FoldsTo step q xs last) s.0 e.2))
