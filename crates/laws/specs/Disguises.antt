-- A history with other keys, and its coefficients changed so that the shares of some holders stay as they are.
use Rattle.std.specs.Prelude.{ℕ, zero, suc, ◌-◌, List, [], ◌∷◌, drop}
use Rattle.algebra.specs.Group.{GroupOps}
use Rattle.algebra.specs.Tuples.{tuple_zero, tuple_plus, tuple_less, list_ops}
use Rattle.algebra.specs.Scalars.{Scalar, geometric}
use Rattle.algebra.specs.Sharing.{cover}
use Rattle.algebra.specs.Primes.{inverse_number}
use Rattle.algebra.specs.Rows.{flat}
use Rattle.algebra.specs.Dealing.{embedded}
use Rattle.sharing.specs.declared.scheme.Scheme.{Scheme}
use Rattle.history.specs.Calls.{Deal, depositing, withdrawing, refreshing, Call, dealing, revoking, repairing, opening, Answer, epoch_is, holder_is, key_is, refused}
use Rattle.laws.specs.Histories.{Request, Entry}

-- the first n of some, with zeros after the last
abbrev pub padded : {M : Type 0} → M → ℕ → List M → List M
padded nil zero ms = []
padded nil (suc n) [] = nil ∷ padded nil n []
padded nil (suc n) (m ∷ ms) = m ∷ padded nil n ms

-- the inverse of the point i
abbrev pub point_inverse : ℕ → ℕ → Scalar
point_inverse q i = geometric i (inverse_number q i)

module _ {C : Type 0} (G : GroupOps C) (s : Scheme) where
  -- what is added to the coefficients of old when new takes its place: the polynomial that is new less old at 0 and vanishes at S, but for its first coefficient
  abbrev pub mask : List ℕ → C → C → List C
  mask S old new =
      flat (padded (tuple_zero G (s.q - 1)) (s.t - 1)
      (drop 1 (cover (list_ops G (s.q - 1)) (point_inverse s.q) S (tuple_less G (embedded G (s.q - 1) new) (embedded G (s.q - 1) old)))))

  -- a dealing with the key new
  abbrev pub rekeyed : List ℕ → C → Deal C → List C → Call C
  rekeyed S new (depositing old) cs = dealing (depositing new) (tuple_plus G cs (mask S old new))
  rekeyed S new (withdrawing old) cs = dealing (withdrawing new) (tuple_plus G cs (mask S old new))
  rekeyed S new refreshing cs = dealing refreshing cs

  -- a dealing with the key new, where it was accepted
  abbrev pub redealt : List ℕ → C → Answer C → Deal C → List C → Call C
  redealt S new (epoch_is e) d cs = rekeyed S new d cs
  redealt S new (holder_is h) d cs = dealing d cs
  redealt S new (key_is k) d cs = dealing d cs
  redealt S new (refused f) d cs = dealing d cs

  -- a call that was answered by r, with the key new where it is an accepted deposit or withdrawal
  abbrev pub disguised : List ℕ → C → Answer C → Call C → Call C
  disguised S new r (dealing d cs) = redealt S new r d cs
  disguised S new r (revoking h) = revoking h
  disguised S new r (repairing h hs) = repairing h hs
  disguised S new r (opening hs) = opening hs

  -- the requests of a history with other keys: one for each request, in their order
  abbrev pub disguise : List ℕ → (ℕ → C) → List (Entry C) → List (Request C)
  disguise S keys [] = []
  disguise S keys (x ∷ xs) =
      record { call = disguised S (keys 0) x.answer x.request.call; working = x.request.working } ∷ disguise S (λ i. keys (suc i)) xs
