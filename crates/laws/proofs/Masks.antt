-- A dealing with another key and a mask is accepted as the dealing was, and deals the same shares to the holders of the mask.
use Rattle.std.proofs.Common.{◌≡◌, ℕ, zero, suc, ◌-◌, ◌*◌, ◌<◌, ◌≤◌, T, List, [], ◌∷◌, map, length, get_or, take, drop, sym, refl, ap, ◌∙◌, subst, ap₂, arith}
use mathlib.Core.List.{zip_with}
use Rattle.std.specs.List.{AllByRecursion}
use Rattle.std.proofs.ByRecursion.{All-weaker}
use Rattle.std.proofs.lemmas.List.{length-map}
use Rattle.algebra.specs.Group.{GroupOps, GroupLaws}
use Rattle.algebra.specs.Module.{ModuleOps, ModuleLaws}
use Rattle.algebra.specs.Tuples.{all_valid, tuple_zero, tuple_plus, tuple_less, ok, list_ops}
use Rattle.algebra.specs.Valid.{plus_tuple_valid, length_plus}
use Rattle.algebra.specs.Space.{Tuple, tuple_ops, plus_ok}
use Rattle.algebra.specs.Scalars.{Scalar, one, minus, act, point, geometric}
use Rattle.algebra.specs.Sharing.{value, grow, cover}
use Rattle.algebra.specs.Theorems.{Inverts}
use Rattle.algebra.specs.Primes.{inverse_number}
use Rattle.algebra.specs.Rows.{rows, flat}
use Rattle.algebra.specs.Dealing.{embedded, dealt}
use Rattle.algebra.proofs.Actions.{nil_add, redo, interchange, act_nil, act_add}
use Rattle.algebra.proofs.TupleModule.{same_tuple, tuple_laws, act_list}
use Rattle.algebra.proofs.Theorems.{sharing}
use Rattle.algebra.proofs.PrimeNumbers.{inverts}
use Rattle.algebra.proofs.RowLists.{length_rows}
use Rattle.algebra.proofs.Dealings.{rows_ok, embedded_ok}
use Rattle.sharing.specs.declared.scheme.Scheme.{Scheme}
use Rattle.laws.specs.Disguises.{padded, point_inverse, mask}
use Rattle.laws.specs.Promises.{InScheme, Masks}
use Rattle.laws.proofs.Memory.{flat_rows_are, flat_long, flat_valid}
use Rattle.laws.proofs.Lifting.{lift, lift_ok, poly_of, poly_dealt}
use Rattle.laws.proofs.Keeps.{O, wide, two}

-- a property for every d, at every element
all_pi : {X D : Type 0} (P : D → X → Type 0) (xs : List X) → ((d : D) → AllByRecursion (P d) xs) → AllByRecursion (λ x. (d : D) → P d x) xs
all_pi P [] f = tt
all_pi P (x ∷ xs) f = (λ d. (f d).0, all_pi P xs (λ d. (f d).1))

length_padded : {M : Type 0} (nil : M) (n : ℕ) (ms : List M) → length (padded nil n ms) ≡ n
length_padded nil zero ms = refl
length_padded nil (suc n) [] = ap suc (length_padded nil n [])
length_padded nil (suc n) (m ∷ ms) = ap suc (length_padded nil n ms)

module _ {M : Type 0} {O : ModuleOps M} {q : ℕ} (L : ModuleLaws O q) where
  open O use {nil, add, neg}

  value_padded : (n : ℕ) (cs : List M) (z : Scalar) → length cs ≤ n → value O (padded nil n cs) z ≡ value O cs z
  value_padded zero [] z h = refl
  value_padded zero (c ∷ cs) z h = absurd (omega arith)
  value_padded (suc n) [] z h = nil_add L _ ∙ ap (act O z) (value_padded n [] z (omega arith)) ∙ act_nil L z
  value_padded (suc n) (c ∷ cs) z h = ap (λ m. add c (act O z m)) (value_padded n cs z (omega arith))

  value_upper : (cs : List M) (z : Scalar) → add (get_or cs 0 nil) (act O z (value O (drop 1 cs) z)) ≡ value O cs z
  value_upper [] z = nil_add L _ ∙ act_nil L z
  value_upper (c ∷ cs) z = refl

  length_upper : (n : ℕ) (cs : List M) → length cs ≡ suc n → length (drop 1 cs) ≡ n
  length_upper n [] h = absurd (omega arith)
  length_upper n (c ∷ cs) h = omega arith

  -- where each cover vanishes, the mask makes up for the new key
  masked_value : (inv : ℕ → ℕ) → Inverts q inv → (B : List ℕ) (z : Scalar) → ((δ : M) → value O (cover O (λ i. geometric i (inv i)) B δ) z ≡ nil) → (n : ℕ) → length B ≤ n → (cs : List M) → length cs ≡ n → (a b : M)
      → value O (b ∷ zip_with add cs (padded nil n (drop 1 (cover O (λ i. geometric i (inv i)) B (add b (neg a)))))) z ≡ value O (a ∷ cs) z
  masked_value inv good B z blind n few cs long a b =
      let δ = add b (neg a) in
      let cov = cover O (λ i. geometric i (inv i)) B δ in
      let shape = sharing L inv good in
      let u = act O z (value O (drop 1 cov) z) in
      let w = act O z (value O cs z) in
      let size : length (drop 1 cov) ≡ length B = length_upper (length B) cov (shape.cover_length B δ) in
      let none : add δ u ≡ nil = ap (λ m. add m u) (sym (shape.cover_first B δ)) ∙ value_upper cov z ∙ blind δ in
      let parts : value O (zip_with add cs (padded nil n (drop 1 cov))) z ≡ add (value O cs z) (value O (drop 1 cov) z)
      = shape.sum cs (padded nil n (drop 1 cov)) (long ∙ sym (length_padded nil n _)) z ∙ ap (add _) (value_padded n (drop 1 cov) z (omega arith)) in
      ap₂ (λ x y. add x (act O z y)) (sym (redo L b a)) parts
      ∙ ap (add _) (act_add L z _ _) ∙ interchange L _ _ _ _ ∙ ap (add (add a w)) none ∙ L.add_nil _

module _ {C : Type 0} (G : GroupOps C) where
  plus_none : (xs : List C) → tuple_plus G xs [] ≡ []
  plus_none [] = refl
  plus_none (x ∷ xs) = refl

  take_plus : (n : ℕ) (xs ys : List C) → take n (tuple_plus G xs ys) ≡ tuple_plus G (take n xs) (take n ys)
  take_plus zero xs ys = refl
  take_plus (suc n) [] ys = refl
  take_plus (suc n) (x ∷ xs) [] = refl
  take_plus (suc n) (x ∷ xs) (y ∷ ys) = ap (λ zs. G.plus x y ∷ zs) (take_plus n xs ys)

  drop_plus : (n : ℕ) (xs ys : List C) → drop n (tuple_plus G xs ys) ≡ tuple_plus G (drop n xs) (drop n ys)
  drop_plus zero xs ys = refl
  drop_plus (suc n) [] ys = refl
  drop_plus (suc n) (x ∷ xs) [] = sym (plus_none (drop n xs))
  drop_plus (suc n) (x ∷ xs) (y ∷ ys) = drop_plus n xs ys

  rows_plus : (w n : ℕ) (xs ys : List C) → rows w n (tuple_plus G xs ys) ≡ zip_with (tuple_plus G) (rows w n xs) (rows w n ys)
  unfolding zip_with
  rows_plus w zero xs ys = refl
  rows_plus w (suc n) xs ys = ap₂ (λ r rs. r ∷ rs) (take_plus w xs ys) (ap (rows w n) (drop_plus w xs ys) ∙ rows_plus w n (drop w xs) (drop w ys))

-- the lists of tuples
module _ {C : Type 0} (G : GroupOps C) (L : GroupLaws G) (w : ℕ) where
  abbrev list_of : Tuple G w → List C
  list_of a = a.0

  grow_list : (u v : Scalar) (k : Tuple G w) (cs : List (Tuple G w)) → map list_of (grow (tuple_ops G L w) u v k cs) ≡ grow (list_ops G w) u v k.0 (map list_of cs)
  grow_list u v k [] = refl
  grow_list u v k (c ∷ cs) =
      ap₂ (λ m ms. tuple_plus G k.0 m ∷ ms) (act_list G L w u c)
      (grow_list u v (act (tuple_ops G L w) v c) cs ∙ ap (λ m. grow (list_ops G w) u v m (map list_of cs)) (act_list G L w v c))

  cover_list : (e : ℕ → Scalar) (B : List ℕ) (δ : Tuple G w) → map list_of (cover (tuple_ops G L w) e B δ) ≡ cover (list_ops G w) e B δ.0
  cover_list e [] δ = refl
  cover_list e (i ∷ B) δ = grow_list one (minus (e i)) (tuple_ops G L w).nil (cover (tuple_ops G L w) e B δ) ∙ ap (grow (list_ops G w) one (minus (e i)) (tuple_zero G w)) (cover_list e B δ)

  padded_list : (n : ℕ) (cs : List (Tuple G w)) → map list_of (padded (tuple_ops G L w).nil n cs) ≡ padded (tuple_zero G w) n (map list_of cs)
  padded_list zero cs = refl
  padded_list (suc n) [] = ap (λ ms. tuple_zero G w ∷ ms) (padded_list n [])
  padded_list (suc n) (c ∷ cs) = ap (λ ms. c.0 ∷ ms) (padded_list n cs)

  upper_list : (cs : List (Tuple G w)) → map list_of (drop 1 cs) ≡ drop 1 (map list_of cs)
  upper_list [] = refl
  upper_list (c ∷ cs) = refl

  lists_ok : (ms : List (Tuple G w)) → AllByRecursion (λ r. T (ok G w r)) (map list_of ms)
  lists_ok [] = tt
  lists_ok (m ∷ ms) = (m.1, lists_ok ms)

  lift_plus : (r : List C) (m : Tuple G w) → T (ok G w r) → lift G L w (tuple_plus G r m.0) ≡ (tuple_ops G L w).add (lift G L w r) m
  lift_plus r m h = same_tuple G w _ ((tuple_ops G L w).add (lift G L w r) m)
      (lift_ok G L w (tuple_plus G r m.0) (plus_ok G L w r m.0 h m.1) ∙ ap (λ a. tuple_plus G a m.0) (sym (lift_ok G L w r h)))

  lift_zip : (rs : List (List C)) (ms : List (Tuple G w)) → AllByRecursion (λ r. T (ok G w r)) rs → map (lift G L w) (zip_with (tuple_plus G) rs (map list_of ms)) ≡ zip_with (tuple_ops G L w).add (map (lift G L w) rs) ms
  unfolding zip_with
  lift_zip [] ms h = refl
  lift_zip (r ∷ rs) [] h = refl
  lift_zip (r ∷ rs) (m ∷ ms) h = ap₂ (λ x xs. x ∷ xs) (lift_plus r m h.0) (lift_zip rs ms h.1)

module _ {C : Type 0} (G : GroupOps C) (L : GroupLaws G) (s : Scheme) (B : List ℕ) where
  -- every cover vanishes at h
  abbrev pub Blind : ℕ → Type 0
  Blind h = (δ : Tuple G (s.q - 1)) → value (O G L s) (cover (O G L s) (λ i. geometric i (inverse_number s.q i)) B δ) (point h) ≡ (O G L s).nil

  pub all_blind : AllByRecursion (InScheme s) B → AllByRecursion Blind B
  all_blind inside = all_pi (λ δ h. value (O G L s) (cover (O G L s) (λ i. geometric i (inverse_number s.q i)) B δ) (point h) ≡ (O G L s).nil) B
      ((sharing (tuple_laws G L s.q (two G L s)) (inverse_number s.q) (inverts s.q s.prime s.small)).cover_vanishes B
      (All-weaker (InScheme s) (λ h. (0 < h) × (h < s.q)) (λ h b. (b.0, omega (arith, b.1, s.above))) B inside))

  module _ (old new : C) (valid-old : T (G.valid old)) (valid-new : T (G.valid new)) where
    abbrev key : C → Tuple G (s.q - 1)
    key k = lift G L (s.q - 1) (embedded G (s.q - 1) k)

    key_list : (k : C) → T (G.valid k) → (key k).0 ≡ embedded G (s.q - 1) k
    key_list k v = lift_ok G L (s.q - 1) (embedded G (s.q - 1) k) (embedded_ok G L (s.q - 1) k (wide G L s) v)

    -- the mask as tuples
    abbrev tuples : List (Tuple G (s.q - 1))
    tuples = padded (O G L s).nil (s.t - 1) (drop 1 (cover (O G L s) (point_inverse s.q) B ((O G L s).add (key new) ((O G L s).neg (key old)))))

    lists : List (List C)
    lists = map (list_of G L (s.q - 1)) tuples

    mask_lists : mask G s B old new ≡ flat lists
    unfolding lists
    mask_lists =
        let δ = (O G L s).add (key new) ((O G L s).neg (key old)) in
        let cov = cover (O G L s) (point_inverse s.q) B δ in
        sym (ap flat (padded_list G L (s.q - 1) (s.t - 1) (drop 1 cov)
        ∙ ap (padded (tuple_zero G (s.q - 1)) (s.t - 1)) (upper_list G L (s.q - 1) cov ∙ ap (drop 1) (cover_list G L (s.q - 1) (point_inverse s.q) B δ
        ∙ ap₂ (λ m n. cover (list_ops G (s.q - 1)) (point_inverse s.q) B (tuple_less G m n)) (key_list new valid-new) (key_list old valid-old)))))

    all_lists : length lists ≡ s.t - 1
    unfolding lists
    all_lists = length-map tuples (list_of G L (s.q - 1)) ∙ length_padded (O G L s).nil (s.t - 1) _

    oks : AllByRecursion (λ r. T (ok G (s.q - 1) r)) lists
    unfolding lists
    oks = lists_ok G L (s.q - 1) tuples

    pub mask_long : length (mask G s B old new) ≡ (s.t - 1) * (s.q - 1)
    mask_long = ap length mask_lists ∙ flat_long G (s.q - 1) lists oks ∙ ap (λ (n : ℕ). n * (s.q - 1)) all_lists

    pub mask_valid : T (all_valid G (mask G s B old new))
    mask_valid = subst (λ (xs : List C). T (all_valid G xs)) (sym mask_lists) (flat_valid G (s.q - 1) lists oks)

    mask_rows : rows (s.q - 1) (s.t - 1) (mask G s B old new) ≡ lists
    mask_rows = ap₂ (rows (s.q - 1)) (sym all_lists) mask_lists ∙ flat_rows_are G (s.q - 1) lists oks

    module _ (cs : List C) (count : length cs ≡ (s.t - 1) * (s.q - 1)) (valid : T (all_valid G cs)) where
      pub masked_count : length (tuple_plus G cs (mask G s B old new)) ≡ (s.t - 1) * (s.q - 1)
      masked_count = length_plus G cs (mask G s B old new) (mask_long ∙ sym count) ∙ count

      pub masked_valid : T (all_valid G (tuple_plus G cs (mask G s B old new)))
      masked_valid = plus_tuple_valid G L cs (mask G s B old new) valid mask_valid

      masked_poly : poly_of G L (s.q - 1) new (s.t - 1) (tuple_plus G cs (mask G s B old new)) ≡ key new ∷ zip_with (O G L s).add (map (lift G L (s.q - 1)) (rows (s.q - 1) (s.t - 1) cs)) tuples
      unfolding lists
      masked_poly = ap (λ ms. key new ∷ ms)
          (ap (map (lift G L (s.q - 1))) (rows_plus G (s.q - 1) (s.t - 1) cs (mask G s B old new) ∙ ap (zip_with (tuple_plus G) (rows (s.q - 1) (s.t - 1) cs)) mask_rows)
          ∙ lift_zip G L (s.q - 1) (rows (s.q - 1) (s.t - 1) cs) tuples (rows_ok G L (s.q - 1) (s.t - 1) cs (omega arith) valid))

      pub masked_dealt : length B < s.t → (h : ℕ) → Blind h → dealt G (s.q - 1) h new (s.t - 1) (tuple_plus G cs (mask G s B old new)) ≡ dealt G (s.q - 1) h old (s.t - 1) cs
      masked_dealt few h blind =
          let w : ℕ = s.q - 1 in
          let long : length (map (lift G L w) (rows w (s.t - 1) cs)) ≡ s.t - 1 = length-map (rows w (s.t - 1) cs) (lift G L w) ∙ length_rows w (s.t - 1) cs in
          poly_dealt G L w new (s.t - 1) (tuple_plus G cs (mask G s B old new)) (wide G L s) (omega (arith, masked_count)) valid-new masked_valid h
          ∙ ap (λ P. (value (O G L s) P (point h)).0) masked_poly
          ∙ ap (λ (a : Tuple G w). a.0) (masked_value (tuple_laws G L s.q (two G L s)) (inverse_number s.q) (inverts s.q s.prime s.small) B (point h) blind (s.t - 1) (omega arith) (map (lift G L w) (rows w (s.t - 1) cs)) long (key old) (key new))
          ∙ sym (poly_dealt G L w old (s.t - 1) cs (wide G L s) (omega arith) valid-old valid h)

  pub masks : Masks G s B
  masks old new v u = (mask_long old new v u, mask_valid old new v u)
