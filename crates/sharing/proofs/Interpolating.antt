-- What t helpers' shares give at a point, where they were dealt from one key and coefficients.
use Rattle.std.proofs.Common.{◌≡◌, ℕ, ◌-◌, ◌*◌, ◌<◌, ◌≤◌, T, List, length, sym, ap, ◌∙◌, arith}
use Rattle.std.specs.List.{AllByRecursion}
use Rattle.algebra.specs.Group.{GroupOps, GroupLaws}
use Rattle.algebra.specs.Tuples.{all_valid}
use Rattle.algebra.specs.Rows.{row_at}
use Rattle.algebra.specs.Dealing.{dealt, tuple_at}
use Rattle.algebra.proofs.PrimeNumbers.{inverts}
use Rattle.algebra.proofs.Dealings.{interpolates, zero_is_key}
use Rattle.sharing.specs.declared.scheme.Scheme.{Scheme}
use Rattle.sharing.specs.Shares.{Interpolated}
use Rattle.sharing.proofs.Choosing.{all_places, Chosen}

module _ {C : Type 0} (G : GroupOps C) (L : GroupLaws G) (s : Scheme) (hs : List ℕ) (chosen : Chosen s hs) (p : ℕ) (shares m : List C) (is : m ≡ tuple_at G s.q hs p shares) where
  given : (k : C) (cs : List C) → T (G.valid k) → T (all_valid G cs) → length cs ≡ (s.t - 1) * (s.q - 1)
      → AllByRecursion (λ j. row_at (s.q - 1) (j - 1) shares ≡ dealt G (s.q - 1) j k (s.t - 1) cs) hs
      → m ≡ dealt G (s.q - 1) p k (s.t - 1) cs
  given k cs valid valids count dealt-all =
      let two : 2 ≤ s.q = omega (arith, s.above, s.allowed) in
      let some : 0 < length hs = omega (arith, chosen.right, s.allowed) in
      let inside : AllByRecursion (λ j. (1 ≤ j) × (j < s.q)) hs = all_places (λ j. (1 ≤ j) × (j < s.q)) hs (λ k l. ((chosen.known k l).0, omega (arith, (chosen.known k l).1, s.above))) in
      let n : s.t - 1 ≡ length hs - 1 = ap (λ (t : ℕ). t - 1) (sym chosen.right) in
      is
      ∙ interpolates G L s.q two (inverts s.q s.prime s.small) hs some chosen.different inside k cs shares valid valids
      (count ∙ ap (λ (t : ℕ). t * (s.q - 1)) n)
      (rw n at dealt-all) p
      ∙ ap (λ (t : ℕ). dealt G (s.q - 1) p k t cs) (sym n)

  pub interpolated : Interpolated G s hs p shares m
  interpolated = record {
    share = given;
    key = λ k cs valid valids count dealt-all zero.
        let wide : 0 < s.q - 1 = omega (arith, s.above, s.allowed) in
        given k cs valid valids count dealt-all
        ∙ ap (λ (i : ℕ). dealt G (s.q - 1) i k (s.t - 1) cs) zero
        ∙ zero_is_key G L (s.q - 1) wide k (s.t - 1) cs valid valids (omega arith);
  }
