-- A list of helpers that no row refuses: t different holders of the scheme.
use Rattle.std.proofs.Common.{◌≡◌, ℕ, suc, ◌-◌, ◌*◌, ◌<◌, ◌≤◌, false, not, ◌||◌, eqb, ltb, List, [], ◌∷◌, ◌++◌, length, get_or, take, None, sym, refl, arith}
use Rattle.std.proofs.lemmas.Bool.{not-false, eqb-true, eqb-false, ltb-false, le-ltb, or_parts, or_from}
use Rattle.std.specs.List.{AllByRecursion}
use Rattle.algebra.specs.Rows.{first_place}
use Rattle.algebra.specs.Theorems.{Distinct}
use Rattle.sharing.specs.declared.fault.CabinetFault.TheVariants.{MemoryLength, CoefficientCount, UnknownHolder, HelperCount, UnknownHelper, RepeatedHelper}
use Rattle.sharing.specs.declared.scheme.Scheme.{Scheme}
use Rattle.sharing.specs.Verdicts.{length_row, first}
use Rattle.sharing.specs.Helpers.{among, unknown_at, repeated_at, helper_rows}
use Rattle.sharing.specs.Shares.{length_rows, dealing_rows, tuple_rows}
use Rattle.sharing.proofs.Verdicts.{first_none, row_none, located_none, fails_everywhere, everywhere, length_fits, row_passes, first_passes}

pub all_places : (P : ℕ → Type 0) (xs : List ℕ) → ((k : ℕ) → k < length xs → P (get_or xs k 0)) → AllByRecursion P xs
all_places P [] h = tt
all_places P (x ∷ xs) h = (h 0 (omega arith), all_places P xs (λ k l. h (suc k) (omega arith)))

-- a list in which no number stands at an earlier position too
pub distinct : (hs : List ℕ) → ((k : ℕ) → k < length hs → repeated_at hs k ≡ false) → Distinct hs
distinct [] h = tt
distinct (b ∷ hs) h = (
  all_places (λ k. k ≡ b → ⊥) hs (λ k l e. eqb-false b (get_or hs k 0) (or_parts (eqb b (get_or hs k 0)) (among (get_or hs k 0) (take k hs)) (h (suc k) (omega arith))).0 (sym e)),
  distinct hs (λ k l. (or_parts (eqb b (get_or hs k 0)) (among (get_or hs k 0) (take k hs)) (h (suc k) (omega arith))).1),
)

-- where no helper is unknown, all are holders
pub holders : (n : ℕ) (hs : List ℕ) → first_place (unknown_at n hs) 0 (length hs) ≡ None → (k : ℕ) → k < length hs → (1 ≤ get_or hs k 0) × (get_or hs k 0 ≤ n)
holders n hs e k l =
    let q = or_parts (ltb (get_or hs k 0) 1) (ltb n (get_or hs k 0)) (fails_everywhere (unknown_at n hs) (length hs) e k l) in
    (ltb-false (get_or hs k 0) 1 q.0, ltb-false n (get_or hs k 0) q.1)

module _ (s : Scheme) (hs : List ℕ) where
  pub record Chosen : Type 0 where
    pub right : length hs ≡ s.t
    pub known : (k : ℕ) → k < length hs → (1 ≤ get_or hs k 0) × (get_or hs k 0 ≤ s.n)
    pub different : Distinct hs

  pub chosen : first (helper_rows s hs) ≡ None → Chosen
  chosen e =
      let a = first_none _ _ e in
      let b = first_none _ _ a.1 in
      let c = first_none _ _ b.1 in
      record {
        right = eqb-true (length hs) s.t (not-false (eqb (length hs) s.t) (row_none (not (eqb (length hs) s.t)) (HelperCount (length hs)) a.0));
        known = holders s.n hs (located_none UnknownHelper (first_place (unknown_at s.n hs) 0 (length hs)) b.0);
        different = distinct hs (everywhere (repeated_at hs) RepeatedHelper (length hs) c.0);
      }

  pub picked : (out : ℕ) → first (tuple_rows s out hs) ≡ None → Chosen
  picked out e = chosen (first_none (length_row MemoryLength (s.q - 1) out) (helper_rows s hs) e).1

  -- what is asked is not refused
  pub takeable : (shares scratch out : ℕ) → shares ≡ s.n * (s.q - 1) → scratch ≡ 3 * (s.q - 1) → out ≡ s.q - 1 → first (helper_rows s hs) ≡ None
      → first (length_rows s shares scratch ++ tuple_rows s out hs) ≡ None
  takeable shares scratch out a b c d =
      first_passes _ _ (length_fits MemoryLength (s.n * (s.q - 1)) shares a)
      (first_passes _ _ (length_fits MemoryLength (3 * (s.q - 1)) scratch b) (first_passes _ _ (length_fits MemoryLength (s.q - 1) out c) d))

pub dealable : (s : Scheme) (shares scratch count h : ℕ) → shares ≡ s.n * (s.q - 1) → scratch ≡ 3 * (s.q - 1) → count ≡ (s.t - 1) * (s.q - 1) → 1 ≤ h → h ≤ s.n
    → first (length_rows s shares scratch ++ dealing_rows s count h) ≡ None
dealable s shares scratch count h a b c low high =
    first_passes _ _ (length_fits MemoryLength (s.n * (s.q - 1)) shares a)
    (first_passes _ _ (length_fits MemoryLength (3 * (s.q - 1)) scratch b)
    (first_passes _ _ (length_fits CoefficientCount ((s.t - 1) * (s.q - 1)) count c)
    (first_passes _ _ (row_passes (ltb h 1 || ltb s.n h) UnknownHolder (or_from (ltb h 1) (ltb s.n h) (le-ltb h 1 low) (le-ltb s.n h high))) refl)))
