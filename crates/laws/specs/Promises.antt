-- The laws of every history.
use Rattle.std.specs.Prelude.{◌≡◌, ℕ, ◌-◌, ◌*◌, ◌<◌, ◌≤◌, true, false, T, List, length, Some, None, ◌≢◌}
use Rattle.std.specs.List.{AllZip, AllByRecursion}
use Rattle.algebra.specs.Group.{GroupOps}
use Rattle.algebra.specs.Tuples.{tuple_zero, all_valid}
use Rattle.sharing.specs.declared.fault.CabinetFault.{CabinetFault}
use Rattle.sharing.specs.declared.fault.CabinetFault.TheVariants.{Disagreement}
use Rattle.sharing.specs.declared.scheme.Scheme.{Scheme}
use Rattle.history.specs.Ledgers.{is_present}
use Rattle.history.specs.Calls.{State, opening, key_is, refused}
use Rattle.laws.specs.Histories.{Request, Entry, left_by, history, share_of, public_fault, steady, total_at, dealt_to}
use Rattle.laws.specs.Disguises.{mask, disguise}

-- the number of a holder
abbrev pub InScheme : Scheme → ℕ → Type 0
InScheme s h = (1 ≤ h) × (h ≤ s.n)

module _ {C : Type 0} (G : GroupOps C) (s : Scheme) where
  -- an entry where the total is k
  pub record Opens (k : C) (x : Entry C) : Type 0 where
    -- an opening that no row on working memory and helpers refuses returned the total
    pub opened : (hs : List ℕ) → x.request.call ≡ opening hs → public_fault G s x.before.ledger (length x.request.working) (opening hs) ≡ None → x.answer ≡ key_is k
    -- no opening returned another key
    pub returned : (hs : List ℕ) (r : C) → x.request.call ≡ opening hs → x.answer ≡ key_is r → r ≡ k
    -- no opening found disagreement
    pub agreed : (hs : List ℕ) (i : ℕ) → x.request.call ≡ opening hs → x.answer ≢ refused (Disagreement i)
    -- no call was refused for the share memory: an opening only for working memory and helpers
    pub own_memory : (f : CabinetFault) → x.answer ≡ refused f → public_fault G s x.before.ledger (length x.request.working) x.request.call ≡ Some f

  -- each opening of a history returns the total at the epoch then
  abbrev pub OpensToTotal : Type 0
  OpensToTotal = (xs : List (Request C)) → AllByRecursion (λ x. Opens (total_at G x.before.ledger.epoch (history G s xs)) x) (history G s xs)

  -- the share of the holder h after some requests
  pub record AsDealt (xs : List (Request C)) (h : ℕ) : Type 0 where
    -- a present holder has what it was dealt
    pub dealt : is_present (left_by G s xs).ledger.holders h ≡ true → share_of G s h (left_by G s xs) ≡ dealt_to G s h (left_by G s xs).ledger.epoch (history G s xs)
    -- it has what it would have if nobody had ever been missing
    pub steadily : is_present (left_by G s xs).ledger.holders h ≡ true → share_of G s h (left_by G s xs) ≡ share_of G s h (left_by G s (steady xs))
    -- a missing holder has zeros
    pub missing : is_present (left_by G s xs).ledger.holders h ≡ false → share_of G s h (left_by G s xs) ≡ tuple_zero G (s.q - 1)

  -- after any requests each holder's share is as dealt
  abbrev pub SharesAsDealt : Type 0
  SharesAsDealt = (xs : List (Request C)) (h : ℕ) → InScheme s h → AsDealt xs h

  -- a state as the holders S see it: the ledger and their shares
  pub record Seen (S : List ℕ) (st other : State C) : Type 0 where
    pub ledger : other.ledger ≡ st.ledger
    pub shares : AllByRecursion (λ h. share_of G s h other ≡ share_of G s h st) S

  -- two entries that the holders S cannot tell apart
  pub record Alike (S : List ℕ) (x y : Entry C) : Type 0 where
    pub answers : y.answer ≡ x.answer
    pub before : Seen S x.before y.before

  -- the total is the same at each epoch at which an opening was accepted
  abbrev pub Kept : List (Entry C) → List (Entry C) → Type 0
  Kept xs ys = AllByRecursion (λ x. (hs : List ℕ) (k : C) → x.request.call ≡ opening hs → x.answer ≡ key_is k
      → total_at G x.before.ledger.epoch ys ≡ total_at G x.before.ledger.epoch xs) xs

  -- two lists of requests that the holders S cannot tell apart
  pub record Hides (S : List ℕ) (xs ys : List (Request C)) : Type 0 where
    pub calls : AllZip (Alike S) (history G s xs) (history G s ys)
    pub last : Seen S (left_by G s xs) (left_by G s ys)

  -- a mask is as long as the coefficients, and valid
  abbrev pub Masks : List ℕ → Type 0
  Masks S = (old new : C) → T (G.valid old) → T (G.valid new) → (length (mask G s S old new) ≡ (s.t - 1) * (s.q - 1)) × T (all_valid G (mask G s S old new))

  -- fewer than t holders cannot tell a history from the same with other keys, one for each request, that keep what was opened
  abbrev pub FewSharesTellNothing : Type 0
  FewSharesTellNothing =
      (S : List ℕ) → AllByRecursion (InScheme s) S → length S < s.t
      → Masks S × ((xs : List (Request C)) (keys : ℕ → C) → ((i : ℕ) → T (G.valid (keys i)))
      → Kept (history G s xs) (history G s (disguise G s S keys (history G s xs)))
      → Hides S xs (disguise G s S keys (history G s xs)))

  -- the three laws
  pub record Promises : Type 0 where
    pub opens_to_total : OpensToTotal
    pub shares_as_dealt : SharesAsDealt
    pub few_shares_tell_nothing : FewSharesTellNothing
