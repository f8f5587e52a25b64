-- The turns of a valve are a commutative group.
use Rattle.std.specs.Prelude.{◌≡◌, T, refl}
use Rattle.std.proofs.Common.{sym, ap, ◌∙◌}
use Rattle.algebra.specs.Group.{GroupLaws}
use Rattle.own_group.specs.declared.turns.Turn.{Turn}
use Rattle.own_group.specs.declared.turns.Turn.TheVariants.{Stay, Right, Back, Left}
use Rattle.own_group.specs.Turns.{next, then, undone, is_stay, turns}

-- what holds of Stay, and one quarter further wherever it holds, holds of every turn
by_quarters : (P : Turn → Type 0) → P Stay → ((a : Turn) → P a → P (next a)) → (a : Turn) → P a
by_quarters P z s Stay = z
by_quarters P z s Right = s Stay z
by_quarters P z s Back = s Right (s Stay z)
by_quarters P z s Left = s Back (s Right (s Stay z))

four : (a : Turn) → next (next (next (next a))) ≡ a
four Stay = refl
four Right = refl
four Back = refl
four Left = refl

then_next : (a b : Turn) → then a (next b) ≡ next (then a b)
then_next a Stay = refl
then_next a Right = refl
then_next a Back = refl
then_next a Left = sym (four a)

next_then : (a b : Turn) → then (next a) b ≡ next (then a b)
next_then a Stay = refl
next_then a Right = refl
next_then a Back = refl
next_then a Left = refl

stay_then : (a : Turn) → then Stay a ≡ a
stay_then Stay = refl
stay_then Right = refl
stay_then Back = refl
stay_then Left = refl

then_undone : (a : Turn) → then a (undone a) ≡ Stay
then_undone Stay = refl
then_undone Right = refl
then_undone Back = refl
then_undone Left = refl

comm : (a b : Turn) → then a b ≡ then b a
comm a =
    by_quarters (λ b. then a b ≡ then b a) (sym (stay_then a)) (λ b e. then_next a b ∙ ap next e ∙ sym (next_then b a))

assoc : (a b c : Turn) → then (then a b) c ≡ then a (then b c)
assoc a b =
    by_quarters (λ c. then (then a b) c ≡ then a (then b c)) refl (λ c e. then_next (then a b) c ∙ ap next e ∙ sym (ap (then a) (then_next b c) ∙ then_next a (then b c)))

stays : (a : Turn) → T (is_stay a) → a ≡ Stay
stays Stay h = refl
stays Right h = absurd h
stays Back h = absurd h
stays Left h = absurd h

same_self : (a : Turn) → T (is_stay (then a (undone a)))
same_self Stay = tt
same_self Right = tt
same_self Back = tt
same_self Left = tt

same_equal : (a b : Turn) → T (is_stay (then a (undone b))) → a ≡ b
same_equal a b h =
    ap (then a) (sym (then_undone b) ∙ comm b (undone b)) ∙ sym (assoc a (undone b) b) ∙ ap (λ d. then d b) (stays (then a (undone b)) h) ∙ stay_then b

pub turns_laws : GroupLaws turns
turns_laws = record {
  same_equal = λ a b _ _ h. same_equal a b h;
  same_self = λ a _. same_self a;
  zero_valid = tt;
  plus_valid = λ a b _ _. tt;
  minus_valid = λ a _. tt;
  plus_comm = λ a b _ _. comm a b;
  plus_assoc = λ a b c _ _ _. assoc a b c;
  plus_zero = λ a _. refl;
  plus_minus = λ a _. then_undone a;
}
