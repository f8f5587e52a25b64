-- A cabinet is not made in share memory of a wrong length.
use Rattle.std.proofs.Common.{◌≡◌, ℕ, ◌-◌, ◌*◌, sym, ap, ◌∙◌, subst}
use Rattle.algebra.specs.Primes.{LeastOddPrime}
use Rattle.sharing.specs.Schemes.{Allowed}
use Rattle.sharing.specs.declared.scheme.Scheme.{Scheme}
use Rattle.sharing.specs.declared.fault.CabinetFault.{CabinetFault}
use Rattle.sharing.specs.declared.fault.CabinetFault.TheVariants.{MemoryLength}
use Rattle.custody.specs.Making.{Unmade, no_room}

pub unroomed : (t n shares right : ℕ) (s : Scheme) {e : CabinetFault} → s.t ≡ t → s.n ≡ n → right ≡ s.n * (s.q - 1) → (shares ≡ right → ⊥) → e ≡ MemoryLength right → Unmade t n shares e
unroomed t n shares right s et en er apart fault =
    let e : right ≡ n * (s.q - 1) = er ∙ ap (λ (m : ℕ). m * (s.q - 1)) en in
    no_room s.q
    (subst (Allowed t) en (subst (λ (m : ℕ). Allowed m s.n) et s.allowed))
    (subst (λ (m : ℕ). LeastOddPrime m s.q) en (s.above, s.prime, s.least))
    (λ same. apart (same ∙ sym e)) (fault ∙ ap MemoryLength e)
