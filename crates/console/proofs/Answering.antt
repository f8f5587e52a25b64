-- What the letters ask for, as the console answers it.
use Rattle.std.proofs.Common.{◌≡◌, ℕ, false, List, is_some, Some, None, Ok, Option, Result, refl}
use Rattle.std.specs.Option.{option_map}
use Rattle.lines.specs.declared.letter.Letter.{Letter}
use Rattle.lines.specs.Lines.{Read, good, bad, Tells}
use Rattle.sharing.specs.declared.scheme.Scheme.{Scheme}
use Rattle.console.specs.declared.held.Held.{Held}
use Rattle.console.specs.Held.{Holding, holding}
use Rattle.console.specs.declared.fault.Trouble.{Trouble}
use Rattle.console.specs.declared.request.Plan.{Plan}
use Rattle.console.specs.Responses.{Fresh, Makes, Obeys, Follows, IfAnswered}

-- a cabinet is made where there is none
pub made_cabinet : (o : Option Held) (p : Plan) (s : Scheme) (h : Held) → false ≡ is_some o → s.t ≡ p.t → s.n ≡ p.n → Fresh p.kind p.modulus s (holding h)
    → Makes (option_map holding o) p (Ok 0) (Some (holding h))
made_cabinet (Some x) p s h none et en fresh = absurd (cc)
made_cabinet None p s h none et en fresh = (refl, (holding h, s, refl, et, en, fresh))

-- what was read is done
pub followed : (x : Read) (k : Letter) (ms : List ℕ) (before after : Option Holding) (r : Result ℕ Trouble)
    → Tells x (Ok k) ms → IfAnswered r (λ a. Obeys before k ms a after) → IfAnswered r (λ a. Follows before x a after)
followed (good l ns) k ms before after r told obeys =
    let same : k ≡ l = let e = told.0 in cc in
    rw (← same, ← told.1) obeys
followed (bad p) k ms before after r told obeys = absurd (cc)
