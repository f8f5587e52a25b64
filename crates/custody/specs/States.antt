-- A cabinet and the share memory lent to a call, as a state.
use Rattle.std.specs.Prelude.{◌≡◌, List}
use Rattle.history.specs.Calls.{State}
use Rattle.custody.specs.declared.cabinet.Cabinet.{Cabinet}

abbrev pub state_of : {K C : Type 0} → Cabinet K → List C → State C
state_of c shares = record { ledger = c.ledger; shares = shares }

-- a call changes nothing of a cabinet but its ledger
abbrev pub SameCabinet : {K : Type 0} → Cabinet K → Cabinet K → Type 0
SameCabinet c d = (d.group ≡ c.group) × (d.scheme ≡ c.scheme) × (d.number ≡ c.number)
