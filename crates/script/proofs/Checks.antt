-- Where no check finds a fault.
use Rattle.std.proofs.Common.{◌≡◌, Bool, true, false, List, ◌∷◌, Option, Some, None, refl}
use Rattle.script.specs.declared.fault.Fault.{Fault}
use Rattle.script.specs.Faults.{first_fault, fails_if}

-- Where none of some checks finds a fault, the first doesn't, and none of the others.
pub none_fails : (check : Option Fault) (checks : List (Option Fault))
    → first_fault (check ∷ checks) ≡ None → (check ≡ None) × (first_fault checks ≡ None)
none_fails None checks none = (refl, none)
none_fails (Some fault) checks none = cc

-- a check of a test
pub passes : (b : Bool) (fault : Fault) → fails_if b fault ≡ None → b ≡ false
passes true fault none = cc
passes false fault none = refl
