-- What is served, and whether it passes.
use Rattle.std.specs.Prelude.{◌≡◌, Bool, Result, Ok, Err}
use Rattle.campaign.specs.declared.file.ServeFault.{ServeFault}

-- A call is served with some result, and it is known whether that passes; or it has a fault.
abbrev pub IsServed : {A : Type 0} → (passes : A → Bool) → (Serves : Result A ServeFault → Type 0)
    → Result Bool ServeFault → Type 0
IsServed {A} passes Serves (Ok passed) = (answer : A) × (passed ≡ passes answer) × Serves (Ok answer)
IsServed passes Serves (Err fault) = Serves (Err fault)
