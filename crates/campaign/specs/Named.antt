-- Interrupts that words name: handlers, and the tick.
use Rattle.std.specs.Prelude.{◌≡◌, ℕ, zero, suc, List, [], ◌∷◌, IsSome, Option, None, option_map}
use Rattle.model.specs.Application.{Application}
use Rattle.model.specs.Words.{source_named}
use Rattle.model.specs.declared.plan.Injection.{Injection}
use Rattle.grammar.specs.Points.{RawPair, injection_at}

-- The name in this place, from 0, is the first that no interrupt of the application has.
abbrev pub IsFirstUnknown : Application → (names : List (List ℕ)) → (place : ℕ) → Type 0
IsFirstUnknown app [] place = ⊥
IsFirstUnknown app (name ∷ names) zero = source_named app name ≡ None
IsFirstUnknown app (name ∷ names) (suc place) = IsSome (source_named app name) × IsFirstUnknown app names place

-- the injection of the interrupt that has the name, if one has
abbrev pub injection_named : Application → RawPair → Option Injection
injection_named app p = option_map (injection_at p.step) (source_named app p.handler)
