-- The base interrupts of a document, whose handlers have these names.
use Rattle.std.specs.Prelude.{ℕ, ◌==◌, nat_le, List, [], ◌∷◌, length, filter, Option, Some}
use Rattle.toml.specs.Data.{Members}
use Rattle.model.specs.Application.{Interrupt}
use Rattle.model.specs.Scripts.{most_interrupts, most_at_once, last_interrupt}
use Rattle.script.specs.declared.fault.Fault.{Fault}
use Rattle.script.specs.declared.fault.FaultKind.TheVariants.{TooMany}
use Rattle.script.specs.declared.place.Place.{Place}
use Rattle.script.specs.declared.place.Section.TheVariants as section
use Rattle.script.specs.declared.place.Key.TheVariants as key
use Rattle.script.specs.Faults.{fault_at, first_fault, fails_if, required}
use Rattle.script.specs.Arrays.{section_fault, section_named}
use Rattle.script.specs.Sections.{data_at}
use Rattle.script.specs.Values.{member_of, number_fault, number_named, known_fault, known_named}

-- the interrupt of these keys
abbrev pub interrupt_named : List (List ℕ) → Option Members → Interrupt
interrupt_named names ms = record {
  tick = number_named key.Tick ms;
  handler = known_named names (member_of key.Handler ms);
}

-- its own keys, however many come at its tick
abbrev pub own_keys : List (List ℕ) → Place → Members → Option Fault
own_keys names p ms = first_fault (
    required p key.Tick (number_fault 1 last_interrupt) ms
    ∷ required p key.Handler (known_fault names) ms
    ∷ [])

-- how many of some interrupts come at a tick
abbrev pub count_at : ℕ → List Interrupt → ℕ
count_at tick interrupts = length (filter (λ (i : Interrupt). i.tick == tick) interrupts)

-- its keys, and it is not the fifth of its tick
abbrev pub interrupt_keys : List (List ℕ) → List Interrupt → Place → Members → Option Fault
interrupt_keys names before p ms = first_fault (
    required p key.Tick (number_fault 1 last_interrupt) ms
    ∷ required p key.Handler (known_fault names) ms
    ∷ fails_if (nat_le most_at_once (count_at (interrupt_named names (Some ms)).tick before)) (fault_at TooMany p)
    ∷ [])

-- all checks of the section
unfoldable pub interrupts_fault : List (List ℕ) → Members → Option Fault
interrupts_fault names document =
    section_fault most_interrupts section.Interrupt (interrupt_named names) (interrupt_keys names) []
    (data_at section.Interrupt document)

-- its interrupts, in the order of the file
unfoldable pub interrupts_named : List (List ℕ) → Members → List Interrupt
interrupts_named names document = section_named (interrupt_named names) (data_at section.Interrupt document)
