-- Parts of a run during which critical sections are open.
use Rattle.std.specs.Prelude.{ℕ, zero, suc, ◌&&◌, Bool, true, false, []}
use Rattle.model.specs.declared.event.What.{What}
use Rattle.model.specs.declared.event.What.TheVariants.{Isr, IsrNone, IsrMark}
use Rattle.model.specs.Application.{Application, Limits}
use Rattle.model.specs.State.{State, source_at, with_source}
use Rattle.model.specs.Handlers.{note_coming}
use Rattle.model.specs.Switching.{is_critical}
use Rattle.model.specs.Step.{step}

-- the state after this many steps into which nothing is injected
abbrev pub alone : Application → Limits → ℕ → State → State
alone app limits zero s = s
alone app limits (suc n) s = alone app limits n (step app limits [] s)

-- A critical section is open before each of this many steps without injections.
abbrev pub are_critical : Application → Limits → ℕ → State → Bool
are_critical app limits zero s = true
are_critical app limits (suc n) s = is_critical s && are_critical app limits n (step app limits [] s)

-- The handler has become pending, and its coming is recorded.
abbrev pub made_pending : Application → ℕ → State → State
made_pending app handler s = note_coming app handler (with_source handler (record (source_at s handler) { pending = true }) s)

-- The event is a handler's.
abbrev pub is_of_handler : What → Bool
is_of_handler (Isr handler op_index answer) = true
is_of_handler (IsrNone handler op_index) = true
is_of_handler (IsrMark handler number) = true
is_of_handler _ = false
