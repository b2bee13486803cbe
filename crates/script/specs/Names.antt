-- The names of an application.
use Rattle.std.specs.Prelude.{ℕ, ◌≢◌, List, map}
use Rattle.std.specs.List.{AllPairs}
use Rattle.model.specs.Application.{Application, Handler, Definition}

-- the names of the handlers, in their order
abbrev pub handler_names : Application → List (List ℕ)
handler_names app = map (λ (h : Handler). h.name) app.handlers

-- the names of the tasks, in their order
abbrev pub task_names : Application → List (List ℕ)
task_names app = map (λ (d : Definition). d.name) app.tasks

-- No two of them are the same.
abbrev pub AreDistinct : List (List ℕ) → Type 0
AreDistinct names = AllPairs (λ name other. name ≢ other) names
