-- What is found among all placements of a file's application, and its report.
use Rattle.std.specs.Prelude.{◌≡◌, ◌↔◌, ◌<◌, ℕ, Bool, List, Contains, length, map, Option, Some, None, Result}
use Rattle.std.specs.List.{list_all}
use Rattle.model.specs.Application.{Application}
use Rattle.model.specs.Campaign.{is_pass}
use Rattle.model.specs.Placements.{Found, IsExplored, Placed}
use Rattle.model.specs.Words.{source_named}
use Rattle.report.specs.Found.{exploration_text}
use Rattle.requests.specs.Names.{names_of}
use Rattle.campaign.specs.declared.file.ServeFault.{ServeFault}
use Rattle.campaign.specs.declared.file.ServeFault.TheVariants.{UnknownHandler, Memory}
use Rattle.campaign.specs.Named.{IsFirstUnknown}
use Rattle.campaign.specs.Serving.{HasFileFault, IsFileOf, Serves, Streams}

-- These are the interrupts that have the names of a list, in its order: handlers, or the tick. If no list is named, they are
-- all handlers
-- of the file.
abbrev pub AreAsked : Option (List ℕ) → Application → (handlers : List ℕ) → Type 0
AreAsked None app handlers = (handler : ℕ) → Contains handlers handler ↔ (handler < length app.handlers)
AreAsked (Some list) app handlers = map (source_named app) (names_of list) ≡ map Some handlers

-- The name in this place of the list is the first that no handler has.
abbrev pub NamesUnknown : Option (List ℕ) → Application → (place : ℕ) → Type 0
NamesUnknown None app place = ⊥
NamesUnknown (Some list) app place = IsFirstUnknown app (names_of list) place

-- The bytes are a file. This is the report of what is found among all placements of at most this many injections of these
-- handlers in its application's run, under its own limits; and whether each placement passes.
pub record IsExplorationOf (most : ℕ) (list : Option (List ℕ)) (bytes report : List ℕ) (passes : Bool) : Type 0 where
  pub app : Application
  pub file : IsFileOf bytes app
  pub handlers : List ℕ
  pub asked : AreAsked list app handlers
  pub found : List Found
  pub explored : IsExplored app app.limits handlers most found
  pub judged : passes ≡ list_all (λ (p : Placed). is_pass p.end) explored.all
  pub text : report ≡ exploration_text app (length explored.all) found

-- The bytes have this fault, if these handlers are asked for.
abbrev pub HasExploringFault : Option (List ℕ) → List ℕ → ServeFault → Type 0
HasExploringFault list bytes (UnknownHandler place) = (app : Application) × IsFileOf bytes app × NamesUnknown list app place
HasExploringFault list bytes fault = HasFileFault bytes fault

-- a call that serves what is found of a file, and returns whether each placement passes
abbrev pub ServesExploration : (most : ℕ) → Option (List ℕ) → Streams → Result Bool ServeFault → Type 0
ServesExploration most list streams outcome = Serves Bool (IsExplorationOf most list) (HasExploringFault list) streams outcome

-- ---- what the functions pass on to each other: no reader need believe it

-- why nothing is found: no handler has a name, or no memory is left
abbrev pub IsExploringFault : Option (List ℕ) → Application → ServeFault → Type 0
IsExploringFault list app (UnknownHandler place) = NamesUnknown list app place
IsExploringFault list app Memory = Unit {0}
IsExploringFault list app fault = ⊥

-- Why the handler of a name that comes in this place is not added to the others.
abbrev pub IsNamingFault : Application → (name : List ℕ) → (place : ℕ) → ServeFault → Type 0
IsNamingFault app name place (UnknownHandler unknown) = (unknown ≡ place) × (source_named app name ≡ None)
IsNamingFault app name place Memory = Unit {0}
IsNamingFault app name place fault = ⊥

-- This is found.
pub record IsFoundIn (most : ℕ) (list : Option (List ℕ)) (app : Application) (found : List Found) : Type 0 where
  pub handlers : List ℕ
  pub asked : AreAsked list app handlers
  pub explored : IsExplored app app.limits handlers most found
