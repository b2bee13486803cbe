-- The texts of points: which words spell which entry (profile).
use Rattle.std.specs.Prelude.{◌≡◌, ℕ, Bool, true, false, ◌≤◌, ◌&&◌, ◌||◌, not, nat_le, nat_lt, List, [], ◌∷◌, map, length, codes}
use Rattle.std.specs.Prelude.{Option, Some, None, option_map, option_and_then, if◌then◌else◌}
use Rattle.std.specs.Option.{option_map_or}
use Rattle.std.specs.Str.{bytes_eq}
use Rattle.model.specs.declared.plan.Injection.{Injection}
use Rattle.model.specs.declared.plan.PointEntry.{PointEntry}
use Rattle.model.specs.declared.plan.PointEntry.TheVariants.{One, Each}
use Rattle.model.specs.Points.{IsPoint, most_of_point}
use Rattle.model.specs.Scripts.{last_point}
use Rattle.grammar.specs.declared.raw_point.RawInjection.{RawInjection}
use Rattle.grammar.specs.declared.raw_point.RawPoint.{RawPoint}
use Rattle.grammar.specs.declared.raw_point.RawRange.{RawRange}
use Rattle.grammar.specs.declared.raw_point.RawPoint.TheVariants as raw
use Rattle.grammar.specs.Names.{is_name, index_of}
use Rattle.grammar.specs.Grammar.{Word, number_of}

-- Words spell these injections, two words each, if the handlers have these names: the number of a step up to the last one, and
-- the name of a handler.
abbrev pub SpellsInjections : List Word → List Injection → List Word → Type 0
SpellsInjections names [] [] = Unit {0}
SpellsInjections names (i ∷ is) (w ∷ name ∷ ws) =
    (number_of w ≡ Some i.step) × (i.step ≤ last_point) × (is_name name ≡ true) × (index_of name names ≡ Some i.handler)
    × SpellsInjections names is ws
SpellsInjections names is ws = ⊥

-- Words spell the steps of a range: all, if there are no words; or those from a step to one that isn't before it.
abbrev pub SpellsSteps : (first last : ℕ) → List Word → Type 0
SpellsSteps first last [] = (first ≡ 0) × (last ≡ last_point)
SpellsSteps first last (from ∷ a ∷ to ∷ b ∷ []) =
    (from ≡ codes "from") × (number_of a ≡ Some first) × (to ≡ codes "to") × (number_of b ≡ Some last)
    × (first ≤ last) × (last ≤ last_point)
SpellsSteps first last ws = ⊥

-- Words spell an entry: the injections of a point; or `all`, the name of a handler, and the steps.
abbrev pub SpellsEntry : List Word → PointEntry → List Word → Type 0
SpellsEntry names (One point) ws = IsPoint point × SpellsInjections names point ws
SpellsEntry names (Each range) (w ∷ name ∷ ws) =
    (w ≡ codes "all") × (is_name name ≡ true) × (index_of name names ≡ Some range.handler)
    × SpellsSteps range.first range.last ws
SpellsEntry names entry ws = ⊥

-- ---- the same as a reading

-- an injection whose handler is still a name
pub record RawPair : Type 0 where
  pub step : ℕ
  pub handler : Word

-- a range whose handler is still a name
pub record RawSpan : Type 0 where
  pub handler : Word
  pub first : ℕ
  pub last : ℕ

-- an entry whose handlers are still names
pub data RawEntry : Type 0 where
  RawOne : (pairs : List RawPair) → RawEntry
  RawEach : (span : RawSpan) → RawEntry

-- what the code keeps of them
abbrev pub pair_view : RawInjection → RawPair
pair_view i = record { step = i.step; handler = i.handler.now }

abbrev pub span_view : RawRange → RawSpan
span_view r = record { handler = r.handler.now; first = r.first; last = r.last }

abbrev pub raw_view : RawPoint → RawEntry
raw_view (raw.One pairs) = RawOne (map pair_view pairs.items)
raw_view (raw.Each range) = RawEach (span_view range)

-- the number of a step, if an injection may be before it
abbrev pub if_step : ℕ → Option ℕ
if_step n = if nat_le n last_point then Some n else None

-- the step that a word writes, if an injection may be before it
abbrev pub step_of : Word → Option ℕ
step_of w = option_and_then if_step (number_of w)

abbrev pub raw_at : Word → ℕ → RawPair
raw_at name step = record { step = step; handler = name }

-- the injection that two words spell
abbrev pub raw_pair : Word → Word → Option RawPair
raw_pair w name =
    if is_name name then option_map (raw_at name) (step_of w) else None

-- the first of some, and then the others, if all are there
abbrev pub all_there : {X : Type 0} → Option X → Option (List X) → Option (List X)
all_there (Some x) (Some xs) = Some (x ∷ xs)
all_there x xs = None

-- the injections that words spell, two words each
abbrev pub raw_pairs : List Word → Option (List RawPair)
raw_pairs [] = Some []
raw_pairs (w ∷ []) = None
raw_pairs (w ∷ name ∷ ws) = all_there (raw_pair w name) (raw_pairs ws)

-- Some step is less than the one before it, the first than this one.
abbrev pub falls_from : ℕ → List RawPair → Bool
falls_from last [] = false
falls_from last (p ∷ ps) = nat_lt p.step last || falls_from p.step ps

-- They may be a point: one to three, in the order of their steps.
abbrev pub may_be_point : List RawPair → Bool
may_be_point ps = nat_lt 0 (length ps) && (nat_le (length ps) most_of_point && not (falls_from 0 ps))

abbrev pub if_point : List RawPair → Option RawEntry
if_point ps = if may_be_point ps then Some (RawOne ps) else None

-- The injections of the entry may be a point.
abbrev pub is_formed : RawEntry → Bool
is_formed (RawOne ps) = may_be_point ps
is_formed (RawEach span) = true

-- the words after `all`, if that is the first one
abbrev pub after_all : List Word → Option (List Word)
after_all [] = None
after_all (w ∷ ws) = if bytes_eq w (codes "all") then Some ws else None

abbrev pub span_at : Word → ℕ → ℕ → RawSpan
span_at name first last = record { handler = name; first = first; last = last }

-- the range from one step to the other, if both may be and the other isn't before the one
abbrev pub span_between : Word → Option ℕ → Option ℕ → Option RawSpan
span_between name (Some first) (Some last) = if nat_le first last then Some (span_at name first last) else None
span_between name first last = None

-- the range whose steps these words spell
abbrev pub span_of_steps : Word → List Word → Option RawSpan
span_of_steps name [] = Some (span_at name 0 last_point)
span_of_steps name (from ∷ a ∷ to ∷ b ∷ []) =
    if bytes_eq from (codes "from") && bytes_eq to (codes "to") then span_between name (step_of a) (step_of b) else None
span_of_steps name ws = None

-- the range that the words after `all` spell
abbrev pub span_of : List Word → Option RawSpan
span_of [] = None
span_of (name ∷ ws) = if is_name name then span_of_steps name ws else None

abbrev pub raw_each : List Word → Option RawEntry
raw_each ws = option_map RawEach (span_of ws)

-- the entry that words spell, if some handlers have its names
abbrev pub raw_of : List Word → Option RawEntry
raw_of ws = option_map_or raw_each (after_all ws) (option_and_then if_point (raw_pairs ws))

abbrev pub injection_at : ℕ → ℕ → Injection
injection_at step handler = record { step = step; handler = handler }

-- the injection, if a handler has its name
abbrev pub known : List Word → RawPair → Option Injection
known names p = option_map (injection_at p.step) (index_of p.handler names)

-- all of these injections, if handlers have their names
abbrev pub all_known : List Word → List RawPair → Option (List Injection)
all_known names [] = Some []
all_known names (p ∷ ps) = all_there (known names p) (all_known names ps)

abbrev pub range_at : RawSpan → ℕ → PointEntry
range_at span handler = Each (record { handler = handler; first = span.first; last = span.last })

-- the entry whose handlers these are, if the handlers have these names
abbrev pub entry_from : List Word → RawEntry → Option PointEntry
entry_from names (RawOne ps) = option_map One (all_known names ps)
entry_from names (RawEach span) = option_map (range_at span) (index_of span.handler names)

-- the entry that words spell, if the handlers have these names
abbrev pub entry_of : List Word → List Word → Option PointEntry
entry_of names ws = option_and_then (entry_from names) (raw_of ws)
