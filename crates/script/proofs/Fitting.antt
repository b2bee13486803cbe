-- An entry that a name finds is what the op asks for.
use Rattle.std.proofs.Common.{◌≡◌, ◌+◌, ◌++◌, ◌<◌, ℕ, zero, suc, Bool, true, false, List, [], ◌∷◌, length, map, Option, Some, None}
use Rattle.std.proofs.Common.{refl, sym, subst, inl, inr, arith, ◌∙◌}
use Rattle.std.specs.Prelude.{is_some, is_none, nat_lt}
use Rattle.std.specs.List.{slice_get, position_from}
use Rattle.std.specs.Option.{option_map, unwrap_or}
use Rattle.std.specs.Str.{bytes_eq}
use Rattle.std.proofs.lemmas.Bool.{and_parts, lt-ltb}
use Rattle.std.proofs.lemmas.List.{length-map}
use Rattle.model.specs.declared.object.ObjectKind.{ObjectKind}
use Rattle.model.specs.declared.object.ObjectKind.TheVariants as kind
use Rattle.model.specs.declared.op.Access.{Access}
use Rattle.model.specs.declared.answer.AnswerCondition.{AnswerCondition}
use Rattle.model.specs.declared.answer.AnswerCondition.TheVariants.{Is, IsNot, Below, Above}
use Rattle.model.specs.declared.value.Value.{Value}
use Rattle.model.specs.declared.value.Value.TheVariants as value
use Rattle.model.specs.Application.{Application}
use Rattle.model.specs.Scripts.{fits, fits_object, is_of_semaphore, is_of_mutex, has_group, has_task, has_variable, has_handler}
use Rattle.model.specs.Scripts.{knows_value, knows_condition}
use Rattle.grammar.specs.declared.object_sort.ObjectSort.{ObjectSort}
use Rattle.grammar.specs.declared.object_sort.ObjectSort.TheVariants.{Queue, Semaphore, Mutex}
use Rattle.grammar.specs.Grammar.{Word, NameSort, OfObject, OfGroup, OfTask, OfVariable, OfHandler}
use Rattle.script.specs.Entries.{ObjectEntry, GroupEntry, VariableEntry, RawIsr, Raw, DaemonEntry, Entries, HasEntries}
use Rattle.script.specs.Entries.{command_queue}
use Rattle.grammar.specs.Finding.{is_of_sort}
use Rattle.script.specs.Finding.{is_called, among}
use Rattle.script.specs.Ops.{allows}
use Rattle.grammar.proofs.Reading.{chosen}
use Rattle.grammar.proofs.Forms.{AtValue, AtCondition}

-- These objects have one of this index and this sort.
abbrev is_at : List ObjectEntry → ObjectSort → ℕ → Bool
is_at objects sort n = unwrap_or (option_map (λ (o : ObjectEntry). is_of_sort sort o.kind) (slice_get objects n)) false

abbrev IsObject : List ObjectEntry → ObjectSort → ℕ → Type 0
IsObject objects sort n = is_at objects sort n ≡ true

-- These entries have one of this index and this sort.
abbrev pub IsAt : Entries → NameSort → ℕ → Type 0
IsAt entries (OfObject sort) n = IsObject entries.objects sort n
IsAt entries OfGroup n = nat_lt n (length entries.groups) ≡ true
IsAt entries OfTask n = nat_lt n (length entries.tasks) ≡ true
IsAt entries OfVariable n = nat_lt n (length entries.variables) ≡ true
IsAt entries OfHandler n = nat_lt n (length entries.handlers) ≡ true

found_from : (i : ℕ) (sort : ObjectSort) (w : Word) (objects : List ObjectEntry) (n : ℕ)
    → position_from (is_called sort w) i objects ≡ Some n
    → (k : ℕ) × (i + k ≡ n) × IsObject objects sort k
found_from i sort w [] n e = cc
found_from i sort w (o ∷ os) n e = elim (chosen (is_called sort w o) _ _ _ e) [
  | inl here ↦
      let same : i ≡ n = cc in
      (0, omega arith, (and_parts (is_of_sort sort o.kind) (bytes_eq o.name w) here.0).0)
  | inr later ↦
      let found = found_from (i + 1) sort w os n later.1 in
      let place = found.1 in
      (suc found.0, omega arith, found.2)
]

pub below_from : (i : ℕ) (w : Word) (names : List Word) (n : ℕ)
    → position_from (λ name. bytes_eq name w) i names ≡ Some n → n < i + length names
below_from i w [] n e = cc
below_from i w (name ∷ names) n e = elim (chosen (bytes_eq name w) _ _ _ e) [
  | inl here ↦ let same : i ≡ n = cc in omega arith
  | inr later ↦ let below = below_from (i + 1) w names n later.1 in omega arith
]

pub found_at : (entries : Entries) (sort : NameSort) (w : Word) (n : ℕ) → among entries sort w ≡ Some n → IsAt entries sort n
found_at entries (OfObject sort) w n e =
    let found = found_from 0 sort w entries.objects n e in
    let place = found.1 in
    let same : found.0 ≡ n = omega arith in
    subst (IsObject entries.objects sort) same found.2
found_at entries OfGroup w n e =
    let names = map (λ (g : GroupEntry). g.name) entries.groups in
    let below = below_from 0 w names n e in
    let count : length names ≡ length entries.groups = length-map entries.groups (λ (g : GroupEntry). g.name) in
    lt-ltb n (length entries.groups) (omega arith)
found_at entries OfTask w n e =
    let names = map (λ (t : Raw). t.name) entries.tasks in
    let below = below_from 0 w names n e in
    let count : length names ≡ length entries.tasks = length-map entries.tasks (λ (t : Raw). t.name) in
    lt-ltb n (length entries.tasks) (omega arith)
found_at entries OfVariable w n e =
    let names = map (λ (v : VariableEntry). v.name) entries.variables in
    let below = below_from 0 w names n e in
    let count : length names ≡ length entries.variables = length-map entries.variables (λ (v : VariableEntry). v.name) in
    lt-ltb n (length entries.variables) (omega arith)
found_at entries OfHandler w n e =
    let names = map (λ (h : RawIsr). h.name) entries.handlers in
    let below = below_from 0 w names n e in
    let count : length names ≡ length entries.handlers = length-map entries.handlers (λ (h : RawIsr). h.name) in
    lt-ltb n (length entries.handlers) (omega arith)

-- ---- which calls it allows

-- Each object of the sort allows the call.
abbrev Fit : {Item : Type 0} → ObjectSort → Access Item → Type 0
Fit Queue access = (size : ℕ) → fits (kind.Queue size) access ≡ true
Fit Semaphore access = is_of_semaphore access ≡ true
Fit Mutex access = is_of_mutex access ≡ true

kind_fits : {Item : Type 0} (sort : ObjectSort) (access : Access Item) → Fit sort access
    → (k : ObjectKind) → is_of_sort sort k ≡ true → fits k access ≡ true
kind_fits Queue access fit (kind.Queue size) is = fit size
kind_fits Queue access fit (kind.Semaphore max_count initial_count) is = cc
kind_fits Queue access fit kind.Mutex is = cc
kind_fits Semaphore access fit (kind.Queue size) is = cc
kind_fits Semaphore access fit (kind.Semaphore max_count initial_count) is = fit
kind_fits Semaphore access fit kind.Mutex is = cc
kind_fits Mutex access fit (kind.Queue size) is = cc
kind_fits Mutex access fit (kind.Semaphore max_count initial_count) is = cc
kind_fits Mutex access fit kind.Mutex is = fit

-- Of these objects the one of this index allows the call.
abbrev fits_at : {Item : Type 0} → List ObjectKind → ℕ → Access Item → Bool
fits_at kinds n access = unwrap_or (option_map (λ k. fits k access) (slice_get kinds n)) false

sort_fits : {Item : Type 0} (sort : ObjectSort) (access : Access Item) → Fit sort access → (objects : List ObjectEntry) (n : ℕ)
    → IsObject objects sort n → fits_at (map (λ (o : ObjectEntry). o.kind) objects) n access ≡ true
sort_fits sort access fit [] n at = cc
sort_fits sort access fit (o ∷ os) zero at = kind_fits sort access fit o.kind at
sort_fits sort access fit (o ∷ os) (suc n) at = sort_fits sort access fit os n at

-- the same of these objects and others behind them
fits_before : {Item : Type 0} (kinds others : List ObjectKind) (n : ℕ) (access : Access Item)
    → fits_at kinds n access ≡ true → fits_at (kinds ++ others) n access ≡ true
fits_before [] others n access at = cc
fits_before (k ∷ ks) others zero access at = at
fits_before (k ∷ ks) others (suc n) access at = fits_before ks others n access at

some_daemon : (o : Option DaemonEntry) → is_none o ≡ false → is_some o ≡ true
some_daemon None e = cc
some_daemon (Some d) e = refl

same_fit : (access : Access Value) (objects : List ObjectEntry) (n : ℕ)
    → allows objects n access ≡ fits_at (map (λ (o : ObjectEntry). o.kind) objects) n access
same_fit access [] n = refl
same_fit access (o ∷ os) zero = refl
same_fit access (o ∷ os) (suc n) = same_fit access os n

module _ (app : Application) (entries : Entries) (has : HasEntries app entries) where
  pub at_fits : {Item : Type 0} (sort : ObjectSort) (access : Access Item) → Fit sort access → (n : ℕ)
      → IsAt entries (OfObject sort) n
      → fits_object app n access ≡ true
  at_fits sort access fit n at =
      let kinds = map (λ (o : ObjectEntry). o.kind) entries.objects in
      rw has.objects (fits_before kinds (command_queue entries.daemon) n access (sort_fits sort access fit entries.objects n at))

  pub allowed_fits : (access : Access Value) (n : ℕ) → allows entries.objects n access ≡ true → fits_object app n access ≡ true
  allowed_fits access n allowed =
      let kinds = map (λ (o : ObjectEntry). o.kind) entries.objects in
      rw has.objects (fits_before kinds (command_queue entries.daemon) n access (sym (same_fit access entries.objects n) ∙ allowed))

  pub has_daemon : is_none entries.daemon ≡ false → is_some app.daemon ≡ true
  has_daemon some = has.daemon ∙ some_daemon entries.daemon some

  pub at_group : (n : ℕ) → IsAt entries OfGroup n → has_group app n ≡ true
  at_group n at = rw has.groups at

  pub at_task : (n : ℕ) → IsAt entries OfTask n → has_task app n ≡ true
  at_task n at = rw has.tasks at

  pub at_variable : (n : ℕ) → IsAt entries OfVariable n → has_variable app n ≡ true
  at_variable n at = rw has.variables at

  pub at_handler : (n : ℕ) → IsAt entries OfHandler n → has_handler app n ≡ true
  at_handler n at = rw has.handlers at

  pub at_value : (v : Value) → AtValue (IsAt entries) v → knows_value app v ≡ true
  at_value (value.Number n) at = refl
  at_value value.Answer at = refl
  at_value (value.Variable x) at = at_variable x.number at

  pub at_condition : (condition : AnswerCondition) → AtCondition (IsAt entries) condition → knows_condition app condition ≡ true
  at_condition (Is None) at = refl
  at_condition (Is (Some v)) at = at_value v at
  at_condition (IsNot None) at = refl
  at_condition (IsNot (Some v)) at = at_value v at
  at_condition (Below bound) at = at_value bound at
  at_condition (Above bound) at = at_value bound at
