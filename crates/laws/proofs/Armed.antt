-- A handler that nothing arms can't come, and one that nothing disarms can.
use Rattle.std.proofs.Common.{◌∷◌, zero, suc}
use Rattle.std.proofs.Common.{◌≡◌, ◌+◌, ◌&&◌, ℕ, Bool, true, false, not, eqb, List, [], Option}
use Rattle.std.proofs.Common.{Some, None, length, refl, ap, sym, subst, ◌∙◌, arith}
use Rattle.std.specs.List.{slice_get}
use Rattle.std.specs.Option.{IfSome, option_map, unwrap_or}
use Rattle.std.proofs.Common.{ltb}
use Rattle.std.proofs.lemmas.Bool.{ltb-true}
use Rattle.std.proofs.Math.Dec.{leb-zero}
use Rattle.std.proofs.lemmas.Option.{slice_get_past}
use Rattle.model.specs.declared.plan.Injection.{Injection}
use Rattle.model.specs.Points.{first_handler, first_step}
use Rattle.model.specs.Handlers.{apart_of, can_come, is_raised_for}
use Rattle.model.specs.Run.{IsRow, IsRun, Run, is_reached, state_after}
use Rattle.model.specs.Scripts.{IsWellFormed}
use Rattle.model.specs.State.{State, Source, source_at}
use Rattle.model.specs.Step.{nobody_ready}
use Rattle.model.proofs.Lists.{eqb-refl}
use Rattle.model.proofs.Sorting.{by_test}
use Rattle.std.specs.List.{filter}
use Rattle.model.specs.Handlers.{inject, pend, serve_pending}
use Rattle.model.specs.Run.{end_of, events_after, injected}
use Rattle.model.specs.State.{for_each}
use Rattle.model.specs.Step.{act_current, before_step, step}
use Rattle.model.specs.Switching.{is_critical, settle, unless_held}
use Rattle.model.proofs.Lists.{eqb-same}
use Rattle.laws.specs.Arming.{without}
use Rattle.laws.proofs.Touching.{touched-inject, touched-pend, touched-serve_pending}
use Rattle.laws.proofs.Sources.{at_start, changed, lowered, starts_as}
use Rattle.laws.proofs.Touching.{all_so, formed_allows, is_formed, some_so, touched_after, touching_one}
use Rattle.model.specs.declared.op.IsrOp.{IsrOp}
use Rattle.model.specs.declared.op.IsrOp.TheVariants as isr_op
use Rattle.model.specs.declared.op.Op.{Op}
use Rattle.model.specs.declared.op.Op.TheVariants as op
use Rattle.model.specs.declared.source.SourceOp.{SourceOp}
use Rattle.model.specs.declared.source.SourceOp.TheVariants.{Arm, Disarm, Raise, Cancel}
use Rattle.model.specs.Application.{Application, Handler, Limits, op_at, ops_of}
use Rattle.laws.specs.Arming.{arms, isr_arms, disarms, isr_disarms, IsNeverArmed, IsAlwaysArmed}
use Rattle.laws.proofs.Touching.{AreAllowed, Touching, is_allowed, is_isr_allowed}

module _ (handler : ℕ) where
  -- any op but one that arms it
  abbrev may_not_arm : ℕ → SourceOp → Bool
  may_not_arm other Arm = not (eqb other handler)
  may_not_arm other _ = true

  not_arming : (o : Op) → arms handler o ≡ false → is_allowed may_not_arm o ≡ true
  not_arming (op.Source other Arm) h = rw h refl
  not_arming _ h = refl

  not_isr_arming : (o : IsrOp) → isr_arms handler o ≡ false → is_isr_allowed may_not_arm o ≡ true
  not_isr_arming (isr_op.Source other Arm) h = rw h refl
  not_isr_arming _ h = refl

  stays_disarmed : (o : SourceOp) (now : ℕ) (x : Source) → may_not_arm handler o ≡ true → x.armed ≡ false
      → (changed o now x).armed ≡ false
  stays_disarmed Arm now x may h = (let contrary : eqb handler handler ≡ true = eqb-refl handler in absurd (cc))
  stays_disarmed Disarm now x may h = refl
  stays_disarmed (Raise n) now x may h = h
  stays_disarmed Cancel now x may h = h

  disarmed_start : (o : Option Handler) → option_map (λ (h : Handler). h.armed) o ≡ Some false → (at_start o).armed ≡ false
  disarmed_start None h = absurd (cc)
  disarmed_start (Some x) h = cc

module _ (app : Application) (handler : ℕ) (never : IsNeverArmed app handler) where
  disarmed : Touching app (λ (s : State). (source_at s handler).armed ≡ false) (may_not_arm handler)
  disarmed = touching_one app handler (λ now x. x.armed ≡ false) (may_not_arm handler)
      (stays_disarmed handler) (λ now x h. h) (λ b now x h. h) (λ n now x none h. lowered_so n now x h) where
        lowered_so : (n now : ℕ) (x : Source) → x.armed ≡ false → (lowered (now + n) x).armed ≡ false
        lowered_so n now x h = by_test (is_raised_for (now + n) x) (λ t. rw t h) (λ t. rw t h)

  allowed : AreAllowed app (may_not_arm handler)
  allowed = record {
    tasks = λ task op_index. some_so (not_arming handler) (op_at app task op_index) (never.tasks task op_index);
    handlers = λ other. all_so (not_isr_arming handler) (ops_of app other) (never.handlers other);
  }

  stays_off : (limits : Limits) (plan : List Injection) (n : ℕ) → (source_at (state_after app limits plan n) handler).armed ≡ false
  unfolding nobody_ready
  stays_off =
      touched_after app disarmed allowed
      (ap (λ (x : Source). x.armed) (starts_as app.handlers handler)
      ∙ disarmed_start handler (slice_get app.handlers handler) never.at_reset)

  pub never_comes : (limits : Limits) (plan : List Injection) (n : ℕ) → can_come (state_after app limits plan n) handler ≡ false
  never_comes limits plan n = rw (stays_off limits plan n) refl

pub base_row : (app : Application) (limits : Limits) (point : List Injection) (reached : Bool) (row : Run)
    → IsNeverArmed app (first_handler point) → IsRow app limits point reached row → (reached ≡ false) × IsRun app [] limits row
base_row app limits point false row never is = (refl, is.0)
base_row app limits point true row never is =
    let before : Bool = ltb (first_step point) is.0.steps in
    let none : is_reached app limits point is.0.steps ≡ false =
    ap (λ (b : Bool). before && b) (never_comes app (first_handler point) never limits [] (first_step point)) ∙ and_not before in
    absurd (let contrary : true ≡ false = sym is.2 ∙ none in cc) where
      and_not : (b : Bool) → (b && false) ≡ false
      and_not true = refl
      and_not false = refl

-- ---- always armed

module _ (app : Application) (handler : ℕ) (may : ℕ → SourceOp → Bool) (keeps : may handler Disarm ≡ false)
    (any : apart_of app handler ≡ 0) where
  abbrev IsFree : ℕ → Source → Type 0
  IsFree now x = (x.armed ≡ true) × (x.free_from ≡ 0)

  stays_armed : (o : SourceOp) (now : ℕ) (x : Source) → may handler o ≡ true → IsFree now x → IsFree now (changed o now x)
  stays_armed Arm now x allowed h = (refl, h.1)
  stays_armed Disarm now x allowed h = absurd (let contrary : true ≡ false = sym allowed ∙ keeps in cc)
  stays_armed (Raise n) now x allowed h = h
  stays_armed Cancel now x allowed h = h

  free : Touching app (λ (s : State). IsFree s.elapsed (source_at s handler)) may
  free = touching_one app handler IsFree may stays_armed (λ now x h. (h.0, rw any h.1)) (λ b now x h. h)
      (λ n now x none h. lowered_so n now x h) where
        lowered_so : (n now : ℕ) (x : Source) → IsFree now x → IsFree (now + n) (lowered (now + n) x)
        lowered_so n now x h = by_test (is_raised_for (now + n) x) (λ t. rw t h) (λ t. rw t h)

  comes : AreAllowed app may → IsFree 0 (at_start (slice_get app.handlers handler)) → (limits : Limits) (plan : List Injection)
      (n : ℕ)
      → can_come (state_after app limits plan n) handler ≡ true
  unfolding nobody_ready
  comes allowed start limits plan n =
      let s : State = state_after app limits plan n in
      let on : IsFree s.elapsed (source_at s handler) =
      touched_after app free allowed (subst (IsFree 0) (sym (starts_as app.handlers handler)) start) limits plan n in
      rw (on.0, on.1) (leb-zero s.elapsed)

module _ (handler : ℕ) where
  -- any op but one that disarms it
  abbrev may_not_disarm : ℕ → SourceOp → Bool
  may_not_disarm other Disarm = not (eqb other handler)
  may_not_disarm other _ = true

  not_disarming : (o : Op) → disarms handler o ≡ false → is_allowed may_not_disarm o ≡ true
  not_disarming (op.Source other Disarm) h = rw h refl
  not_disarming _ h = refl

  not_isr_disarming : (o : IsrOp) → isr_disarms handler o ≡ false → is_isr_allowed may_not_disarm o ≡ true
  not_isr_disarming (isr_op.Source other Disarm) h = rw h refl
  not_isr_disarming _ h = refl

pub always_comes : (app : Application) (handler : ℕ) → IsAlwaysArmed app handler → (limits : Limits) (plan : List Injection) (n : ℕ)
    → can_come (state_after app limits plan n) handler ≡ true
always_comes app handler always =
    comes app handler (may_not_disarm handler) (rw (eqb-refl handler) refl)
    (any (slice_get app.handlers handler) always.at_reset)
    (record {
      tasks = λ task op_index. some_so (not_disarming handler) (op_at app task op_index) (always.tasks task op_index);
      handlers = λ other. all_so (not_isr_disarming handler) (ops_of app other) (always.handlers other);
    })
    (start (slice_get app.handlers handler) always.at_reset) where
      any : (o : Option Handler) → IfSome o (λ h. (h.armed ≡ true) × (h.apart ≡ 0))
          → unwrap_or (option_map (λ (h : Handler). h.apart) o) 0 ≡ 0
      any None h = refl
      any (Some x) h = h.1

      start : (o : Option Handler) → IfSome o (λ h. (h.armed ≡ true) × (h.apart ≡ 0))
          → ((at_start o).armed ≡ true) × ((at_start o).free_from ≡ 0)
      start None h = (refl, refl)
      start (Some x) h = (h.0, refl)

pub tick_comes : (app : Application) → IsWellFormed app → (limits : Limits) (plan : List Injection) (n : ℕ)
    → can_come (state_after app limits plan n) (length app.handlers) ≡ true
tick_comes app formed =
    let tick : ℕ = length app.handlers in
    let none : slice_get app.handlers tick ≡ None = slice_get_past app.handlers tick (omega arith) in
    let any : apart_of app tick ≡ 0 = ap (λ (o : Option Handler). unwrap_or (option_map (λ (h : Handler). h.apart) o) 0) none in
    comes app tick (is_formed app) (not_there tick) any (formed_allows app formed)
    (subst (λ (o : Option Handler). ((at_start o).armed ≡ true) × ((at_start o).free_from ≡ 0)) (sym none) (refl, refl)) where
      not_there : (n : ℕ) → (ltb n n && true) ≡ false
      not_there n = by_test (ltb n n) (λ t. let l = ltb-true n n t in absurd (omega arith)) (λ t. rw t refl)

-- ---- injections of one that is never armed

-- all others of these
abbrev others : ℕ → List ℕ → List ℕ
others handler sources = filter (λ source. not (eqb source handler)) sources

injected_others : (handler n : ℕ) (plan : List Injection) → injected (without handler plan) n ≡ others handler (injected plan n)
injected_others handler n [] = refl
injected_others handler n (i ∷ plan) = by_test (eqb i.handler handler)
    (λ t. by_test (eqb i.step n)
    (λ u. rw (t, u, t) (injected_others handler n plan))
    (λ u. rw (t, u) (injected_others handler n plan)))
    (λ t. by_test (eqb i.step n)
    (λ u. rw (t, u, t) (ap (λ (sources : List ℕ). i.handler ∷ sources) (injected_others handler n plan)))
    (λ u. rw (t, u) (injected_others handler n plan)))

module _ (app : Application) (handler : ℕ) (never : IsNeverArmed app handler) where
  abbrev IsOff : State → Type 0
  IsOff s = (source_at s handler).armed ≡ false

  -- what doesn't come does nothing
  turns_alike : (deed : ℕ → State → State) → ((s : State) → IsOff s → deed handler s ≡ s)
      → ((source : ℕ) (s : State) → IsOff s → IsOff (deed source s)) → (sources : List ℕ) (s : State) → IsOff s
      → for_each deed sources s ≡ for_each deed (others handler sources) s
  turns_alike deed nothing keeps [] s off = refl
  turns_alike deed nothing keeps (source ∷ sources) s off = by_test (eqb source handler)
      (λ t.
      rw t (ap (λ (i : ℕ). for_each deed sources (deed i s)) (eqb-same source handler t)
      ∙ ap (for_each deed sources) (nothing s off) ∙ turns_alike deed nothing keeps sources s off))
      (λ t. rw t (turns_alike deed nothing keeps sources (deed source s) (keeps source s off)))

  nothing_comes : (s : State) → IsOff s → inject app handler s ≡ s
  unfolding inject
  nothing_comes s off = rw off refl

  injects_alike : (sources : List ℕ) (s : State) → IsOff s
      → for_each (inject app) sources s ≡ for_each (inject app) (others handler sources) s
  injects_alike =
      turns_alike (inject app) nothing_comes (touched-inject app (disarmed app handler never) (allowed app handler never))

  pends_alike : (sources : List ℕ) (s : State) → IsOff s
      → for_each (pend app) sources s ≡ for_each (pend app) (others handler sources) s
  pends_alike =
      turns_alike (pend app) (λ s off. rw off refl) (touched-pend app (disarmed app handler never) (allowed app handler never))

  begun_alike : (sources : List ℕ) (s : State) → IsOff s → before_step app sources s ≡ before_step app (others handler sources) s
  unfolding before_step
  begun_alike sources s off =
      let t : State = record s { log = [] } in
      by_test (is_critical t)
      (λ q. rw q (pends_alike sources t off))
      (λ q.
      rw q (injects_alike sources (serve_pending app t)
      (touched-serve_pending app (disarmed app handler never) (allowed app handler never) t off)))

  step_alike : (limits : Limits) (sources : List ℕ) (s : State) → IsOff s
      → step app limits sources s ≡ step app limits (others handler sources) s
  unfolding step
  step_alike limits sources s off =
      ap (λ (begun : State). record (unless_held settle (act_current app limits begun.current begun)) { steps = s.steps + 1 })
      (begun_alike sources s off)

  module _ (limits : Limits) (plan : List Injection) where
    state_alike : (n : ℕ) → state_after app limits plan n ≡ state_after app limits (without handler plan) n
    state_alike zero = refl
    state_alike (suc n) =
        step_alike limits (injected plan n) (state_after app limits plan n) (stays_off app handler never limits plan n)
        ∙ ap (λ (sources : List ℕ). step app limits sources (state_after app limits plan n)) (sym (injected_others handler n plan))
        ∙ ap (step app limits (injected (without handler plan) n)) (state_alike n)

    events_alike : (n : ℕ) → events_after app limits plan n ≡ events_after app limits (without handler plan) n
    events_alike zero = refl
    events_alike (suc n) = rw (events_alike n, state_alike (suc n)) refl

    pub run_without : (run : Run) → IsRun app plan limits run → IsRun app (without handler plan) limits run
    run_without run is = record {
      goes_on = λ n l. ap (end_of app limits) (sym (state_alike n)) ∙ is.goes_on n l;
      ends = ap (end_of app limits) (sym (state_alike run.steps)) ∙ is.ends;
      trace = is.trace ∙ events_alike run.steps;
      elapsed = is.elapsed ∙ ap (λ (s : State). s.elapsed) (state_alike run.steps);
    }

    pub run_with : (run : Run) → IsRun app (without handler plan) limits run → IsRun app plan limits run
    run_with run is = record {
      goes_on = λ n l. ap (end_of app limits) (state_alike n) ∙ is.goes_on n l;
      ends = ap (end_of app limits) (state_alike run.steps) ∙ is.ends;
      trace = is.trace ∙ sym (events_alike run.steps);
      elapsed = is.elapsed ∙ ap (λ (s : State). s.elapsed) (sym (state_alike run.steps));
    }
