-- A handler that has come can't come again too soon.
use Rattle.std.proofs.Common.{◌≡◌, ◌<◌, ◌≤◌, ◌+◌, ◌-◌, ◌&&◌, ◌∙◌, ℕ, zero, suc, Bool, true, false, eqb, leb, leb-false, List, []}
use Rattle.std.proofs.Common.{◌∷◌}
use Rattle.std.proofs.Common.{Option, Some, None, map, length, get_or, set, refl, ap, sym, subst, arith, get_or-set_same}
use Rattle.std.proofs.Math.ListN.{length-map, length-set}
use Rattle.std.proofs.lemmas.Bool.{leb-true}
use Rattle.std.proofs.lemmas.List.{length-append}
use Rattle.std.proofs.lemmas.Option.{slice_get_past}
use Rattle.std.specs.List.{AllByRecursion}
use Rattle.std.specs.Option.{IfSome, option_map, unwrap_or}
use Rattle.model.specs.declared.op.IsrOp.{IsrOp}
use Rattle.model.specs.declared.op.IsrOp.TheVariants as isr_op
use Rattle.model.specs.declared.op.Op.{Op}
use Rattle.model.specs.declared.op.Op.TheVariants as op
use Rattle.model.specs.declared.plan.Injection.{Injection}
use Rattle.model.specs.declared.source.SourceOp.{SourceOp}
use Rattle.model.specs.declared.source.SourceOp.TheVariants.{Arm, Disarm, Raise, Cancel}
use Rattle.model.specs.Application.{Application, Handler, Limits, op_at, ops_of}
use Rattle.model.specs.Handlers.{apart_of, can_come, come, handle, inject, is_raised_for, is_tick, note_coming, pend, serve}
use Rattle.model.specs.Handlers.{serve_pending}
use Rattle.model.specs.Invariant.{IsNonePending}
use Rattle.model.specs.Run.{injected, state_after}
use Rattle.model.specs.State.{State, Source, no_source, source_at, with_source}
use Rattle.model.specs.Step.{nobody_ready, source_at_reset, step}
use Rattle.model.specs.Switching.{is_critical, preempt, unless_held}
use Rattle.model.proofs.Lists.{eqb-apart, eqb-same}
use Rattle.model.proofs.Sorting.{by_test}
use Rattle.soundness.proofs.Pending.{begun_critical, begun_with}
use Rattle.laws.specs.Comings.{HasCome}
use Rattle.laws.proofs.Sources.{changed, done_is, lowered, noted}
use Rattle.laws.proofs.Touching.{AreAllowed, Coming, Touching, coming_of_one, is_allowed, is_isr_allowed, spared_by, spares-preempt}
use Rattle.laws.proofs.Touching.{touched-body, touched-injects, touched-isr_each, touched-pends, touched-step, touched_after}
use Rattle.laws.proofs.Touching.{touched_on}
use Rattle.laws.proofs.Touching.{touched-inject, touched-pend, touched-serve_pending, touching_one}

-- ---- whatever ops the file has

abbrev any : ℕ → SourceOp → Bool
any handler what = true

any_op : (o : Op) → is_allowed any o ≡ true
any_op (op.Source handler what) = refl
any_op _ = refl

any_isr : (o : IsrOp) → is_isr_allowed any o ≡ true
any_isr (isr_op.Source handler what) = refl
any_isr _ = refl

any_ops : (ops : List IsrOp) → AllByRecursion (λ op. is_isr_allowed any op ≡ true) ops
any_ops [] = tt
any_ops (o ∷ ops) = (any_isr o, any_ops ops)

any_file : (app : Application) → AreAllowed app any
any_file app = record {
  tasks = λ task op_index. if_any (op_at app task op_index);
  handlers = λ handler. any_ops (ops_of app handler);
} where
  if_any : (o : Option Op) → IfSome o (λ op. is_allowed any op ≡ true)
  if_any None = tt
  if_any (Some o) = any_op o

-- ---- there are as many sources

module _ (app : Application) where
  abbrev AreAll : State → Type 0
  AreAll s = length s.sources ≡ length app.handlers + 1

  all_there : Touching app AreAll any
  all_there = record {
    coming = record {
      spared = λ s t same still h. ap (λ (xs : List Source). length xs) same ∙ h;
      done = λ handler what s allowed h.
          subst AreAll (sym (done_is handler what s)) (length-set s.sources handler _ ∙ h);
      noted = λ handler s h. length-set s.sources handler _ ∙ h;
    };
    marked = λ handler s h. length-set s.sources handler _ ∙ h;
    unmarked = λ s h. length-map s.sources (λ (x : Source). record x { pending = false }) ∙ h;
    elapsed = λ n s none h. length-map s.sources (lowered (s.elapsed + n)) ∙ h;
  }

  pub as_many : (limits : Limits) (plan : List Injection) (n : ℕ)
      → length (state_after app limits plan n).sources ≡ length app.handlers + 1
  unfolding nobody_ready
  as_many limits plan n =
      touched_after app all_there (any_file app)
      (length-append (map source_at_reset app.handlers) (no_source ∷ [])
      ∙ ap (λ (n : ℕ). n + 1) (length-map app.handlers source_at_reset)) limits plan n

-- ---- what is noted stays so

module _ (app : Application) (handler tick : ℕ) where
  abbrev Noted : ℕ → Source → Type 0
  Noted now x = (tick ≤ now) × (1 ≤ apart_of app handler → tick + apart_of app handler ≤ x.free_from)

  noted_by_op : (what : SourceOp) (now : ℕ) (x : Source) → any handler what ≡ true → Noted now x → Noted now (changed what now x)
  noted_by_op Arm now x allowed h = h
  noted_by_op Disarm now x allowed h = h
  noted_by_op (Raise n) now x allowed h = h
  noted_by_op Cancel now x allowed h = h

  noted_by_coming : (now : ℕ) (x : Source) → Noted now x → Noted now (noted app handler now x)
  noted_by_coming now x h = by_test (eqb (apart_of app handler) 0)
      (λ t. rw t h)
      (λ t. rw t (h.0, λ some. let l = h.0 in omega arith))

  noted_later : (n now : ℕ) (x : Source) → Noted now x → Noted (now + n) (lowered (now + n) x)
  noted_later n now x h =
      let l = h.0 in by_test (is_raised_for (now + n) x) (λ t. rw t (omega arith, h.1)) (λ t. rw t (omega arith, h.1))

  noting : Coming app (HasCome app handler tick) any
  noting = coming_of_one app handler Noted any noted_by_op noted_by_coming

  pub stays_noted : Touching app (HasCome app handler tick) any
  stays_noted =
      touching_one app handler Noted any noted_by_op noted_by_coming (λ b now x h. h) (λ n now x none h. noted_later n now x h)

  pub has_come_still : (limits : Limits) (sources : List ℕ) (s : State) → HasCome app handler tick s
      → HasCome app handler tick (step app limits sources s)
  has_come_still limits sources s h = touched-step app stays_noted (any_file app) limits sources s h

  pub has_come_in_turn : (source : ℕ) (s : State) → HasCome app handler tick s
      → HasCome app handler tick (inject app source s) × HasCome app handler tick (pend app source s)
      × HasCome app handler tick (serve_pending app s)
  has_come_in_turn source s h =
      let file = any_file app in (
        touched-inject app stays_noted file source s h,
        touched-pend app stays_noted file source s h,
        touched-serve_pending app stays_noted file s h,
      )

  pub apart_from_it : (s : State) → HasCome app handler tick s → can_come s handler ≡ true
      → tick + apart_of app handler ≤ s.elapsed
  apart_from_it s h can =
      let free : leb (source_at s handler).free_from s.elapsed ≡ true = right (source_at s handler).armed _ can in
      let now = leb-true (source_at s handler).free_from s.elapsed free in
      let ago = h.0 in
      by_test (eqb (apart_of app handler) 0)
      (λ t. let none = eqb-same (apart_of app handler) 0 t in omega arith)
      (λ t. let noted = h.1 (some (apart_of app handler) t) in omega arith) where
        right : (a b : Bool) → (a && b) ≡ true → b ≡ true
        right true b e = e
        right false b e = absurd (cc)

        some : (n : ℕ) → eqb n 0 ≡ false → 1 ≤ n
        some zero t = absurd (cc)
        some (suc n) t = omega arith

-- ---- a handler comes

module _ (app : Application) (handler : ℕ) where
  -- now
  abbrev ComesNow : State → State → Type 0
  ComesNow s t = HasCome app handler s.elapsed t

  noted_now : (s : State) → handler < length s.sources → ComesNow s (note_coming app handler s)
  noted_now s there =
      let x : Source = noted app handler s.elapsed (source_at s handler) in (
        omega arith,
        λ some.
            (let at : (get_or (set s.sources handler x) handler no_source).free_from ≡ x.free_from =
            ap (λ (y : Source). y.free_from) (get_or-set_same s.sources handler x no_source there) in
            let free : x.free_from ≡ s.elapsed + apart_of app handler = by_test (eqb (apart_of app handler) 0)
            (λ t. (let none = eqb-same (apart_of app handler) 0 t in absurd (omega arith)))
            (λ t. rw t refl) in
            omega arith),
      )

  pub comes_now : (s : State) → handler < length s.sources → ComesNow s (come app handler s)
  unfolding come handle
  comes_now s there =
      touched-isr_each app (noting app handler s.elapsed) handler 0 0 None (ops_of app handler) (note_coming app handler s)
      (any_ops (ops_of app handler)) (noted_now s there)

  -- when it is injected, and can come
  served_now : (s : State) → handler < length s.sources → is_tick app handler ≡ false → can_come s handler ≡ true
      → ComesNow s (inject app handler s)
  unfolding inject serve
  served_now s there other can =
      let t : State = come app handler s in
      rw (can, other) (spared_by app (noting app handler s.elapsed) t (unless_held preempt t) (spares-preempt t t (refl, refl))
      (comes_now s there))

  pended_now : (s : State) → handler < length s.sources → can_come s handler ≡ true → ComesNow s (pend app handler s)
  pended_now s there can =
      let marked : State = with_source handler (record (source_at s handler) { pending = true }) s in
      rw can (noted_now marked (let many = length-set s.sources handler (record (source_at s handler) { pending = true }) in
      omega (arith, many, there)))

  module _ (limits : Limits) (others : List ℕ) (s : State) (there : handler < length s.sources)
      (other : is_tick app handler ≡ false) (can : can_come s handler ≡ true) (none : IsNonePending s) where
    come_in_step : ComesNow s (step app limits (handler ∷ others) s)
    come_in_step =
        let r : State = record s { log = [] } in
        touched-body app (stays_noted app handler s.elapsed) (any_file app) limits (handler ∷ others) s
        (by_test (is_critical s)
        (λ open_.
        subst (ComesNow s) (sym (begun_critical app (handler ∷ others) s open_))
        (touched-pends app (stays_noted app handler s.elapsed) (any_file app) others (pend app handler r) (pended_now r there can)))
        (λ shut.
        subst (ComesNow s) (sym (begun_with app (handler ∷ others) s none shut))
        (touched-injects app (stays_noted app handler s.elapsed) (any_file app) others (inject app handler r)
        (served_now r there other can))))

-- ---- in a run

module _ (app : Application) (limits : Limits) (plan : List Injection) (handler m : ℕ) (others : List ℕ)
    (is : injected plan m ≡ handler ∷ others) (none : IsNonePending (state_after app limits plan m))
    (can : can_come (state_after app limits plan m) handler ≡ true) where
  abbrev here : State
  here = state_after app limits plan m

  -- If its comings must be apart, it is a handler of the file.
  in_file : eqb (apart_of app handler) 0 ≡ false → handler < length app.handlers
  in_file t = by_test (leb (length app.handlers) handler)
      (λ past.
      let le = leb-true (length app.handlers) handler past in
      let no : apart_of app handler ≡ 0 =
      ap (λ (o : Option Handler). unwrap_or (option_map (λ (h : Handler). h.apart) o) 0)
      (slice_get_past app.handlers handler le) in
      absurd (let contrary : eqb (apart_of app handler) 0 ≡ true = rw no refl in cc))
      (λ within. leb-false (length app.handlers) handler within)

  come_after : HasCome app handler here.elapsed (state_after app limits plan (suc m))
  come_after = by_test (eqb (apart_of app handler) 0)
      (λ t.
      let no = eqb-same (apart_of app handler) 0 t in
      has_come_still app handler here.elapsed limits (injected plan m) here
      (omega arith, λ some. absurd (omega arith)))
      (λ t.
      let within = in_file t in
      let many = as_many app limits plan m in
      let apart_from_tick : is_tick app handler ≡ false = eqb-apart handler (length app.handlers) (λ e. omega arith) in
      subst (λ (sources : List ℕ). HasCome app handler here.elapsed (step app limits sources here)) (sym is)
      (come_in_step app handler limits others here (omega (arith, within, many)) apart_from_tick can none))

  pub comings_apart : (n : ℕ) → m < n → can_come (state_after app limits plan n) handler ≡ true
      → here.elapsed + apart_of app handler ≤ (state_after app limits plan n).elapsed
  comings_apart n l later =
      let more : suc m + (n - suc m) ≡ n = omega arith in
      apart_from_it app handler here.elapsed (state_after app limits plan n)
      (subst (λ k. HasCome app handler here.elapsed (state_after app limits plan k)) more
      (touched_on app (stays_noted app handler here.elapsed) (any_file app) limits plan (suc m) (n - suc m) come_after)) later
