-- A handler that raises itself comes again and again; one that is raised comes later; and what changes that.
use Rattle.std.proofs.Common.{◌≡◌, ◌≢◌, ◌<◌, ◌≤◌, ◌+◌, ◌-◌, ◌*◌, ◌&&◌, ◌++◌, ◌∙◌, ℕ, zero, suc, Bool, true, false, not, eqb, leb}
use Rattle.std.proofs.Common.{List, [], ◌∷◌, Option, Some, None, length, get_or, refl, ap, sym, subst, arith}
use Rattle.std.proofs.Common.{get_or-set_same, leb-false}
use Rattle.std.proofs.Math.ListN.{get_or-map, length-map, length-set}
use Rattle.std.proofs.lemmas.Bool.{leb-true}
use Rattle.std.specs.List.{AllByRecursion, filter, range_with_len, slice_get}
use Rattle.std.specs.Option.{IfSome, option_eq}
use Rattle.model.specs.declared.op.IsrOp.{IsrOp}
use Rattle.model.specs.declared.op.IsrOp.TheVariants as isr_op
use Rattle.model.specs.declared.plan.Injection.{Injection}
use Rattle.model.specs.declared.source.SourceOp.{SourceOp}
use Rattle.model.specs.declared.source.SourceOp.TheVariants.{Arm, Disarm, Raise, Cancel}
use Rattle.model.specs.Application.{Application, Handler, Limits, interrupts_at, ops_of}
use Rattle.model.specs.Handlers.{can_come, come, handle, inject, interrupt, is_raised_for, is_tick, isr_each, none_raised_now}
use Rattle.model.specs.Handlers.{note_coming, pend, raised_now, serve, tick_interrupt}
use Rattle.model.specs.Ops.{do_to_source}
use Rattle.model.specs.Run.{state_after}
use Rattle.model.specs.Scripts.{IsWellFormed}
use Rattle.model.specs.State.{State, Source, for_each, no_source, source_at, with_source}
use Rattle.model.specs.Step.{nobody_ready}
use Rattle.model.specs.Time.{increment_tick}
use Rattle.model.proofs.Lists.{eqb-apart, eqb-refl, eqb-same}
use Rattle.model.proofs.Sorting.{by_test}
use Rattle.soundness.proofs.Frames.{keeps-come}
use Rattle.soundness.proofs.Keeping.{pending_in}
use Rattle.soundness.proofs.Ticking.{elapsed-tick}
use Rattle.laws.specs.Raising.{HasNoBase, IsDueNext, IsLeftAlone, IsPeriodic, IsRaisedFor, LeaveRaised, after_ticks, is_raising}
use Rattle.laws.specs.Raising.{raises}
use Rattle.laws.proofs.Sources.{at_start, changed, changed_at, lowered, noted, one_changed, starts_as}
use Rattle.model.specs.declared.op.Op.{Op}
use Rattle.model.specs.declared.op.Op.TheVariants as op
use Rattle.model.specs.Application.{op_at}
use Rattle.model.specs.Handlers.{none_pending}
use Rattle.model.specs.Run.{injected}
use Rattle.std.proofs.Math.Nat.{mul-le-mul_right}
use Rattle.soundness.proofs.Frames.{keeps-interrupt}
use Rattle.laws.proofs.Sleeping.{NoneRaisedBetween}
use Rattle.laws.proofs.Sources.{done_is}
use Rattle.laws.proofs.Touching.{Stepping, is_allowed, some_so, stepped_on}
use Rattle.laws.proofs.Touching.{Coming, Touching, all_so, coming_of_one, elapses, formed_allows, is_formed, is_isr_allowed}
use Rattle.laws.proofs.Touching.{spares-preempt, spares-slice, touched-come, touched-isr_each, touched_after, touching_one}

-- ---- a cancel, and a raise

raised_test : (o : Option ℕ) (r tick : ℕ) → o ≡ Some r → option_eq eqb o (Some tick) ≡ eqb r tick
raised_test o r tick e = ap (λ (q : Option ℕ). option_eq eqb q (Some tick)) e

cancelled_there : (xs : List Source) (i : ℕ) → (get_or (changed_at (changed Cancel 0) i xs) i no_source).raised ≡ None
cancelled_there [] i = refl
cancelled_there (x ∷ xs) zero = refl
cancelled_there (x ∷ xs) (suc i) = cancelled_there xs i

pub cancelled : (handler tick : ℕ) (s : State) → is_raised_for tick (source_at (do_to_source handler Cancel s) handler) ≡ false
cancelled handler tick s = ap (λ (o : Option ℕ). option_eq eqb o (Some tick)) (cancelled_there s.sources handler)

pub raised_so : (handler ticks : ℕ) (s : State) → handler < length s.sources
    → IsRaisedFor (do_to_source handler (Raise ticks) s) handler (s.elapsed + ticks)
raised_so handler ticks s there =
    ap (λ (x : Source). x.raised) (get_or-set_same s.sources handler
    (record (source_at s handler) { raised = Some (s.elapsed + ticks) }) no_source there)

-- A source that is raised is there.
there_if : (xs : List Source) (i r : ℕ) → (get_or xs i no_source).raised ≡ Some r → i < length xs
there_if [] i r e = absurd (cc)
there_if (x ∷ xs) zero r e = omega arith
there_if (x ∷ xs) (suc i) r e = let l = there_if xs i r e in omega arith

-- ---- ops that leave a handler raised

module _ (handler : ℕ) where
  abbrev may_leave : ℕ → SourceOp → Bool
  may_leave other (Raise n) = not (eqb other handler)
  may_leave other Cancel = not (eqb other handler)
  may_leave other _ = true

  not_raising : (o : IsrOp) → is_raising handler o ≡ false → is_isr_allowed may_leave o ≡ true
  not_raising (isr_op.Source other (Raise n)) h = rw h refl
  not_raising (isr_op.Source other Cancel) h = rw h refl
  not_raising _ h = refl

  not_raised : (o : Op) → raises handler o ≡ false → is_allowed may_leave o ≡ true
  not_raised (op.Source other (Raise n)) h = rw h refl
  not_raised (op.Source other Cancel) h = rw h refl
  not_raised _ h = refl

  left_by : (now : Option ℕ) (what : SourceOp) (tick : ℕ) (x : Source) → may_leave handler what ≡ true → x.raised ≡ now
      → (changed what tick x).raised ≡ now
  left_by now Arm tick x may h = h
  left_by now Disarm tick x may h = h
  left_by now (Raise n) tick x may h = (let contrary : eqb handler handler ≡ true = eqb-refl handler in absurd (cc))
  left_by now Cancel tick x may h = (let contrary : eqb handler handler ≡ true = eqb-refl handler in absurd (cc))

  leaving : (app : Application) (now : Option ℕ) → Coming app (λ (s : State). (source_at s handler).raised ≡ now) may_leave
  leaving app now = coming_of_one app handler (λ tick x. x.raised ≡ now) may_leave (left_by now) (λ tick x h. h)

  pub come_leaves : (app : Application) (other : ℕ) (s : State) → LeaveRaised handler (ops_of app other)
      → (source_at (come app other s) handler).raised ≡ (source_at s handler).raised
  come_leaves app other s leave =
      touched-come app (leaving app (source_at s handler).raised) other s (all_so not_raising (ops_of app other) leave) refl

-- An injection of a handler leaves it raised.
pub inject_leaves : (app : Application) (handler : ℕ) (s : State) → is_tick app handler ≡ false
    → LeaveRaised handler (ops_of app handler)
    → (source_at (inject app handler s) handler).raised ≡ (source_at s handler).raised
unfolding inject serve
inject_leaves app handler s other leave = by_test (can_come s handler)
    (λ can.
    let t : State = come app handler s in
    rw (can, other) (ap (λ (xs : List Source). (get_or xs handler no_source).raised) (spares-preempt t t (refl, refl)).0
    ∙ come_leaves handler app handler s leave))
    (λ not. rw not refl)

pub pend_leaves : (app : Application) (handler : ℕ) (s : State)
    → (source_at (pend app handler s) handler).raised ≡ (source_at s handler).raised
pend_leaves app handler s =
    let now : Option ℕ = (source_at s handler).raised in
    let marked : State = with_source handler (record (source_at s handler) { pending = true }) s in
    by_test (can_come s handler)
    (λ can.
    rw can (one_changed (λ (x : Source). x.raised ≡ now) (noted app handler s.elapsed) marked.sources handler handler (λ e k. k)
    (one_changed (λ (x : Source). x.raised ≡ now) (λ (x : Source). record x { pending = true }) s.sources handler handler (λ e k. k)
    refl)))
    (λ not. rw not refl)

-- ---- one that raises itself again

each_appended : (app : Application) (xs ys : List ℕ) (s : State)
    → for_each (come app) (xs ++ ys) s ≡ for_each (come app) ys (for_each (come app) xs s)
each_appended app [] ys s = refl
each_appended app (x ∷ xs) ys s = each_appended app xs ys (come app x s)

as_many : (s t : State) → pending_in t ≡ pending_in s → length t.sources ≡ length s.sources
as_many s t same =
    sym (length-map t.sources (λ (x : Source). x.pending)) ∙ ap (λ (bs : List Bool). length bs) same
    ∙ length-map s.sources (λ (x : Source). x.pending)

module _ (app : Application) (handler period : ℕ) (p : IsPeriodic app handler period) where
  come_raises : (s : State) → handler < length s.sources → IsRaisedFor (come app handler s) handler (s.elapsed + period)
  unfolding come handle
  come_raises s there =
      let noted_now : State = note_coming app handler s in
      let after : Option ℕ = Some (s.elapsed + period) in
      let within : handler < length noted_now.sources = (let many = length-set s.sources handler
      (noted app handler s.elapsed (source_at s handler)) in omega (arith, many, there)) in
      subst (λ (ops : List IsrOp). (source_at (isr_each app handler 0 0 None ops noted_now) handler).raised ≡ after) (sym p.again)
      (touched-isr_each app (leaving handler app after) handler 1 0 None p.ops (do_to_source handler (Raise period) noted_now)
      (all_so (not_raising handler) p.ops p.once) (raised_so handler period noted_now within))

  -- the sources, while handlers come at this elapsed tick
  module _ (now : ℕ) where
    abbrev IsThere : State → Type 0
    IsThere s = (s.elapsed ≡ now) × (handler < length s.sources)

    there_still : (other : ℕ) (s : State) → IsThere s → IsThere (come app other s)
    there_still other s h =
        let k = keeps-come app other s in
        let many = as_many s (come app other s) k.pending in
        (k.elapsed ∙ h.0, let l = h.1 in omega (arith, many, l))

    all_there : (others : List ℕ) (s : State) → IsThere s → IsThere (for_each (come app) others s)
    all_there [] s h = h
    all_there (other ∷ others) s h = all_there others (come app other s) (there_still other s h)

    abbrev IsAgain : State → Type 0
    IsAgain s = IsRaisedFor s handler (now + period)

    again_now : (s : State) → IsThere s → IsAgain (come app handler s)
    again_now s h = subst (λ (n : ℕ). IsRaisedFor (come app handler s) handler (n + period)) h.0 (come_raises s h.1)

    again_still : (other : ℕ) (s : State) → IsThere s → IsAgain s → IsAgain (come app other s)
    again_still other s h again = by_test (eqb other handler)
        (λ t. subst (λ (i : ℕ). IsAgain (come app i s)) (sym (eqb-same other handler t)) (again_now s h))
        (λ t.
        let apart : other ≢ handler =
        (λ e. let contrary : eqb other handler ≡ true = ap (λ (i : ℕ). eqb i handler) e ∙ eqb-refl handler in absurd (cc)) in
        come_leaves handler app other s (p.others other apart) ∙ again)

    again_after : (others : List ℕ) (s : State) → IsThere s → IsAgain s → IsAgain (for_each (come app) others s)
    again_after [] s h again = again
    again_after (other ∷ others) s h again =
        again_after others (come app other s) (there_still other s h) (again_still other s h again)

    -- It is among those that come.
    comes_among : (test : ℕ → Bool) → test handler ≡ true → (a n : ℕ) → a ≤ handler → handler < a + n → (s : State) → IsThere s
        → IsAgain (for_each (come app) (filter test (range_with_len a n)) s)
    comes_among test is a zero le l s h = absurd (omega arith)
    comes_among test is a (suc n) le l s h = by_test (eqb a handler)
        (λ t.
        let same : a ≡ handler = eqb-same a handler t in
        let here : test a ≡ true = ap test same ∙ is in
        rw here (again_after (filter test (range_with_len (a + 1) n)) (come app a s) (there_still a s h)
        (subst (λ (i : ℕ). IsAgain (come app i s)) (sym same) (again_now s h))))
        (λ t.
        let apart : a ≢ handler =
        (λ e. let contrary : eqb a handler ≡ true = ap (λ (i : ℕ). eqb i handler) e ∙ eqb-refl handler in absurd (cc)) in
        by_test (test a)
        (λ q. rw q (comes_among test is (a + 1) n (omega arith) (omega arith) (come app a s) (there_still a s h)))
        (λ q. rw q (comes_among test is (a + 1) n (omega arith) (omega arith) s h)))

  -- ---- at the tick for which it is raised

  pub comes_again : (s : State) → IsRaisedFor s handler s.elapsed → IsRaisedFor (interrupt app s) handler (s.elapsed + period)
  unfolding interrupt
  comes_again s is =
      let base : List ℕ = interrupts_at app s.elapsed in
      let none : State = none_raised_now s in
      let test : ℕ → Bool = λ source. is_raised_for s.elapsed (source_at s source) in
      let come_base : State = for_each (come app) base none in
      let due : test handler ≡ true = raised_test (source_at s handler).raised s.elapsed s.elapsed is ∙ eqb-refl s.elapsed in
      let within : handler < length s.sources = there_if s.sources handler s.elapsed is in
      let there : IsThere s.elapsed none =
      (refl, let many = length-map s.sources (lowered s.elapsed) in omega (arith, many, within)) in
      subst (λ (t : State). IsRaisedFor t handler (s.elapsed + period))
      (sym (each_appended app base (raised_now s) none))
      (comes_among s.elapsed test due 0 (length s.sources) (omega arith) (omega (arith, within)) come_base
      (all_there s.elapsed base none there))

  -- ---- and before

  leave_all : (others : List ℕ) → AllByRecursion (λ other. other ≢ handler) others → (s : State)
      → (source_at (for_each (come app) others s) handler).raised ≡ (source_at s handler).raised
  leave_all [] apart s = refl
  leave_all (other ∷ others) apart s =
      leave_all others apart.1 (come app other s) ∙ come_leaves handler app other s (p.others other apart.0)

  not_among : (test : ℕ → Bool) → test handler ≡ false → (others : List ℕ)
      → AllByRecursion (λ other. other ≢ handler) (filter test others)
  not_among test off [] = tt
  not_among test off (other ∷ others) = by_test (test other)
      (λ t.
      rw t ((λ e. let contrary : true ≡ false = sym t ∙ ap test e ∙ off in absurd (cc)), not_among test off others))
      (λ t. rw t (not_among test off others))

  pub waits : (s : State) (tick : ℕ) → IsRaisedFor s handler tick → tick ≢ s.elapsed → HasNoBase app handler s.elapsed
      → IsRaisedFor (interrupt app s) handler tick
  unfolding interrupt
  waits s tick is later no_base =
      let base : List ℕ = interrupts_at app s.elapsed in
      let none : State = none_raised_now s in
      let test : ℕ → Bool = λ source. is_raised_for s.elapsed (source_at s source) in
      let not_due : test handler ≡ false =
      raised_test (source_at s handler).raised tick s.elapsed is ∙ eqb-apart tick s.elapsed later in
      let still : IsRaisedFor none handler tick =
      ap (λ (x : Source). x.raised) (get_or-map (lowered s.elapsed) s.sources handler no_source) ∙ rw not_due is in
      ap (λ (t : State). (source_at t handler).raised) (each_appended app base (raised_now s) none)
      ∙ leave_all (raised_now s) (not_among test not_due (range_with_len 0 (length s.sources))) (for_each (come app) base none)
      ∙ leave_all base no_base none ∙ still

  -- ---- in tick interrupts

  ticked : (s : State) (r : ℕ) → IsRaisedFor (interrupt app (increment_tick s)) handler r
      → IsRaisedFor (tick_interrupt app s) handler r
  unfolding tick_interrupt
  ticked s r h =
      let t : State = interrupt app (increment_tick s) in
      ap (λ (xs : List Source). (get_or xs handler no_source).raised) (spares-slice t t (refl, refl)).0 ∙ h

  next_tick : (s : State) (r : ℕ) → IsRaisedFor s handler r → IsRaisedFor (increment_tick s) handler r
  next_tick s r h = ap (λ (xs : List Source). (get_or xs handler no_source).raised) (elapses s).0 ∙ h

  tick_comes : (s : State) → IsRaisedFor s handler (s.elapsed + 1)
      → IsRaisedFor (tick_interrupt app s) handler (s.elapsed + 1 + period)
  tick_comes s is =
      let one = (elapses s).1 in
      ticked s (s.elapsed + 1 + period)
      (subst (λ (n : ℕ). IsRaisedFor (interrupt app (increment_tick s)) handler (n + period)) one
      (comes_again (increment_tick s) (subst (IsRaisedFor (increment_tick s) handler) (sym one) (next_tick s (s.elapsed + 1) is))))

  module _ (no_base : (tick : ℕ) → HasNoBase app handler tick) where
    tick_waits : (s : State) (r : ℕ) → IsRaisedFor s handler r → s.elapsed + 1 < r → IsRaisedFor (tick_interrupt app s) handler r
    tick_waits s r is l =
        let one = (elapses s).1 in
        ticked s r (waits (increment_tick s) r (next_tick s r is) (λ e. omega (arith, one, l, e))
        (no_base (increment_tick s).elapsed))

    -- so many ticks before
    wait_on : (n : ℕ) (s : State) (r : ℕ) → IsRaisedFor s handler r → s.elapsed + n < r
        → ((after_ticks app n s).elapsed ≡ s.elapsed + n) × IsRaisedFor (after_ticks app n s) handler r
    wait_on zero s r is l = (omega arith, is)
    wait_on (suc n) s r is l =
        let before = wait_on n s r is (omega arith) in
        let t : State = after_ticks app n s in
        let e = before.0 in
        let one = elapsed-tick app t in
        (omega (arith, e, one), tick_waits t r before.1 (omega (arith, e, l)))

    ticks_added : (n m : ℕ) (s : State) → after_ticks app (n + m) s ≡ after_ticks app m (after_ticks app n s)
    ticks_added n zero s = ap (λ (k : ℕ). after_ticks app k s) (let e : n + 0 ≡ n = omega arith in e)
    ticks_added n (suc m) s =
        ap (λ (k : ℕ). after_ticks app k s) (let e : n + suc m ≡ suc (n + m) = omega arith in e)
        ∙ ap (tick_interrupt app) (ticks_added n m s)

    -- It is raised for the next tick.
    abbrev IsDue : State → Type 0
    IsDue s = IsRaisedFor s handler (s.elapsed + 1)

    -- It comes at that one, and is due again so many ticks later.
    one_period : 1 ≤ period → (s : State) → IsDue s
        → ((after_ticks app period s).elapsed ≡ s.elapsed + period) × IsDue (after_ticks app period s)
    one_period some s due =
        let t : State = tick_interrupt app s in
        let one : t.elapsed ≡ s.elapsed + 1 = elapsed-tick app s in
        let again : IsRaisedFor t handler (s.elapsed + 1 + period) = tick_comes s due in
        let rest = wait_on (period - 1) t (s.elapsed + 1 + period) again (omega (arith, one, some)) in
        let split : after_ticks app period s ≡ after_ticks app (period - 1) t =
        ap (λ (k : ℕ). after_ticks app k s) (let e : period ≡ 1 + (period - 1) = omega arith in e) ∙ ticks_added 1 (period - 1) s in
        let end : State = after_ticks app (period - 1) t in
        let e = rest.0 in
        let last : end.elapsed ≡ s.elapsed + period = omega (arith, e, one, some) in
        let when : s.elapsed + 1 + period ≡ end.elapsed + 1 = omega (arith, last) in (
          ap (λ (u : State). u.elapsed) split ∙ last,
          subst IsDue (sym split) (subst (IsRaisedFor end handler) when rest.1),
        )

    pub due_again : 1 ≤ period → (wait turns : ℕ) (s : State) → IsRaisedFor s handler (s.elapsed + wait + 1)
        → ((after_ticks app (wait + turns * period) s).elapsed ≡ s.elapsed + wait + turns * period)
        × IsDue (after_ticks app (wait + turns * period) s)
    due_again some wait zero s is =
        let first = wait_on wait s (s.elapsed + wait + 1) is (omega arith) in
        let none : wait + zero * period ≡ wait = omega arith in
        let same : after_ticks app (wait + zero * period) s ≡ after_ticks app wait s = ap (λ (k : ℕ). after_ticks app k s) none in
        let e = first.0 in
        let when : s.elapsed + wait + 1 ≡ (after_ticks app wait s).elapsed + 1 = omega (arith, e) in
        let now : s.elapsed + wait ≡ s.elapsed + wait + zero * period = omega arith in (
          ap (λ (u : State). u.elapsed) same ∙ e ∙ now,
          subst IsDue (sym same) (subst (IsRaisedFor (after_ticks app wait s) handler) when first.1),
        )
    due_again some wait (suc turns) s is =
        let before = due_again some wait turns s is in
        let t : State = after_ticks app (wait + turns * period) s in
        let next = one_period some t before.1 in
        let more : wait + suc turns * period ≡ (wait + turns * period) + period = omega arith in
        let split : after_ticks app (wait + suc turns * period) s ≡ after_ticks app period t =
        ap (λ (k : ℕ). after_ticks app k s) more ∙ ticks_added (wait + turns * period) period s in
        let e1 = before.0 in
        let e2 = next.0 in
        let last : (after_ticks app period t).elapsed ≡ s.elapsed + wait + suc turns * period = omega (arith, e1, e2, more) in
        (ap (λ (u : State). u.elapsed) split ∙ last, subst IsDue (sym split) next.1)

-- ---- in a run

pending_same : (s t : State) (handler : ℕ) → pending_in t ≡ pending_in s
    → (source_at t handler).pending ≡ (source_at s handler).pending
pending_same s t handler same =
    sym (get_or-map (λ (x : Source). x.pending) t.sources handler no_source)
    ∙ ap (λ (bs : List Bool). get_or bs handler false) same
    ∙ get_or-map (λ (x : Source). x.pending) s.sources handler no_source

module _ (handler first period : ℕ) where
  -- It is due at the same tick.
  due_same : (s t : State) → (source_at t handler).raised ≡ (source_at s handler).raised → t.elapsed ≡ s.elapsed
      → IsDueNext s handler first period → IsDueNext t handler first period
  due_same s t same still d = record {
    turns = d.turns;
    raised = same ∙ d.raised;
    later = subst (λ (n : ℕ). n < first + d.turns * period) (sym still) d.later;
    soonest = λ earlier l. d.soonest earlier (subst (λ (n : ℕ). n < first + earlier * period) still l);
  }

  due_first : (s : State) → IsRaisedFor s handler first → s.elapsed < first → IsDueNext s handler first period
  due_first s is l = record {
    turns = 0;
    raised = is ∙ ap Some (let e : first ≡ first + 0 * period = omega arith in e);
    later = (let e : first ≡ first + 0 * period = omega arith in omega (arith, e, l));
    soonest = λ earlier le. omega arith;
  }

  -- Ticks have elapsed up to that one, and it is raised again.
  due_again_then : 1 ≤ period → (turns : ℕ) (t : State) → t.elapsed ≡ first + turns * period
      → IsRaisedFor t handler (t.elapsed + period) → IsDueNext t handler first period
  due_again_then some turns t now is =
      let next : t.elapsed + period ≡ first + suc turns * period = omega (arith, now) in
      record {
        turns = suc turns;
        raised = is ∙ ap Some next;
        later = omega (arith, next, some);
        soonest = λ earlier l. by_test (leb earlier turns)
            (λ q.
            let le : earlier * period ≤ turns * period = mul-le-mul_right period (leb-true earlier turns q) in
            absurd (omega (arith, now, l, le)))
            (λ q. let more = leb-false earlier turns q in omega arith);
      }

  -- or not so far
  due_still : (n : ℕ) (s t : State) → t.elapsed ≡ s.elapsed + n → (source_at t handler).raised ≡ (source_at s handler).raised
      → (d : IsDueNext s handler first period) → t.elapsed < first + d.turns * period → IsDueNext t handler first period
  due_still n s t later same d l = record {
    turns = d.turns;
    raised = same ∙ d.raised;
    later = l;
    soonest = λ earlier le. d.soonest earlier (omega (arith, later, le));
  }

module _ (app : Application) (handler first period : ℕ) (p : IsPeriodic app handler period) (some : 1 ≤ period)
    (no_base : (tick : ℕ) → HasNoBase app handler tick) where
  -- It is due next, and isn't pending.
  abbrev KeepsTime : State → Type 0
  KeepsTime s = IsDueNext s handler first period × ((source_at s handler).pending ≡ false)

  abbrev another : ℕ → Bool
  another source = not (eqb source handler)

  apart_by : (source : ℕ) → another source ≡ true → source ≢ handler
  apart_by source other e =
      (let contrary : eqb source handler ≡ true = ap (λ (i : ℕ). eqb i handler) e ∙ eqb-refl handler in absurd (cc))

  time_done : (other : ℕ) (what : SourceOp) (s : State) → may_leave handler other what ≡ true → KeepsTime s
      → KeepsTime (do_to_source other what s)
  time_done other what s may h =
      let is = done_is other what s in (
        due_same handler first period s (do_to_source other what s)
            ((leaving handler app (source_at s handler).raised).done other what s may refl)
            (ap (λ (t : State). t.elapsed) is) h.0,
        ap (λ (t : State). (source_at t handler).pending) is
            ∙ one_changed (λ (x : Source). x.pending ≡ false) (changed what s.elapsed) s.sources other handler
            (λ e k. pending_after what s.elapsed (source_at s handler) k) h.1,
      ) where
        pending_after : (what : SourceOp) (now : ℕ) (x : Source) → x.pending ≡ false → (changed what now x).pending ≡ false
        pending_after Arm now x k = k
        pending_after Disarm now x k = k
        pending_after (Raise n) now x k = k
        pending_after Cancel now x k = k

  time_handled : (other : ℕ) (s : State) → another other ≡ true → KeepsTime s → KeepsTime (come app other s)
  time_handled other s is h =
      let k = keeps-come app other s in (
        due_same handler first period s (come app other s) (come_leaves handler app other s (p.others other (apart_by other is)))
            k.elapsed h.0,
        pending_same s (come app other s) handler k.pending ∙ h.1,
      )

  time_marked : (other : ℕ) (s : State) → another other ≡ true → KeepsTime s
      → KeepsTime (note_coming app other (with_source other (record (source_at s other) { pending = true }) s))
  time_marked other s is h =
      let now : Option ℕ = (source_at s handler).raised in
      let t : State = with_source other (record (source_at s other) { pending = true }) s in (
        due_same handler first period s (note_coming app other t)
            (one_changed (λ (x : Source). x.raised ≡ now) (noted app other s.elapsed) t.sources other handler (λ e k. k)
            (one_changed (λ (x : Source). x.raised ≡ now) (λ (x : Source). record x { pending = true }) s.sources other handler
            (λ e k. k)
            refl)) refl h.0,
        one_changed (λ (x : Source). x.pending ≡ false) (noted app other s.elapsed) t.sources other handler (λ e k. k)
            (one_changed (λ (x : Source). x.pending ≡ false) (λ (x : Source). record x { pending = true }) s.sources other handler
            (λ e k. absurd (apart_by other is (sym e))) h.1),
      )

  time_unmarked : (s : State) → KeepsTime s → KeepsTime (none_pending s)
  time_unmarked s h =
      let at = get_or-map (λ (x : Source). record x { pending = false }) s.sources handler no_source in (
        due_same handler first period s (none_pending s) (ap (λ (x : Source). x.raised) at) refl h.0,
        ap (λ (x : Source). x.pending) at,
      )

  time_interrupted : (n : ℕ) (s t : State) → NoneRaisedBetween n s → t.sources ≡ s.sources → t.elapsed ≡ s.elapsed + n
      → KeepsTime s → KeepsTime (interrupt app t)
  time_interrupted n s t none same later h =
      let d = h.0 in
      let due : ℕ = first + d.turns * period in
      let k = keeps-interrupt app t in
      let raised : IsRaisedFor t handler due =
      ap (λ (xs : List Source). (get_or xs handler no_source).raised) same ∙ d.raised in
      let within : s.elapsed + n ≤ due =
      (subst (λ (o : Option ℕ). IfSome o (λ r. s.elapsed < r → s.elapsed + n ≤ r)) d.raised (none handler)) d.later in (
        by_test (eqb t.elapsed due)
            (λ q.
            let now : t.elapsed ≡ due = eqb-same t.elapsed due q in
            let again : IsRaisedFor (interrupt app t) handler (t.elapsed + period) =
            comes_again app handler period p t (subst (IsRaisedFor t handler) (sym now) raised) in
            due_again_then handler first period some d.turns (interrupt app t) (k.elapsed ∙ now)
            (subst (λ (n : ℕ). IsRaisedFor (interrupt app t) handler (n + period)) (sym k.elapsed) again))
            (λ q.
            let apart : due ≢ t.elapsed =
            (λ e. let contrary : eqb t.elapsed due ≡ true = ap (λ (i : ℕ). eqb i due) (sym e) ∙ eqb-refl due in absurd (cc)) in
            let e : (interrupt app t).elapsed ≡ t.elapsed = k.elapsed in
            due_still handler first period n s (interrupt app t) (e ∙ later)
            (waits app handler period p t due raised apart (no_base t.elapsed) ∙ sym d.raised) d
            (by_test (leb due t.elapsed)
            (λ u. let le = leb-true due t.elapsed u in absurd (apart (omega (arith, le, later, within))))
            (λ u. let l = leb-false due t.elapsed u in omega (arith, l, e)))),
        pending_same t (interrupt app t) handler k.pending
            ∙ ap (λ (xs : List Source). (get_or xs handler no_source).pending) same ∙ h.1,
      )

  time_kept : Stepping app KeepsTime another (may_leave handler)
  time_kept = record {
    spared = λ s t same still h. (
      due_same handler first period s t (ap (λ (xs : List Source). (get_or xs handler no_source).raised) same) still h.0,
      ap (λ (xs : List Source). (get_or xs handler no_source).pending) same ∙ h.1,
    );
    done = time_done;
    handled = time_handled;
    marked = time_marked;
    unmarked = time_unmarked;
    expected = λ source s pending h. by_test (eqb source handler)
        (λ t.
        let same : source ≡ handler = eqb-same source handler t in
        absurd (let contrary : true ≡ false = sym pending ∙ ap (λ (i : ℕ). (source_at s i).pending) same ∙ h.1 in cc))
        (λ t. rw t refl);
    interrupted = time_interrupted;
  }

  -- Nothing else raises it, or makes it come.
  pub keeps_time : (limits : Limits) (plan : List Injection) (m n : ℕ)
      → (source_at (state_after app limits plan m) handler).pending ≡ false
      → IsRaisedFor (state_after app limits plan m) handler first → (state_after app limits plan m).elapsed < first
      → ((k : ℕ) → m ≤ k → k < m + n → IsLeftAlone app handler (injected plan k) (state_after app limits plan k))
      → IsDueNext (state_after app limits plan (m + n)) handler first period
  keeps_time limits plan m n calm is l alone =
      (stepped_on app time_kept limits plan m n
      (λ k least most.
      let left = alone k least most in (
        all_so another_if (injected plan k) left.plan,
        λ task runs. some_so (not_raised handler) (op_at app task _) (left.tasks task runs),
      ))
      (due_first handler first period (state_after app limits plan m) is l, calm)).0 where
        another_if : (source : ℕ) → source ≢ handler → another source ≡ true
        another_if source apart = rw (eqb-apart source handler apart) refl

-- ---- in a run, one that is raised comes later

module _ (app : Application) (formed : IsWellFormed app) (handler : ℕ) where
  abbrev IsLater : ℕ → Source → Type 0
  IsLater now x = IfSome x.raised (λ r. now < r)

  later_by_op : (what : SourceOp) (now : ℕ) (x : Source) → is_formed app handler what ≡ true → IsLater now x
      → IsLater now (changed what now x)
  later_by_op Arm now x allowed h = h
  later_by_op Disarm now x allowed h = h
  later_by_op (Raise n) now x allowed h = (let some = leb-true 1 n (first _ _ (second _ _ allowed)) in omega arith) where
    first : (a b : Bool) → (a && b) ≡ true → a ≡ true
    first true b e = refl
    first false b e = absurd (cc)

    second : (a b : Bool) → (a && b) ≡ true → b ≡ true
    second true b e = e
    second false b e = absurd (cc)
  later_by_op Cancel now x allowed h = tt

  later_yet : (n now : ℕ) (o : Option ℕ) → option_eq eqb o (Some (now + n)) ≡ false → IfSome o (λ r. now < r → now + n ≤ r)
      → IfSome o (λ r. now < r) → IfSome o (λ r. now + n < r)
  later_yet n now None t none h = tt
  later_yet n now (Some r) t none h =
      let apart : r ≢ now + n =
      (λ e. let contrary : eqb r (now + n) ≡ true = ap (λ (k : ℕ). eqb k (now + n)) e ∙ eqb-refl (now + n) in absurd (cc)) in
      let le = none h in
      by_test (leb r (now + n))
      (λ q. let l = leb-true r (now + n) q in absurd (apart (omega (arith, l, le))))
      (λ q. leb-false r (now + n) q)

  raised_later_by : Touching app (λ (s : State). IsLater s.elapsed (source_at s handler)) (is_formed app)
  raised_later_by = touching_one app handler IsLater (is_formed app) later_by_op (λ now x h. h) (λ b now x h. h)
      (λ n now x none h. by_test (is_raised_for (now + n) x)
      (λ t. rw t tt)
      (λ t. rw t (later_yet n now x.raised t none h)))

  pub raised_later : (limits : Limits) (plan : List Injection) (n : ℕ)
      → IfSome (source_at (state_after app limits plan n) handler).raised (λ tick. (state_after app limits plan n).elapsed < tick)
  unfolding nobody_ready
  raised_later limits plan n =
      touched_after app raised_later_by (formed_allows app formed)
      (subst (IsLater 0) (sym (starts_as app.handlers handler)) (start (slice_get app.handlers handler))) limits plan n where
        start : (o : Option Handler) → IfSome (at_start o).raised (λ r. 0 < r)
        start None = tt
        start (Some x) = tt
