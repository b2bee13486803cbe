-- Who sleeps, or waits until a time, wakes after now.
use Rattle.std.proofs.Common.{◌≡◌, ◌≢◌, ◌<◌, ◌≤◌, ◌+◌, ℕ, zero, suc, true, eqb, inl, inr, ◌⊎◌, List, [], ◌∷◌, get_or, set, Option}
use Rattle.std.proofs.Common.{Some, None, refl, ap, sym, subst, ◌∙◌, arith}
use Rattle.std.specs.List.{AllByRecursion, filter}
use Rattle.std.specs.Prelude.{if◌then◌else◌}
use Rattle.std.specs.Option.{IfSome, is_some}
use Rattle.model.specs.Application.{Application, Limits}
use Rattle.model.specs.State.{State, Task, Status, Ready, Awake, Waiting, Asleep, WaitingForBits, WaitingForNotification, Suspended}
use Rattle.model.specs.State.{Ended, ticket_of}
use Rattle.model.specs.State.{wake_time_of, task_at, status_at, with_task, take_ticket, for_each, no_task}
use Rattle.model.specs.Order.{Entry, Key, key, entry, keyed, tasks_of}
use Rattle.model.specs.Switching.{make_ready}
use Rattle.model.specs.Time.{delayed_key, delayed_list, is_due, due, wake_due}
use Rattle.model.specs.declared.plan.Injection.{Injection}
use Rattle.model.specs.Step.{nobody_ready}
use Rattle.model.specs.Run.{state_after}
use Rattle.model.proofs.Sorting.{by_test}
use Rattle.model.proofs.Lists.{eqb-refl, eqb-same}
use Rattle.soundness.proofs.Keeping.{keeps-all_ready}
use Rattle.laws.proofs.Sleeping.{NoneBetween}
use Rattle.laws.proofs.Choice.{at_index, All-from_in_order}
use Rattle.laws.proofs.Changes.{kept_after}
use Rattle.laws.proofs.Staying.{Remains, Stays, Stops, ended_at_reset, one_task, status_same}

-- ---- a sleeper's wake time is after now

abbrev Later : ℕ → Status → Type 0
Later now u = IfSome (wake_time_of u) (λ w. now < w)

abbrev WakeLater : State → Type 0
WakeLater s = (i : ℕ) → Later s.time (status_at s i)

later-framed : (s t : State) → t.tasks ≡ s.tasks → t.next_ticket ≡ s.next_ticket
    → t.time ≡ s.time → Stops s.stopped t.stopped → WakeLater s → WakeLater t
later-framed s t e n m stops h = λ i.
    let P : List Task → ℕ → Type 0 = λ ts time. Later time (get_or ts i no_task).status in
    subst (λ ts. P ts t.time) (sym e) (subst (λ time. P s.tasks time) (sym m) (h i))

later-set : (s : State) (i : ℕ) (t : Task) (now : ℕ) → Later now t.status
    → ((j : ℕ) → Later now (status_at s j)) → (j : ℕ) → Later now (get_or (set s.tasks i t) j no_task).status
later-set s i t now l h j = elim (one_task s.tasks i t j) [
  | inl e ↦ subst (Later now) (sym (status_same (get_or (set s.tasks i t) j no_task) t e.0)) l
  | inr e ↦ subst (Later now) (sym (status_same (get_or (set s.tasks i t) j no_task) (get_or s.tasks j no_task) e)) (h j)
]

later-moved : (s : State) (i : ℕ) (t : Task) → Stays (status_at s i) t.status
    → Remains true true (task_at s i) t → WakeLater s → WakeLater (with_task i t s)
later-moved s i t u remains h =
    let W : Option ℕ → Type 0 = λ o. IfSome o (λ w. s.time < w) in
    later-set s i t s.time (elim u [ inl e ↦ subst W (sym e.1) (h i) | inr e ↦ subst W (sym e.1) tt ]) h

later-taken : (s : State) (i : ℕ) (status : ℕ → Status) → ticket_of (status s.next_ticket) ≡ Some s.next_ticket
    → IfSome (wake_time_of (status s.next_ticket)) (λ w. s.time < w) → WakeLater s → WakeLater (take_ticket i status s)
later-taken s i status is l h = later-set s i (record (task_at s i) { status = status s.next_ticket }) s.time l h

-- Who still sleeps when some have been made Ready is none of them, and sleeps as before.
abbrev Spared : State → List ℕ → ℕ → State → Type 0
Spared s is i t = (wake_time_of (status_at t i) ≡ None) ⊎ ((status_at t i ≡ status_at s i) × AllByRecursion (λ j. i ≢ j) is)

spared : (s : State) (is : List ℕ) (i : ℕ) → Spared s is i (for_each make_ready is s)
spared s [] i = inr (refl, tt)
spared s (j ∷ is) i = elim (spared (make_ready j s) is i) [
  | inl gone ↦ inl gone
  | inr kept ↦ elim (one_task s.tasks j (record (task_at s j) { status = Ready s.next_ticket }) i) [
    | inl e ↦
        inl (ap wake_time_of (kept.0
        ∙ status_same (get_or (set s.tasks j (record (task_at s j) { status = Ready s.next_ticket })) i no_task)
        (record (task_at s j) { status = Ready s.next_ticket }) e.0))
    | inr e ↦ by_test (eqb i j)
        (λ t.
        let same : i ≡ j = eqb-same i j t in
        elim (ready_or_absent s i) [
          | inl r ↦ inl (ap wake_time_of kept.0 ∙ rw (← same) r)
          | inr a ↦
              inl (ap wake_time_of (kept.0
              ∙ status_same (get_or (set s.tasks j (record (task_at s j) { status = Ready s.next_ticket })) i no_task)
              (get_or s.tasks i no_task) e)
              ∙ a)
        ])
        (λ t. inr (
          kept.0
              ∙ status_same (get_or (set s.tasks j (record (task_at s j) { status = Ready s.next_ticket })) i no_task)
              (get_or s.tasks i no_task) e,
          ((λ q. let f : eqb i j ≡ true = rw q (eqb-refl j) in absurd (cc)), kept.1),
        ))
  ]
] where
  -- one who is made Ready is Ready, if there is such a task
  ready_or_absent : (s : State) (i : ℕ)
      → (wake_time_of (status_at (make_ready i s) i) ≡ None) ⊎ (wake_time_of (status_at s i) ≡ None)
  ready_or_absent s i = by_index s.tasks i (record (task_at s i) { status = Ready s.next_ticket }) refl where
    by_index : (ts : List Task) (i : ℕ) (t : Task) → wake_time_of t.status ≡ None
        → (wake_time_of (get_or (set ts i t) i no_task).status ≡ None) ⊎ (wake_time_of (get_or ts i no_task).status ≡ None)
    by_index [] i t e = inr refl
    by_index (u ∷ us) zero t e = inl e
    by_index (u ∷ us) (suc i) t e = by_index us i t e

until_key : (deadline : Option ℕ) (ticket time : ℕ) → deadline ≡ Some time
    → (if is_some deadline then Some (key 0 ticket) else None) ≡ Some (key 0 ticket)
until_key None ticket time e = absurd (cc)
until_key (Some deadline) ticket time e = refl

delayed_some : (t : Task) (u : Status) (time : ℕ) → t.status ≡ u → wake_time_of u ≡ Some time → (k : Key) × (delayed_key t ≡ Some k)
delayed_some t (Ready n) time e v = absurd (cc)
delayed_some t (Awake w) time e v =
    (key 0 w.ticket, ap (λ (u : Status). delayed_key (record t { status = u })) e ∙ until_key w.deadline w.ticket time v)
delayed_some t (Waiting w) time e v =
    (key 0 w.ticket, ap (λ (u : Status). delayed_key (record t { status = u })) e ∙ until_key w.deadline w.ticket time v)
delayed_some t (Asleep w n) time e v = (key 0 n, ap (λ (u : Status). delayed_key (record t { status = u })) e)
delayed_some t (WaitingForBits g n d) time e v =
    (key 0 n, ap (λ (u : Status). delayed_key (record t { status = u })) e ∙ until_key d n time v)
delayed_some t (WaitingForNotification n d) time e v =
    (key 0 n, ap (λ (u : Status). delayed_key (record t { status = u })) e ∙ until_key d n time v)
delayed_some t Suspended time e v = absurd (cc)
delayed_some t Ended time e v = absurd (cc)

-- One who wakes now is among those who are due.
is_due_one : (s : State) (i : ℕ) → wake_time_of (status_at s i) ≡ Some s.time → AllByRecursion (λ j. i ≢ j) (tasks_of (due s)) → ⊥
is_due_one s i w h = let d = delayed_some (task_at s i) (status_at s i) s.time refl w in found d.0 d.1 where
  not_due : (es : List Entry) → AllByRecursion (λ j. i ≢ j) (tasks_of (filter (is_due s) es))
      → AllByRecursion (λ (e : Entry). is_due s e ≡ true → i ≢ e.task) es
  not_due [] a = tt
  not_due (e ∷ es) a = by_test (is_due s e)
      (λ t. let b = rw t at a in ((λ _. b.0), not_due es b.1))
      (λ t. let b = rw t at a in ((λ u. absurd (cc)), not_due es b))

  found : (k : Key) → delayed_key (task_at s i) ≡ Some k → ⊥
  found k e =
      let z : 0 + i ≡ i = omega arith in
      let all =
      All-from_in_order (λ (e : Entry). is_due s e ≡ true → i ≢ e.task)
      (keyed delayed_key 0 s.tasks) (not_due (delayed_list s) h) in
      let one : is_due s (entry i k) ≡ true → i ≢ i =
      rw z at (at_index delayed_key (λ (e : Entry). is_due s e ≡ true → i ≢ e.task) 0 i k s.tasks refl e all) in
      one (rw w (eqb-refl s.time)) refl

later_up : (o : Option ℕ) (now n : ℕ) → IfSome o (λ w. now < w)
    → IfSome o (λ w. now < w → now + n ≤ w) → (o ≡ Some (now + n) → ⊥) → IfSome o (λ w. now + n < w)
later_up None now n h none g = tt
later_up (Some w) now n h none g = let apart : w ≢ now + n = (λ e. g (ap Some e)) in let l = none h in omega arith

later-passed : (n : ℕ) (s : State) → NoneBetween n s → WakeLater s → WakeLater (wake_due (record s { time = s.time + n }))
unfolding wake_due
later-passed n s none h i =
    let t : State = record s { time = s.time + n } in
    let is : List ℕ = tasks_of (due t) in
    let woken : State = for_each make_ready is t in
    let now : woken.time ≡ s.time + n = (keeps-all_ready is t).time in
    let P : Option ℕ → Type 0 = λ o. IfSome o (λ w. woken.time < w) in
    elim (spared t is i) [
      | inl gone ↦ subst P (sym gone) tt
      | inr kept ↦
          let later = later_up (wake_time_of (status_at s i)) s.time n (h i) (none i) (λ e. is_due_one t i e kept.1) in
          let Q : Status → Type 0 = λ u. P (wake_time_of u) in
          let R : ℕ → Type 0 = λ time. IfSome (wake_time_of (status_at s i)) (λ w. time < w) in
          subst Q (sym kept.0) (subst R (sym now) later)
    ]

pub wake_later : (app : Application) (limits : Limits) (plan : List Injection) (n task : ℕ)
    → Later (state_after app limits plan n).time (status_at (state_after app limits plan n) task)
unfolding nobody_ready
wake_later app limits plan n task =
    kept_after WakeLater later-framed later-moved later-taken later-passed app
    (λ i. subst (Later app.start) (sym (ended_at_reset app.start app.tasks i)) tt) limits plan n task
