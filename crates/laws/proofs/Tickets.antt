-- Two tasks have two tickets.
use Rattle.std.proofs.Common.{◌≡◌, ◌<◌, ◌≤◌, ◌+◌, ℕ, true, inl, inr, ◌⊎◌, List, [], ◌∷◌, map, get_or, set, Option, Some, None, refl}
use Rattle.std.proofs.Common.{ap, sym, subst, ◌∙◌, arith}
use Rattle.std.specs.Option.{IfSome}
use Rattle.model.specs.declared.plan.Injection.{Injection}
use Rattle.model.specs.Application.{Application, Limits}
use Rattle.model.specs.State.{State, Task, Status, Ready, ticket_of, wake_time_of, task_at, status_at, with_task, take_ticket}
use Rattle.model.specs.State.{for_each, no_task}
use Rattle.model.specs.Order.{tasks_of}
use Rattle.model.specs.Switching.{make_ready}
use Rattle.model.specs.Time.{due, wake_due}
use Rattle.model.specs.Step.{nobody_ready, task_at_reset}
use Rattle.model.specs.Run.{state_after}
use Rattle.laws.proofs.Sleeping.{NoneBetween}
use Rattle.laws.proofs.Changes.{kept_after}
use Rattle.laws.proofs.Staying.{Remains, Stays, Stops, one_task, status_same, ended_at_reset}

abbrev Below : ℕ → Status → Type 0
Below next u = IfSome (ticket_of u) (λ ticket. ticket < next)

record TicketsApart (s : State) : Type 0 where
  pub below : (i : ℕ) → Below s.next_ticket (status_at s i)
  pub apart : (i j ticket : ℕ) → ticket_of (status_at s i) ≡ Some ticket → ticket_of (status_at s j) ≡ Some ticket → i ≡ j

apart-framed : (s t : State) → t.tasks ≡ s.tasks → t.next_ticket ≡ s.next_ticket
    → t.time ≡ s.time → Stops s.stopped t.stopped → TicketsApart s → TicketsApart t
apart-framed s t e n m stops h =
    let at : (i : ℕ) → status_at t i ≡ status_at s i = λ i. ap (λ ts. (get_or ts i no_task).status) e in
    record {
      below = λ i.
          let P : Status → Type 0 = λ u. Below t.next_ticket u in
          let Q : ℕ → Type 0 = λ next. Below next (status_at s i) in
          subst P (sym (at i)) (subst Q (sym n) (h.below i));
      apart = λ i j ticket a b. h.apart i j ticket (ap ticket_of (sym (at i)) ∙ a) (ap ticket_of (sym (at j)) ∙ b);
    }

below_more : (n : ℕ) (u : Status) → Below n u → Below (n + 1) u
below_more n u h = by_option (ticket_of u) h where
  by_option : (o : Option ℕ) → IfSome o (λ ticket. ticket < n) → IfSome o (λ ticket. ticket < n + 1)
  by_option None h = tt
  by_option (Some ticket) h = omega arith

-- whose ticket is whose, where a task was set
module _ (s : State) (k : ℕ) (t : Task) (h : TicketsApart s) where
  new_at : ℕ → Status
  new_at i = (get_or (set s.tasks k t) i no_task).status

  -- the task's ticket is one that it had, or above all
  module _ (fresh : (ticket : ℕ) → ticket_of t.status ≡ Some ticket
      → (ticket_of (status_at s k) ≡ Some ticket) ⊎ (s.next_ticket ≤ ticket)) where
    not_old : (j ticket : ℕ) → s.next_ticket ≤ ticket → ticket_of (status_at s j) ≡ Some ticket → ⊥
    not_old j ticket l e =
        let P : Option ℕ → Type 0 = λ o. IfSome o (λ n. n < s.next_ticket) in
        let b = subst P e (h.below j) in
        omega arith

    one_new : (i j ticket : ℕ) → new_at i ≡ t.status → i ≡ k → new_at j ≡ status_at s j
        → ticket_of (new_at i) ≡ Some ticket → ticket_of (new_at j) ≡ Some ticket → i ≡ j
    one_new i j ticket e same f a b =
        let old : ticket_of (status_at s j) ≡ Some ticket = ap ticket_of (sym f) ∙ b in
        elim (fresh ticket (ap ticket_of (sym e) ∙ a)) [
          | inl had ↦ same ∙ h.apart k j ticket had old
          | inr above ↦ absurd (not_old j ticket above old)
        ]

    apart-set : (i j ticket : ℕ) → ticket_of (new_at i) ≡ Some ticket → ticket_of (new_at j) ≡ Some ticket → i ≡ j
    unfolding new_at
    apart-set i j ticket a b = elim (one_task s.tasks k t i) [
      | inl e ↦ elim (one_task s.tasks k t j) [
        | inl f ↦ e.1 ∙ sym f.1
        | inr f ↦ one_new i j ticket (status_same _ t e.0) e.1 (status_same _ _ f) a b
      ]
      | inr e ↦ elim (one_task s.tasks k t j) [
        | inl f ↦ sym (one_new j i ticket (status_same _ t f.0) f.1 (status_same _ _ e) b a)
        | inr f ↦ h.apart i j ticket (ap ticket_of (sym (status_same _ _ e)) ∙ a) (ap ticket_of (sym (status_same _ _ f)) ∙ b)
      ]
    ]

  below-set : (next : ℕ) → Below next t.status → ((j : ℕ) → Below next (status_at s j)) → (i : ℕ) → Below next (new_at i)
  unfolding new_at
  below-set next l g i = elim (one_task s.tasks k t i) [
    | inl e ↦ subst (Below next) (sym (status_same _ t e.0)) l
    | inr e ↦ subst (Below next) (sym (status_same _ _ e)) (g i)
  ]

apart-moved : (s : State) (i : ℕ) (t : Task) → Stays (status_at s i) t.status
    → Remains true true (task_at s i) t → TicketsApart s → TicketsApart (with_task i t s)
unfolding new_at
apart-moved s i t u remains h =
    let B : Option ℕ → Type 0 = λ o. IfSome o (λ ticket. ticket < s.next_ticket) in
    record {
      below =
          below-set s i t h s.next_ticket (elim u [ inl e ↦ subst B (sym e.0) (h.below i) | inr e ↦ subst B (sym e.0) tt ]) h.below;
      apart = apart-set s i t h (λ ticket a. elim u [
        | inl e ↦ inl (sym e.0 ∙ a)
        | inr e ↦ (let none : None ≡ Some ticket = sym e.0 ∙ a in absurd (cc))
      ]);
    }

apart-taken : (s : State) (i : ℕ) (f : ℕ → Status) → ticket_of (f s.next_ticket) ≡ Some s.next_ticket
    → IfSome (wake_time_of (f s.next_ticket)) (λ w. s.time < w) → TicketsApart s → TicketsApart (take_ticket i f s)
unfolding new_at
apart-taken s i f is later h =
    let t : Task = record (task_at s i) { status = f s.next_ticket } in
    let P : Option ℕ → Type 0 = λ o. IfSome o (λ ticket. ticket < s.next_ticket + 1) in
    record {
      below =
          below-set s i t h (s.next_ticket + 1) (subst P (sym is) (omega arith))
          (λ j. below_more s.next_ticket (status_at s j) (h.below j));
      apart =
          apart-set s i t h (λ ticket a.
          inr (let e : Some s.next_ticket ≡ Some ticket = sym is ∙ a in let q : s.next_ticket ≡ ticket = cc in omega arith));
    }

apart-ready : (s : State) (i : ℕ) → TicketsApart s → TicketsApart (make_ready i s)
apart-ready s i h = apart-taken s i Ready refl tt h

apart-all_ready : (is : List ℕ) (s : State) → TicketsApart s → TicketsApart (for_each make_ready is s)
apart-all_ready [] s h = h
apart-all_ready (i ∷ is) s h = apart-all_ready is (make_ready i s) (apart-ready s i h)

apart-passed : (n : ℕ) (s : State) → NoneBetween n s → TicketsApart s → TicketsApart (wake_due (record s { time = s.time + n }))
unfolding wake_due
apart-passed n s none h =
    let t : State = record s { time = s.time + n } in
    apart-all_ready (tasks_of (due t)) t (record { below = h.below; apart = h.apart })

apart-nobody : (app : Application) → TicketsApart (nobody_ready app)
unfolding nobody_ready
apart-nobody app =
    let none : (i : ℕ) → ticket_of (get_or (map (task_at_reset app.start) app.tasks) i no_task).status ≡ None = λ i.
    ap ticket_of (ended_at_reset app.start app.tasks i) in
    let P : Option ℕ → Type 0 = λ o. IfSome o (λ ticket. ticket < 0) in
    record {
      below = λ i. subst P (sym (none i)) tt;
      apart = λ i j ticket a b. let f = none i in absurd (let g : None ≡ Some ticket = sym f ∙ a in cc);
    }

pub tickets_apart : (app : Application) (limits : Limits) (plan : List Injection) (n a b ticket : ℕ)
    → ticket_of (status_at (state_after app limits plan n) a) ≡ Some ticket
    → ticket_of (status_at (state_after app limits plan n) b) ≡ Some ticket → a ≡ b
tickets_apart app limits plan n a b ticket =
    (kept_after TicketsApart apart-framed apart-moved apart-taken apart-passed app (apart-nobody app) limits plan n).apart a b
    ticket
