-- The table stays in order: tickets are below the next one, and so on.
use Rattle.std.proofs.Common.{◌<◌, ◌+◌, ℕ, zero, suc, List, [], ◌∷◌, Option, Some, None, arith, get_or, set, ◌≢◌, length}
use Rattle.std.specs.List.{AllByRecursion, cons_option}
use Rattle.std.specs.Option.{IfSome, is_some}
use Rattle.std.specs.Prelude.{if◌then◌else◌}
use Rattle.std.proofs.Math.ListN.{length-set}
use Rattle.model.specs.State.{State, Task, Status, Ready, Awake, Waiting, Asleep, WaitingForBits, WaitingForNotification, Suspended}
use Rattle.model.specs.State.{Ended, ticket_of}
use Rattle.model.specs.State.{task_at, with_task, take_ticket, no_task, Object}
use Rattle.model.specs.Order.{Key, key}
use Rattle.model.specs.Switching.{ready_key, make_ready}
use Rattle.model.specs.Time.{delayed_key}
use Rattle.model.specs.Invariant.{HasTicketBelow, AllTicketsBelow, IsTable}
use Rattle.model.specs.declared.op.Access.{Access}
use Rattle.model.specs.declared.op.Access.TheVariants.{Send, SendFront, Overwrite, Receive, Peek, Take, Give, Lock}
use Rattle.model.specs.Objects.{object_after}
use Rattle.model.proofs.Lists.{Below}

abbrev KeyBelow : ℕ → Option Key → Type 0
KeyBelow n key = AllByRecursion (λ (k : Key). k.ticket < n) (cons_option key [])

ready_below : (n : ℕ) (t : Task) (u : Status) → HasTicketBelow n u → KeyBelow n (ready_key (record t { status = u }))
ready_below n t (Ready m) b = (b, tt)
ready_below n t (Awake w) b = tt
ready_below n t (Waiting w) b = tt
ready_below n t (Asleep w m) b = tt
ready_below n t (WaitingForBits g m d) b = tt
ready_below n t (WaitingForNotification m d) b = tt
ready_below n t Suspended b = tt
ready_below n t Ended b = tt

until_below : (n : ℕ) (deadline : Option ℕ) (ticket : ℕ) → ticket < n
    → KeyBelow n (if is_some deadline then Some (key 0 ticket) else None)
until_below n None ticket b = tt
until_below n (Some deadline) ticket b = (b, tt)

delayed_below : (n : ℕ) (t : Task) (u : Status) → HasTicketBelow n u → KeyBelow n (delayed_key (record t { status = u }))
delayed_below n t (Ready m) b = tt
delayed_below n t (Awake w) b = until_below n w.deadline w.ticket b
delayed_below n t (Waiting w) b = until_below n w.deadline w.ticket b
delayed_below n t (Asleep w m) b = (b, tt)
delayed_below n t (WaitingForBits g m d) b = until_below n d m b
delayed_below n t (WaitingForNotification m d) b = until_below n d m b
delayed_below n t Suspended b = tt
delayed_below n t Ended b = tt

pub below_ready : (n : ℕ) (ts : List Task) → AllTicketsBelow n ts → Below ready_key n ts
below_ready n [] h = tt
below_ready n (t ∷ ts) h = (ready_below n t t.status h.0, below_ready n ts h.1)

pub below_delayed : (n : ℕ) (ts : List Task) → AllTicketsBelow n ts → Below delayed_key n ts
below_delayed n [] h = tt
below_delayed n (t ∷ ts) h = (delayed_below n t t.status h.0, below_delayed n ts h.1)

later : (n : ℕ) (o : Option ℕ) → IfSome o (λ ticket. ticket < n) → IfSome o (λ ticket. ticket < n + 1)
later n None h = tt
later n (Some ticket) h = omega arith

tickets_more : (n : ℕ) (ts : List Task) → AllTicketsBelow n ts → AllTicketsBelow (n + 1) ts
tickets_more n [] h = tt
tickets_more n (t ∷ ts) h = (later n (ticket_of t.status) h.0, tickets_more n ts h.1)

tickets-set : (n i : ℕ) (t : Task) (ts : List Task) → HasTicketBelow n t.status
    → AllTicketsBelow n ts → AllTicketsBelow n (set ts i t)
tickets-set n i t [] s h = tt
tickets-set n zero t (u ∷ us) s h = (s, h.1)
tickets-set n (suc i) t (u ∷ us) s h = (h.0, tickets-set n i t us s h.1)

pub ticket_at : (n i : ℕ) (ts : List Task) → AllTicketsBelow n ts → HasTicketBelow n (get_or ts i no_task).status
ticket_at n i [] h = tt
ticket_at n zero (t ∷ ts) h = h.0
ticket_at n (suc i) (t ∷ ts) h = ticket_at n i ts h.1

-- a task changes, but takes no ticket
pub table-set : (s : State) (i : ℕ) (t : Task) → IsTable s → HasTicketBelow s.next_ticket t.status → IsTable (with_task i t s)
table-set s i t h b =
    record {
      tickets = tickets-set s.next_ticket i t s.tasks b h.tickets;
      few = rw length-set h.few;
      current = rw length-set h.current;
      holders = λ o. rw length-set (h.holders o);
    }

-- a task takes the next ticket
pub table-taken : (s : State) (i : ℕ) (f : ℕ → Status) → IsTable s
    → HasTicketBelow (s.next_ticket + 1) (f s.next_ticket) → IsTable (take_ticket i f s)
table-taken s i f h b = record {
  tickets =
      tickets-set (s.next_ticket + 1) i (record (task_at s i) { status = f s.next_ticket })
      s.tasks b (tickets_more s.next_ticket s.tasks h.tickets);
  few = rw length-set h.few;
  current = rw length-set h.current;
  holders = λ o. rw length-set (h.holders o);
}

pub table-make_ready : (s : State) (i : ℕ) → IsTable s → IsTable (make_ready i s)
table-make_ready s i h = table-taken s i Ready h (omega arith)

-- what holds of the changed place, and of every other one, holds of each
pub each-set_but : {A : Type 0} (none : A) (P : ℕ → A → Type 0) (xs : List A) (i : ℕ) (x : A) → i < length xs
    → P i x → ((j : ℕ) → j ≢ i → P j (get_or xs j none)) → (j : ℕ) → P j (get_or (set xs i x) j none)
each-set_but none P [] i x l p h j = absurd (omega arith)
each-set_but none P (y ∷ ys) zero x l p h zero = p
each-set_but none P (y ∷ ys) zero x l p h (suc j) = h (suc j) (λ e. omega arith)
each-set_but none P (y ∷ ys) (suc i) x l p h zero = h zero (λ e. omega arith)
each-set_but none P (y ∷ ys) (suc i) x l p h (suc j) =
    each-set_but none (λ k. P (suc k)) ys i x (omega arith) p (λ k ne. h (suc k) (λ e. ne (omega arith))) j

-- what holds of each place still holds if one was changed
pub each-set : {A : Type 0} (none : A) (P : ℕ → A → Type 0) (xs : List A) (i : ℕ) (x : A)
    → P i x → ((j : ℕ) → P j (get_or xs j none)) → (j : ℕ) → P j (get_or (set xs i x) j none)
each-set none P [] i x p h j = h j
each-set none P (y ∷ ys) zero x p h zero = p
each-set none P (y ∷ ys) zero x p h (suc j) = h (suc j)
each-set none P (y ∷ ys) (suc i) x p h zero = h zero
each-set none P (y ∷ ys) (suc i) x p h (suc j) = each-set none (λ k. P (suc k)) ys i x p (λ k. h (suc k)) j

-- who holds the object after a call is the caller, or who held it
pub held_after : (caller : Option ℕ) (a : Access ℕ) (o : Object) (tasks : ℕ) → IfSome caller (λ i. i < tasks)
    → IfSome o.holder (λ i. i < tasks) → IfSome (object_after caller a o).holder (λ i. i < tasks)
held_after caller (Send v) o tasks l h = h
held_after caller (SendFront v) o tasks l h = h
held_after caller (Overwrite v) o tasks l h = h
held_after caller Receive o tasks l h = h
held_after caller Peek o tasks l h = h
held_after caller Take o tasks l h = h
held_after caller Give o tasks l h = h
held_after caller Lock o tasks l h = l
