-- Which tasks wait for bits of a group or for a notification, by cases on the status.
use Rattle.std.proofs.Common.{◌≡◌, ◌≢◌, ◌==◌, ℕ, ◌<◌, Bool, true, false, Option, Some, None, List, [], ◌∷◌, refl, ap, sym, ◌∙◌}
use Rattle.std.proofs.Common.{subst, arith}
use Rattle.std.specs.Prelude.{if◌then◌else◌, IfSome}
use Rattle.std.specs.List.{AllByRecursion, cons_option}
use Rattle.std.specs.Option.{is_some, option_map}
use Rattle.model.specs.State.{State, Status, Ready, Awake, Waiting, Asleep, WaitingForBits, WaitingForNotification, Suspended}
use Rattle.model.specs.State.{Ended}
use Rattle.model.specs.State.{Task, ticket_if_ready, ticket_if_for_bits, waits_for_notification}
use Rattle.model.specs.Order.{Key, key, list_by}
use Rattle.model.specs.Groups.{waiters_for_bits}
use Rattle.model.specs.Invariant.{AllTicketsBelow, HasTicketBelow}
use Rattle.model.proofs.Lists.{Below, eqb-refl, eqb-apart}
use Rattle.model.proofs.Sorting.{by_test}
use Rattle.groups.specs.EventGroups.{for_notifications}
use Rattle.groups.specs.StandsFor.{EventWait, ForBits, ForNotification, IsApart, event_wait, list_key, ticket_if_for_notification}
use Rattle.groups.specs.StandsFor.{ticket_in, waiters_in}

-- the ticket that a wait gives in a list
abbrev ticket_there : ℕ → Option EventWait → Option ℕ
ticket_there list None = None
ticket_there list (Some (ForBits g n)) = if list == for_notifications then None else if g == list then Some n else None
ticket_there list (Some (ForNotification n)) = if list == for_notifications then Some n else None

none_there : (b : Bool) → ◌≡◌ {A = Option ℕ} (if b then None else None) None
none_there true = refl
none_there false = refl

ticket_is : (list : ℕ) (u : Status) → ticket_in list u ≡ ticket_there list (event_wait u)
ticket_is list (Ready n) = none_there (list == for_notifications)
ticket_is list (Awake w) = none_there (list == for_notifications)
ticket_is list (Waiting w) = none_there (list == for_notifications)
ticket_is list (WaitingForBits g n d) = refl
ticket_is list (WaitingForNotification n d) = refl
ticket_is list (Asleep w n) = none_there (list == for_notifications)
ticket_is list Suspended = none_there (list == for_notifications)
ticket_is list Ended = none_there (list == for_notifications)

pub key_same : (list : ℕ) (t u : Task) → event_wait t.status ≡ event_wait u.status → list_key list t ≡ list_key list u
key_same list t u same =
    ap (option_map (key 0)) (ticket_is list t.status ∙ ap (ticket_there list) same ∙ sym (ticket_is list u.status))

pub key_none : (list : ℕ) (t : Task) → event_wait t.status ≡ None → list_key list t ≡ None
key_none list t none = ap (option_map (key 0)) (ticket_is list t.status ∙ ap (ticket_there list) none)

-- A group is none in whose place that list is.
pub below_apart : (group : ℕ) → group < 16 → group ≢ for_notifications
below_apart group below same = absurd (omega (arith, below, same))

-- what a status is in its list, and that it is in no other
pub record IsIn (list ticket : ℕ) (u : Status) : Type 0 where
  pub own : option_map (key 0) (ticket_in list u) ≡ Some (key 0 ticket)
  pub elsewhere : (other : ℕ) → other ≢ list → option_map (key 0) (ticket_in other u) ≡ None
  pub apart : IfSome (event_wait u) IsApart
  pub below : (n : ℕ) → ticket < n → HasTicketBelow n u

pub bits_in_group : (group ticket : ℕ) (deadline : Option ℕ) → group ≢ for_notifications
    → IsIn group ticket (WaitingForBits group ticket deadline)
bits_in_group group ticket deadline away = record {
  own = let t = eqb-refl group in let e = eqb-apart group for_notifications away in rw e (rw t refl);
  elsewhere = λ other ne. by_test (other == for_notifications)
      (λ t. rw t refl)
      (λ t. let e = eqb-apart group other (λ same. ne (sym same)) in rw t (rw e refl));
  apart = away;
  below = λ n l. l;
}

pub notification_in_list : (ticket : ℕ) (deadline : Option ℕ)
    → IsIn for_notifications ticket (WaitingForNotification ticket deadline)
notification_in_list ticket deadline = record {
  own = refl;
  elsewhere = λ other ne. let e = eqb-apart other for_notifications ne in rw e refl;
  apart = tt;
  below = λ n l. l;
}

-- the list of a task that waits so, and its key there
pub record WaitsAt (u : Status) : Type 0 where
  pub list : ℕ
  pub key : Key
  pub is : option_map (λ ticket. record { priority = 0; ticket = ticket }) (ticket_in list u) ≡ Some key
  pub notified : (list == for_notifications) ≡ waits_for_notification u

pub waits_at : (u : Status) → is_some (event_wait u) ≡ true → IfSome (event_wait u) IsApart → WaitsAt u
waits_at (Ready n) some apart = absurd cc
waits_at (Awake w) some apart = absurd cc
waits_at (Waiting w) some apart = absurd cc
waits_at (WaitingForBits g n d) some apart = record {
  list = g;
  key = key 0 n;
  is = (bits_in_group g n d apart).own;
  notified = eqb-apart g for_notifications apart;
}
waits_at (WaitingForNotification n d) some apart = record {
  list = for_notifications;
  key = key 0 n;
  is = (notification_in_list n d).own;
  notified = refl;
}
waits_at (Asleep w n) some apart = absurd cc
waits_at Suspended some apart = absurd cc
waits_at Ended some apart = absurd cc

-- a task that waits for nothing here doesn't wait for a notification
pub unnotified : (u : Status) → event_wait u ≡ None → waits_for_notification u ≡ false
unnotified (Ready n) none = refl
unnotified (Awake w) none = refl
unnotified (Waiting w) none = refl
unnotified (WaitingForBits g n d) none = refl
unnotified (WaitingForNotification n d) none = absurd cc
unnotified (Asleep w n) none = refl
unnotified Suspended none = refl
unnotified Ended none = refl

-- In the list of a group are the tasks that wait for its bits.
pub waiters_are : (s : State) (group : ℕ) → group ≢ for_notifications → waiters_in s group ≡ waiters_for_bits s group
waiters_are s group away =
    let by : Bool → Task → Option Key = λ b t.
    option_map (key 0) (if b then ticket_if_for_notification t.status else ticket_if_for_bits group t.status) in
    ap (λ (b : Bool). list_by (by b) s.tasks) (eqb-apart group for_notifications away)

-- nor does a Ready one
pub ready_free_of_bits : (u : Status) → is_some (ticket_if_ready u) ≡ true → event_wait u ≡ None
ready_free_of_bits (Ready n) on = refl
ready_free_of_bits (Awake w) on = absurd cc
ready_free_of_bits (Waiting w) on = absurd cc
ready_free_of_bits (WaitingForBits g n d) on = absurd cc
ready_free_of_bits (WaitingForNotification n d) on = absurd cc
ready_free_of_bits (Asleep w n) on = absurd cc
ready_free_of_bits Suspended on = absurd cc
ready_free_of_bits Ended on = absurd cc

-- tickets

some_below : (n : ℕ) (o : Option ℕ) → IfSome o (λ ticket. ticket < n)
    → AllByRecursion (λ (k : Key). k.ticket < n) (cons_option (option_map (key 0) o) [])
some_below n None h = tt
some_below n (Some ticket) h = (h, tt)

ticket_below : (n list : ℕ) (u : Status) → HasTicketBelow n u → IfSome (ticket_in list u) (λ ticket. ticket < n)
ticket_below n list u h = subst (λ o. IfSome o (λ ticket. ticket < n)) (sym (ticket_is list u)) (there u h) where
  there : (u : Status) → HasTicketBelow n u → IfSome (ticket_there list (event_wait u)) (λ ticket. ticket < n)
  there (Ready m) h = tt
  there (Awake w) h = tt
  there (Waiting w) h = tt
  there (WaitingForBits g m d) h = by_test (list == for_notifications)
      (λ t. rw t tt)
      (λ t. rw t (by_test (g == list) (λ e. rw e h) (λ e. rw e tt)))
  there (WaitingForNotification m d) h = by_test (list == for_notifications) (λ t. rw t h) (λ t. rw t tt)
  there (Asleep w m) h = tt
  there Suspended h = tt
  there Ended h = tt

pub keys_below : (n list : ℕ) (ts : List Task) → AllTicketsBelow n ts → Below (list_key list) n ts
keys_below n list [] h = tt
keys_below n list (t ∷ ts) h = (some_below n (ticket_in list t.status) (ticket_below n list t.status h.0), keys_below n list ts h.1)
