-- Changes of a state that leave the waits as they are: the objects still represent it.
use Rattle.std.proofs.Common.{length, ◌≡◌, ℕ, suc, ◌+◌, List, [], ◌∷◌, Option, Some, None, refl, ap, sym, subst, ◌∙◌, get_or}
use Rattle.std.specs.List.{AllByRecursion}
use Rattle.std.specs.Option.{IfSome, is_some, option_and_then}
use Rattle.model.specs.declared.call.CallProgress.{CallProgress}
use Rattle.model.specs.declared.call.Phase.{Phase}
use Rattle.model.specs.declared.call.WaitList.{WaitList}
use Rattle.model.specs.declared.call.WaitList.TheVariants.{ToReceive, ToSend}
use Rattle.model.specs.State.{Object, State, Task, Progress, Status, Ready, no_task, wait_if_awake, task_at, status_at, progress_at}
use Rattle.model.specs.State.{call_at, with_task, with_call, with_progress, go_on, take_ticket}
use Rattle.model.specs.Order.{Key, Entry, in_order, keyed}
use Rattle.model.specs.Switching.{make_ready, to_back, is_ready}
use Rattle.model.specs.Invariant.{IsTable, wait_of}
use Rattle.model.proofs.Sorting.{by_test}
use Rattle.model.proofs.Tables.{each-set}
use Rattle.model.proofs.Statuses.{free_unwoken, ready_free}
use Rattle.task_lists.specs.Priorities.{with_priorities}
use Rattle.objects.specs.declared.lock.Lock.{Lock}
use Rattle.objects.specs.Items.{object_in}
use Rattle.objects.specs.WaitersStand.{Decider, FirstAwake, is_awake, standing}
use Rattle.objects.specs.Objects.{Counts, Objects, SameWaits, StandsFor}
use Rattle.objects.proofs.Keys.{standing_key}
use Rattle.objects.proofs.Counting.{awake_agree}

-- ---- what the objects represent

-- two tables whose tasks have the same keys
keyed_alike : (f : Task → Option Key) → f no_task ≡ None → (o : ℕ) (ts us : List Task)
    → ((i : ℕ) → f (get_or ts i no_task) ≡ f (get_or us i no_task)) → keyed f o ts ≡ keyed f o us
keyed_alike f none o [] [] h = refl
keyed_alike f none o [] (u ∷ us) h =
    let e : f u ≡ None = sym (h 0) ∙ none in
    rw e (keyed_alike f none (o + 1) [] us (λ i. h (suc i)))
keyed_alike f none o (t ∷ ts) [] h = let e : f t ≡ None = h 0 ∙ none in rw e (keyed_alike f none (o + 1) ts [] (λ i. h (suc i)))
keyed_alike f none o (t ∷ ts) (u ∷ us) h = let e : f t ≡ f u = h 0 in rw (e, keyed_alike f none (o + 1) ts us (λ i. h (suc i))) refl

module _ (s t : State) (same : SameWaits s t) where
  pub standing_same : (list : WaitList) → standing s list ≡ standing t list
  standing_same list =
      ap in_order (keyed_alike (standing_key list) refl 0 s.tasks t.tasks (λ i. sym (ap (option_and_then _) (same.waits i))))

  each_same : (es : List Entry) → AllByRecursion (λ e. is_awake t e.task ≡ is_awake s e.task) es
  each_same [] = tt
  each_same (e ∷ es) = (ap is_some (same.awake e.task), each_same es)

  first_same : (k : ℕ) (list : WaitList) → FirstAwake s k (standing s list) → FirstAwake t k (standing t list)
  first_same k list h =
      subst (FirstAwake t k) (standing_same list) (awake_agree s t k (standing s list) (each_same (standing s list)) h)

  counts_same : (lock : Option Lock) → IfSome lock (Counts s) → IfSome lock (Counts t)
  counts_same None h = tt
  counts_same (Some l) h = (first_same l.receivers (ToReceive l.object) h.0, first_same l.senders (ToSend l.object) h.1)

  pub stands_same : (v : Objects) (d : Option Decider) → StandsFor v d s → IsTable t → StandsFor v d t
  stands_same v d h table = record {
    number = ap length same.objects ∙ h.number;
    objects = λ o. h.objects o ∙ sym (ap (λ (os : List Object). object_in os o) same.objects);
    waiters = record { lists = λ list. h.waiters.lists list ∙ ap with_priorities (standing_same list); table = table };
    locked = h.locked ∙ sym same.locked;
    counts = counts_same v.lock h.counts;
  }

-- ---- one deed, and then another

pub same : (s : State) → SameWaits s s
same s = record { objects = refl; waits = λ i. refl; awake = λ i. refl; locked = refl }

pub same_both : (a b c : State) → SameWaits a b → SameWaits b c → SameWaits a c
same_both a b c h k =
    record {
      objects = k.objects ∙ h.objects;
      waits = λ i. k.waits i ∙ h.waits i;
      awake = λ i. k.awake i ∙ h.awake i;
      locked = k.locked ∙ h.locked;
    }

-- ---- a task changes

pub same_task : (i : ℕ) (t : Task) (s : State) → wait_of t.status ≡ wait_of (status_at s i)
    → wait_if_awake t.status ≡ wait_if_awake (status_at s i) → SameWaits s (with_task i t s)
same_task i t s waits awake =
    let W : ℕ → Task → Type 0 = λ j u. wait_of u.status ≡ wait_of (status_at s j) in
    let A : ℕ → Task → Type 0 = λ j u. wait_if_awake u.status ≡ wait_if_awake (status_at s j) in
    record {
      objects = refl;
      waits = each-set no_task W s.tasks i t waits (λ j. refl);
      awake = each-set no_task A s.tasks i t awake (λ j. refl);
      locked = refl;
    }

-- one that doesn't wait, before and after
pub same_free : (i : ℕ) (t : Task) (s : State) → wait_of t.status ≡ None
    → wait_of (status_at s i) ≡ None → SameWaits s (with_task i t s)
same_free i t s now was = same_task i t s (now ∙ sym was) (free_unwoken t.status now ∙ sym (free_unwoken (status_at s i) was))

pub same_ticket : (i : ℕ) (f : ℕ → Status) (s : State) → wait_of (f s.next_ticket) ≡ None
    → wait_of (status_at s i) ≡ None → SameWaits s (take_ticket i f s)
same_ticket i f s now was =
    let k = same_free i (record (task_at s i) { status = f s.next_ticket }) s now was in
    record { objects = k.objects; waits = k.waits; awake = k.awake; locked = refl }

pub same_progress : (i : ℕ) (p : Progress) (s : State) → SameWaits s (with_progress i p s)
same_progress i p s = same_task i (record (task_at s i) { progress = p }) s refl refl

-- ---- who runs

pub same_ready : (i : ℕ) (s : State) → wait_of (status_at s i) ≡ None → SameWaits s (make_ready i s)
same_ready i s was = same_ticket i Ready s refl was

pub same_to_back : (i : ℕ) (s : State) → SameWaits s (to_back i s)
unfolding to_back
same_to_back i s = by_test (is_ready s i) (λ t. rw t (same_ready i s (ready_free (status_at s i) t))) (λ t. rw t (same s))

-- ---- calls

pub same_call : (i : ℕ) (call : CallProgress) (s : State) → SameWaits s (with_call i call s)
same_call i call s = same_progress i (record (progress_at s i) { call = call }) s

pub same_go_on : (i : ℕ) (phase : Phase) (s : State) → SameWaits s (go_on i phase s)
same_go_on i phase s = same_call i (record (call_at s i) { phase = phase }) s
