-- Those whom an unlock makes Ready can be Ready.
use Rattle.std.proofs.Common.{◌≡◌, ◌≤◌, ℕ, List, [], ◌∷◌, ◌++◌, Some, None, refl}
use Rattle.std.specs.List.{AllByRecursion}
use Rattle.std.specs.Option.{option_and_then}
use Rattle.model.specs.declared.call.WaitList.{WaitList}
use Rattle.model.specs.declared.call.WaitList.TheVariants.{ToReceive, ToSend}
use Rattle.model.specs.State.{State, Status, Ready, Awake, Waiting, Asleep, WaitingForBits, WaitingForNotification, Suspended}
use Rattle.model.specs.State.{Ended, wait_if_awake, status_at, progress_at, for_each}
use Rattle.model.specs.Order.{Key, Entry, tasks_of}
use Rattle.model.specs.Switching.{make_ready}
use Rattle.model.specs.Waiting.{wait_key, awakened, unlock_object}
use Rattle.model.specs.Invariant.{IsReckoned}
use Rattle.model.proofs.Lists.{HasKey, list_has}
use Rattle.model.proofs.Unlocking.{opened_by, awake_key}
use Rattle.soundness.proofs.Reckoned.{CanBeReady}

awake_reckoned : (list : WaitList) (now previous : ℕ) (u : Status) (k : Key)
    → option_and_then (wait_key list) (wait_if_awake u) ≡ Some k → IsReckoned now previous u → previous ≤ now
awake_reckoned list now p (Ready n) k e h = absurd (cc)
awake_reckoned list now p (Awake w) k e h = h
awake_reckoned list now p (Waiting w) k e h = absurd (cc)
awake_reckoned list now p (Asleep v n) k e h = absurd (cc)
awake_reckoned list now p (WaitingForBits g m d) k e h = absurd (cc)
awake_reckoned list now p (WaitingForNotification m d) k e h = absurd (cc)
awake_reckoned list now p Suspended k e h = absurd (cc)
awake_reckoned list now p Ended k e h = absurd (cc)

-- those who are woken can be Ready
can_all : (s : State) (list : WaitList) (es : List Entry)
    → ((i : ℕ) → IsReckoned s.time (progress_at s i).previous_wake (status_at s i))
    → AllByRecursion (HasKey (awake_key list) s.tasks) es → AllByRecursion (CanBeReady s) (tasks_of es)
unfolding awake_key
can_all s list [] r has = tt
can_all s list (e ∷ es) r has = (
  (has.0.within, awake_reckoned list s.time (progress_at s e.task).previous_wake (status_at s e.task) e.key has.0.key (r e.task)),
  can_all s list es r has.1,
)

can_both : (s : State) (js ks : List ℕ) → AllByRecursion (CanBeReady s) js
    → AllByRecursion (CanBeReady s) ks → AllByRecursion (CanBeReady s) (js ++ ks)
can_both s [] ks a b = b
can_both s (j ∷ js) ks a b = (a.0, can_both s js ks a.1 b)

pub opened_can : (s : State) (o : ℕ) → ((i : ℕ) → IsReckoned s.time (progress_at s i).previous_wake (status_at s i))
    → AllByRecursion (CanBeReady s) (opened_by s o)
unfolding awake_key
opened_can s o r = can_both s (tasks_of (awakened s (ToReceive o))) (tasks_of (awakened s (ToSend o)))
    (can_all s (ToReceive o) (awakened s (ToReceive o)) r (list_has (awake_key (ToReceive o)) s.tasks))
    (can_all s (ToSend o) (awakened s (ToSend o)) r (list_has (awake_key (ToSend o)) s.tasks))

pub unlocked_by : (s : State) (o : ℕ) → unlock_object o s ≡ for_each make_ready (opened_by s o) (record s { locked = None })
unlocked_by s o = refl
