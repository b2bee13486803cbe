-- What a status says: a Ready task neither waits nor sleeps, and one that doesn't wait hasn't been woken.
use Rattle.std.proofs.Common.{◌≡◌, true, None, refl}
use Rattle.std.specs.Option.{is_some}
use Rattle.model.specs.State.{Status, Ready, Awake, Waiting, Asleep, WaitingForBits, WaitingForNotification, Suspended, Ended}
use Rattle.model.specs.State.{ticket_if_ready}
use Rattle.model.specs.State.{wait_if_awake, wake_time_of}
use Rattle.model.specs.Invariant.{wait_of}

pub ready_awake : (u : Status) → is_some (ticket_if_ready u) ≡ true → wake_time_of u ≡ None
ready_awake (Ready n) t = refl
ready_awake (Awake w) t = absurd (cc)
ready_awake (Waiting w) t = absurd (cc)
ready_awake (Asleep w n) t = absurd (cc)
ready_awake (WaitingForBits g m d) t = absurd (cc)
ready_awake (WaitingForNotification m d) t = absurd (cc)
ready_awake Suspended t = absurd (cc)
ready_awake Ended t = absurd (cc)

pub ready_free : (u : Status) → is_some (ticket_if_ready u) ≡ true → wait_of u ≡ None
ready_free (Ready n) t = refl
ready_free (Awake w) t = absurd (cc)
ready_free (Waiting w) t = absurd (cc)
ready_free (Asleep w n) t = absurd (cc)
ready_free (WaitingForBits g m d) t = absurd (cc)
ready_free (WaitingForNotification m d) t = absurd (cc)
ready_free Suspended t = absurd (cc)
ready_free Ended t = absurd (cc)

pub free_unwoken : (u : Status) → wait_of u ≡ None → wait_if_awake u ≡ None
free_unwoken (Ready n) e = refl
free_unwoken (Awake w) e = absurd (cc)
free_unwoken (Waiting w) e = absurd (cc)
free_unwoken (Asleep w n) e = refl
free_unwoken (WaitingForBits g m d) e = refl
free_unwoken (WaitingForNotification m d) e = refl
free_unwoken Suspended e = refl
free_unwoken Ended e = refl

pub ready_not_woken : (u : Status) → is_some (ticket_if_ready u) ≡ true → wait_if_awake u ≡ None
ready_not_woken (Ready n) t = refl
ready_not_woken (Awake w) t = absurd (cc)
ready_not_woken (Waiting w) t = refl
ready_not_woken (Asleep v n) t = refl
ready_not_woken (WaitingForBits g m d) t = refl
ready_not_woken (WaitingForNotification m d) t = refl
ready_not_woken Suspended t = refl
ready_not_woken Ended t = refl
