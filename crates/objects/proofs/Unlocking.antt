-- The unlocking of an object.
use Rattle.std.proofs.Common.{◌≡◌, ℕ, None, Option, List, [], ◌∷◌, ◌++◌, take, drop, sym, ◌∙◌, ap, ap₂, arith, refl}
use Rattle.lists.proofs.Laws.{entries_of-set_other}
use Rattle.model.specs.declared.call.WaitList.TheVariants.{ToReceive, ToSend}
use Rattle.model.specs.State.{State, for_each, for_one}
use Rattle.model.specs.Order.{tasks_of}
use Rattle.model.specs.Switching.{make_ready}
use Rattle.model.specs.Waiting.{awakened, unlock, unlock_object}
use Rattle.objects.specs.WaitingLists.{best_of, number_of, waiting_in, without_best}
use Rattle.task_lists.specs.Tasks.{tasks_in}
use Rattle.objects.specs.WaitersStand.{AreAwakened, StandLocked, WaitersStand, opened}
use Rattle.objects.proofs.Parts.{awakened_tasks}

pub each_append : (is js : List ℕ) (s : State)
    → for_each make_ready (is ++ js) s ≡ for_each make_ready js (for_each make_ready is s)
each_append [] js s = refl
each_append (i ∷ is) js s = each_append is js (make_ready i s)

pub stands_opened : (v : List (List (ℕ × ℕ))) (s : State) → WaitersStand v None s → WaitersStand v None (opened s)
stands_opened v s h =
    record {
      lists = h.lists;
      table = record { tickets = h.table.tickets; few = h.table.few; current = h.table.current; holders = h.table.holders };
    }

-- A task that is taken out of those that wait to receive doesn't wait to send.
pub senders_stay : (v : List (List (ℕ × ℕ))) (o receivers senders : ℕ)
    → best_of (ToSend o) senders (without_best (ToReceive o) receivers v) ≡ best_of (ToSend o) senders v
senders_stay v o receivers senders = ap (λ (es : List (ℕ × ℕ)). take senders (tasks_in es))
    (entries_of-set_other v (number_of (ToReceive o)) (number_of (ToSend o))
    (drop receivers (waiting_in v (ToReceive o))) (λ e. omega (arith, e)))

module _ (v : List (List (ℕ × ℕ))) (s : State) (o receivers senders : ℕ)
    (is js : List ℕ) (h : StandLocked v None o receivers senders s)
    (first : is ≡ best_of (ToReceive o) receivers v) (later : js ≡ best_of (ToSend o) senders v) where
  those_to_receive : is ≡ tasks_of (awakened s (ToReceive o))
  those_to_receive =
      first ∙ ap (λ (es : List (ℕ × ℕ)). take receivers (tasks_in es)) (h.stand.lists (ToReceive o))
      ∙ sym (awakened_tasks s (ToReceive o) receivers h.to_receive)

  those_to_send : js ≡ tasks_of (awakened s (ToSend o))
  those_to_send =
      later ∙ ap (λ (es : List (ℕ × ℕ)). take senders (tasks_in es)) (h.stand.lists (ToSend o))
      ∙ sym (awakened_tasks s (ToSend o) senders h.to_send)

  pub awakened_are : AreAwakened s o is js
  awakened_are = (those_to_receive, those_to_send)

  -- the tasks that become Ready
  pub unlocks : unlock s ≡ for_each make_ready (is ++ js) (opened s)
  unfolding unlock
  unlocks =
      ap (λ (x : Option ℕ). for_one unlock_object x s) h.locked
      ∙ sym (ap₂ (λ (xs ys : List ℕ). for_each make_ready (xs ++ ys) (opened s)) those_to_receive those_to_send)
