-- Checkpoints along a base run, and the one before a row.
use Rattle.std.proofs.Common.{◌≡◌, ◌+◌, ◌-◌, ◌*◌, ◌/◌, ◌%◌, ◌<◌, ◌≤◌, ℕ, suc, Bool, true, false, List, [], ◌∷◌, ◌++◌, get_or}
use Rattle.std.proofs.Common.{length, length-append, take, ap, refl, sym, subst, ◌∙◌, arith}
use Rattle.std.specs.Prelude.{IfSome, if◌then◌else◌, min, nat_le, nat_lt}
use Rattle.std.proofs.lemmas.Bool.{lt-ltb}
use Rattle.std.proofs.lemmas.List.{length-take}
use Rattle.std.proofs.lemmas.Option.{slice_get-get_or}
use Rattle.std.proofs.Math.Nat.{mod-add-div', mod-le, div-lt_iff_lt-mul, min-eq_right, suc-mul}
use Rattle.model.specs.declared.plan.Injection.{Injection}
use Rattle.model.specs.Points.{first_step}
use Rattle.model.specs.Application.{Application, Limits}
use Rattle.model.specs.Run.{events_after}
use Rattle.model.proofs.Injected.{begins_with}
use Rattle.shelf.specs.declared.checkpoints.Checkpoint.{Checkpoint}
use Rattle.shelf.proofs.Joining.{each_more}
use Rattle.shelf.specs.Shelves.{IsCheckpoint, AreCheckpoints, Shelved, IsShelf, cost_of, way_to}

-- ---- putting checkpoints

pub one_more : (app : Application) (limits : Limits) (stride : ℕ) (checkpoints more : List Checkpoint) (checkpoint : Checkpoint)
    → AreCheckpoints app limits stride checkpoints
    → more ≡ checkpoints ++ checkpoint ∷ [] → IsCheckpoint app limits (length checkpoints * stride) checkpoint
    → AreCheckpoints app limits stride more
one_more app limits stride checkpoints more checkpoint h is last =
    subst (AreCheckpoints app limits stride) (sym is)
    (each_more (λ n. IsCheckpoint app limits (n * stride)) checkpoints checkpoint h last)

-- how many checkpoints there are
pub put_more : (checkpoints more : List Checkpoint) (checkpoint : Checkpoint) (stride next : ℕ)
    → more ≡ checkpoints ++ checkpoint ∷ [] → next ≡ length checkpoints * stride → next + stride ≡ length more * stride
put_more checkpoints more checkpoint stride next is e =
    let one : length more ≡ suc (length checkpoints) = omega (arith, ap length is, length-append checkpoints (checkpoint ∷ [])) in
    rw one (ap (λ (n : ℕ). n + stride) e ∙ sym (suc-mul (length checkpoints) stride))

-- ---- the way to a step

either_way : (t : Bool) (a b : ℕ) → b ≤ a → (if t then min a b else b) ≡ b
either_way true a b l = min-eq_right l
either_way false a b l = refl

-- From reset it begins at the checkpoint before.
pub way_from_reset : (stride step : ℕ) → way_to stride 0 step ≡ step % stride
way_from_reset stride step = either_way (nat_le 0 step) (step - 0) (step % stride) (omega (arith, mod-le step stride))

chosen : (t : Bool) (a b : ℕ) → t ≡ true → (if t then a else b) ≡ a
chosen true a b is = refl
chosen false a b is = absurd (cc)

-- what the row of a point costs, to whose first injection the base run gets
pub cost_beyond : (shelf : Shelved) (point : List Injection) → first_step point < shelf.base.steps → (reached : Bool) (steps : ℕ)
    → cost_of shelf point reached steps
    ≡ first_step point % shelf.stride + (if reached then steps - first_step point else 0)
cost_beyond shelf point l reached steps =
    chosen (nat_lt (first_step point) shelf.base.steps)
    (first_step point % shelf.stride + (if reached then steps - first_step point else 0)) 0
    (lt-ltb (first_step point) shelf.base.steps l)

-- the way of a walk that is at reset
pub way_is : (stride walked first : ℕ) → walked ≡ 0 → way_to stride walked first ≡ first % stride
way_is stride walked first none = ap (λ (w : ℕ). way_to stride w first) none ∙ way_from_reset stride first

-- ---- the checkpoint before a step

module _ (app : Application) (shelf : Shelved) (h : IsShelf app shelf) (step : ℕ) (l : step < shelf.base.steps) where
  abbrev number : ℕ
  number = step / shelf.stride

  split : step % shelf.stride + number * shelf.stride ≡ step
  split = mod-add-div' step shelf.stride

  checkpoint_below : number < length shelf.checkpoints
  checkpoint_below = (div-lt_iff_lt-mul h.apart).1 (let enough = h.enough in omega (arith, enough, l))

  pub checkpoint_is : (d : Checkpoint) → IsCheckpoint app shelf.limits (number * shelf.stride) (get_or shelf.checkpoints number d)
  checkpoint_is d =
      subst (λ o. IfSome o (IsCheckpoint app shelf.limits (number * shelf.stride)))
      (slice_get-get_or shelf.checkpoints number d checkpoint_below) (h.are_checkpoints number)

  -- no more events than the base run has
  pub few_before : length (events_after app shelf.limits [] step) ≤ length shelf.base.events
  few_before =
      let front = ap length (begins_with app shelf.limits [] step shelf.base.steps (omega (arith, l))) in
      let cut = length-take (length (events_after app shelf.limits [] step)) (events_after app shelf.limits [] shelf.base.steps) in
      let all = ap length h.is_base.trace in
      omega (arith, front, cut, all)

  -- which it begins with
  pub shared_is : (count : ℕ) → count ≡ length (events_after app shelf.limits [] step)
      → take count shelf.base.events ≡ events_after app shelf.limits [] step
  shared_is count is = rw (is, h.is_base.trace) (begins_with app shelf.limits [] step shelf.base.steps (omega (arith, l)))

-- ---- the row of a point that is reached

-- from a shelf, as it is kept inside, and the checkpoint that is read there
module _ (app : Application) (inside now : Shelved) (same : inside ≡ now) (kept : IsShelf app now)
    (point : List Injection) (reached : first_step point < now.base.steps) where
  h : IsShelf app inside
  h = subst (IsShelf app) (sym same) kept

  l : first_step point < inside.base.steps
  l = subst (λ (s : Shelved). first_step point < s.base.steps) (sym same) reached

  pub read_is : (step : ℕ) → step ≡ first_step point → (checkpoint d : Checkpoint)
      → checkpoint ≡ get_or inside.checkpoints (step / inside.stride) d
      → IsCheckpoint app inside.limits (first_step point / inside.stride * inside.stride) checkpoint
  read_is step first checkpoint d read =
      let there : checkpoint ≡ get_or inside.checkpoints (first_step point / inside.stride) d =
      read ∙ ap (λ (n : ℕ). get_or inside.checkpoints (n / inside.stride) d) first in
      subst (IsCheckpoint app inside.limits (first_step point / inside.stride * inside.stride))
      (sym there) (checkpoint_is app inside h (first_step point) l d)

  -- the step, by the checkpoints before it
  pub parts_of : first_step point % now.stride + first_step point / inside.stride * inside.stride ≡ first_step point
  parts_of = rw (← ap (λ (s : Shelved). s.stride) same) (split app inside h (first_step point) l)

  pub shares_few : length (events_after app now.limits [] (first_step point)) ≤ length now.base.events
  shares_few = few_before app now kept (first_step point) reached
