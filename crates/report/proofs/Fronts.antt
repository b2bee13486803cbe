-- Labels.
use Rattle.std.proofs.Common.{◌≡◌, ◌≤◌, ◌++◌, ℕ, zero, suc, ◌==◌, List, [], ◌∷◌, length, get_or, set, take, drop, ap, sym, ◌∙◌}
use Rattle.std.proofs.Common.{inl, inr, arith, replicate, refl}
use Rattle.std.proofs.Math.Seq.{drop-append_seam}
use Rattle.std.proofs.lemmas.List.{get_or-replicate, get_or_past, length-replicate, length-take}
use Rattle.std.proofs.lemmas.Bool.{cases_lt}
use Rattle.model.specs.Application.{Application}
use Rattle.report.specs.declared.label.Label.{Label}
use Rattle.report.specs.declared.label.OpLabel.{OpLabel}
use Rattle.report.specs.Text.{call_front, isr_front, obeyed_front}
use Rattle.report.specs.Fronts.{IsLabel, IsCallLabel, IsIsrLabel, IsObeyedLabel, AreLabels, blank, blank_op, mark_front}
use Rattle.report.specs.Fronts.{run_front}

-- A label without text fits every front.
none_fits : (label : Label) (front : List ℕ) → label.len ≡ 0 → IsLabel label front
none_fits label front is = record { few = omega (arith, is); text = λ h. absurd (omega (arith, is, h)) }

none_kept : (label : Label) (n i : ℕ) (front : List ℕ) → label.len ≡ 0 → IsLabel (get_or (replicate n label) i blank) front
none_kept label n i front is =
    elim (cases_lt i n) [
      | inl within ↦ rw (get_or-replicate n i label blank within) (none_fits label front is)
      | inr past ↦
          rw (get_or_past (replicate n label) i blank (omega (arith, past, length-replicate n label))) (none_fits blank front refl)
    ]

none_of_op : (front : OpLabel → List ℕ) (op : OpLabel) (n i : ℕ) → op.label.len ≡ 0
    → IsLabel (get_or (replicate n op) i blank_op).label (front (get_or (replicate n op) i blank_op))
none_of_op front op n i is =
    elim (cases_lt i n) [
      | inl within ↦ rw (get_or-replicate n i op blank_op within) (none_fits op.label (front op) is)
      | inr past ↦
          rw (get_or_past (replicate n op) i blank_op (omega (arith, past, length-replicate n op)))
          (none_fits blank (front blank_op) refl)
    ]

-- Labels without text are right.
pub labels_at_first : (app : Application) (run mark : Label) (call isr command : OpLabel) (m n k l : ℕ)
    → run.len ≡ 0 → mark.len ≡ 0 → call.label.len ≡ 0 → isr.label.len ≡ 0 → command.label.len ≡ 0
    → AreLabels app (replicate m run) (replicate m mark) (replicate n call) (replicate k isr) (replicate l command)
labels_at_first app run mark call isr command m n k l run_is mark_is call_is isr_is command_is = record {
  of_runs = λ task. none_kept run m task (run_front app task) run_is;
  of_marks = λ task. none_kept mark m task (mark_front app task) mark_is;
  of_calls = λ place. none_of_op (λ (op : OpLabel). call_front app op.owner op.op_index) call n place call_is;
  of_isrs = λ place. none_of_op (λ (op : OpLabel). isr_front app op.owner op.op_index) isr k place isr_is;
  of_obeyed = λ place. none_of_op (λ (op : OpLabel). obeyed_front app op.owner (place == 1)) command l place command_is;
}

-- What holds at each place holds still where one is set to what it holds of.
set_kept : {X : Type 0} (P : ℕ → X → Type 0) (d x : X) (xs : List X) (i : ℕ) → P i x → ((place : ℕ) → P place (get_or xs place d))
    → (place : ℕ) → P place (get_or (set xs i x) place d)
set_kept P d x [] i here holds place = holds place
set_kept P d x (y ∷ ys) zero here holds zero = here
set_kept P d x (y ∷ ys) zero here holds (suc place) = holds (suc place)
set_kept P d x (y ∷ ys) (suc i) here holds zero = holds zero
set_kept P d x (y ∷ ys) (suc i) here holds (suc place) =
    set_kept (λ p. P (suc p)) d x ys i here (λ p. holds (suc p)) place

-- what is between the two places of a text that was put into some bytes
pub rendered : (before bytes front : List ℕ) (at : ℕ) → at ≤ length before → bytes ≡ take at before ++ front → drop at bytes ≡ front
rendered before bytes front at within put =
    let begins : length (take at before) ≡ at = omega (arith, length-take at before, within) in
    ap (drop at) put ∙ ap (λ n. drop n (take at before ++ front)) (sym begins) ∙ drop-append_seam (take at before) front

module _ (app : Application) (runs marks : List Label) (calls isrs obeyed : List OpLabel)
    (right : AreLabels app runs marks calls isrs obeyed) where
  pub run_kept : (task : ℕ) (label : Label) → IsLabel label (run_front app task)
      → AreLabels app (set runs task label) marks calls isrs obeyed
  run_kept task label here = record {
    of_runs = set_kept (λ place l. IsLabel l (run_front app place)) blank label runs task here right.of_runs;
    of_marks = right.of_marks;
    of_calls = right.of_calls;
    of_isrs = right.of_isrs;
    of_obeyed = right.of_obeyed;
  }

  pub mark_kept : (task : ℕ) (label : Label) → IsLabel label (mark_front app task)
      → AreLabels app runs (set marks task label) calls isrs obeyed
  mark_kept task label here = record {
    of_runs = right.of_runs;
    of_marks = set_kept (λ place l. IsLabel l (mark_front app place)) blank label marks task here right.of_marks;
    of_calls = right.of_calls;
    of_isrs = right.of_isrs;
    of_obeyed = right.of_obeyed;
  }

  pub call_kept : (place : ℕ) (call : OpLabel) → IsCallLabel app call
      → AreLabels app runs marks (set calls place call) isrs obeyed
  call_kept place call here = record {
    of_runs = right.of_runs;
    of_marks = right.of_marks;
    of_calls = set_kept (λ p c. IsCallLabel app c) blank_op call calls place here right.of_calls;
    of_isrs = right.of_isrs;
    of_obeyed = right.of_obeyed;
  }

  pub isr_kept : (place : ℕ) (isr : OpLabel) → IsIsrLabel app isr
      → AreLabels app runs marks calls (set isrs place isr) obeyed
  isr_kept place isr here = record {
    of_runs = right.of_runs;
    of_marks = right.of_marks;
    of_calls = right.of_calls;
    of_isrs = set_kept (λ p i. IsIsrLabel app i) blank_op isr isrs place here right.of_isrs;
    of_obeyed = right.of_obeyed;
  }

  pub obeyed_kept : (place : ℕ) (command : OpLabel) → IsObeyedLabel app place command
      → AreLabels app runs marks calls isrs (set obeyed place command)
  obeyed_kept place command here = record {
    of_runs = right.of_runs;
    of_marks = right.of_marks;
    of_calls = right.of_calls;
    of_isrs = right.of_isrs;
    of_obeyed = set_kept (λ p c. IsObeyedLabel app p c) blank_op command obeyed place here right.of_obeyed;
  }
