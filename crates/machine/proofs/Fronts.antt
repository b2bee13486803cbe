-- The progress of the first tasks, and of none after them.
use Rattle.std.proofs.Common.{◌≡◌, ◌<◌, ◌≤◌, ◌+◌, ◌-◌, ◌++◌, ◌∙◌, ℕ, List, drop, inl, inr, length, length-append, min, replicate}
use Rattle.std.proofs.Common.{refl, ap, sym, arith, take}
use Rattle.std.proofs.lemmas.Bool.{cases_lt}
use Rattle.std.proofs.lemmas.List.{ext_get_or, get_or-append_right, get_or-drop, get_or-replicate, get_or-take, get_or_append_left}
use Rattle.std.proofs.lemmas.List.{length-drop, length-replicate, length-take, take-append-drop}
use Rattle.std.proofs.Math.ListN.{get_or-eq_default}
use Rattle.model.specs.State.{Progress, no_progress}
use Rattle.machine.specs.StandsFor.{AreBlankFrom, progress_in}
use Rattle.machine.specs.Fronts.{with_blanks}

module _ (front : List Progress) (few : length front ≤ 32) where
  abbrev blanks : List Progress
  blanks = replicate (32 - length front) no_progress

  pub long : length (with_blanks front) ≡ 32
  long = omega (arith, few, length-append front blanks, length-replicate (32 - length front) no_progress)

  -- A task after the front has done nothing.
  pub in_front : (task : ℕ) → task < 32 → progress_in (with_blanks front) task ≡ progress_in front task
  in_front task low = elim (cases_lt task (length front)) [
    | inl there ↦ get_or_append_left front blanks no_progress task there
    | inr behind ↦
        get_or-append_right front blanks (length front) task no_progress refl behind
        ∙ get_or-replicate (32 - length front) (task - length front) no_progress no_progress (omega (arith, low, behind))
        ∙ sym (get_or-eq_default front no_progress behind)
  ]

  -- It is the progress of all tasks that has this front, and is blank after it.
  pub is_whole : (ps : List Progress) → length ps ≡ 32
      → ((task : ℕ) → task < 32 → progress_in ps task ≡ progress_in front task) → ps ≡ with_blanks front
  is_whole ps full same =
      ext_get_or no_progress ps (with_blanks front) (full ∙ sym long)
      (λ task below. let low : task < 32 = omega (arith, below, full) in same task low ∙ sym (in_front task low))

  -- Likewise if it is the same as the front as far as that goes, and blank after it, up to some task and from that on.
  pub is_same : (ps : List Progress) (tasks : ℕ) → length ps ≡ 32
      → ((task : ℕ) → task < length front → progress_in ps task ≡ progress_in front task)
      → ((task : ℕ) → length front ≤ task → task < min tasks 32 → progress_in ps task ≡ no_progress)
      → AreBlankFrom tasks ps → ps ≡ with_blanks front
  is_same ps tasks full same blank behind = is_whole ps full (λ task low. elim (cases_lt task (length front)) [
    | inl there ↦ same task there
    | inr past ↦ elim (cases_lt task tasks) [
      | inl there ↦ blank task past (omega (arith, low, there)) ∙ sym (get_or-eq_default front no_progress past)
      | inr further ↦ behind task further ∙ sym (get_or-eq_default front no_progress past)
    ]
  ])

-- The front of a progress that is blank after it.
pub front_is : (tasks : ℕ) (ps front : List Progress) → length ps ≡ 32 → tasks ≤ 32 → AreBlankFrom tasks ps
    → front ≡ take tasks ps → with_blanks front ≡ ps
front_is tasks ps front full few blank is =
    let long : length (take tasks ps) ≡ tasks = omega (arith, full, few, length-take tasks ps) in
    rw is (sym (is_whole (take tasks ps) (omega (arith, long, few)) ps full (λ task low. elim (cases_lt task tasks) [
      | inl there ↦ sym (get_or-take tasks ps task no_progress there)
      | inr behind ↦
          blank task behind ∙ sym (get_or-eq_default (take tasks ps) no_progress (omega (arith, long, behind)))
    ])))

-- A front that is put over what is blank after it.
pub filled : (front before : List Progress) → length front ≤ 32 → length before ≡ 32 → AreBlankFrom (length front) before
    → front ++ drop (length front) before ≡ with_blanks front
filled front before few full blank =
    let behind = length-drop (length front) before in
    let blanks = length-replicate (32 - length front) no_progress in
    ap (λ (rest : List Progress). front ++ rest) (ext_get_or no_progress (drop (length front) before)
    (replicate (32 - length front) no_progress) (omega (arith, behind, full, blanks))
    (λ i below. get_or-drop (length front) before i no_progress ∙ blank (length front + i) (omega arith)
    ∙ sym (get_or-replicate (32 - length front) i no_progress no_progress (omega (arith, below, behind, full)))))

-- The front of one progress, and what comes after that in another, if both are blank after it.
pub front_copied : (tasks count : ℕ) (ps qs : List Progress) → count ≡ min tasks 32 → length ps ≡ 32 → length qs ≡ 32
    → AreBlankFrom tasks ps → AreBlankFrom tasks qs → take count qs ++ drop count ps ≡ qs
front_copied tasks count ps qs is full as_full blank other =
    let short = length-drop count ps in
    let as_short = length-drop count qs in
    ap (λ (rest : List Progress). take count qs ++ rest)
    (ext_get_or no_progress (drop count ps) (drop count qs) (omega (arith, short, as_short, full, as_full)) (λ i below.
    let behind : tasks ≤ count + i = omega (arith, is, below, short, full) in
    get_or-drop count ps i no_progress ∙ blank (count + i) behind ∙ sym (other (count + i) behind)
    ∙ sym (get_or-drop count qs i no_progress)))
    ∙ take-append-drop count qs
