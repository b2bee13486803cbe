-- Lists of interrupt sources, and what the ops and comings make of one.
use Rattle.std.proofs.Common.{◌≡◌, ◌+◌, ◌++◌, ◌⊎◌, inl, inr, ℕ, zero, suc, true, false, List, [], ◌∷◌, Option, Some, None}
use Rattle.std.proofs.Common.{map, get_or, set, refl, ap, sym, subst, ◌∙◌}
use Rattle.std.specs.List.{slice_get}
use Rattle.std.specs.Prelude.{if◌then◌else◌, ◌==◌}
use Rattle.model.specs.declared.source.SourceOp.{SourceOp}
use Rattle.model.specs.declared.source.SourceOp.TheVariants.{Arm, Disarm, Raise, Cancel}
use Rattle.model.specs.Application.{Application, Handler}
use Rattle.model.specs.Handlers.{apart_of, is_raised_for}
use Rattle.model.specs.State.{State, Source, no_source}
use Rattle.model.specs.Step.{source_at_reset}
use Rattle.model.specs.Ops.{do_to_source}
use Rattle.model.proofs.Sorting.{by_test}

-- ---- lists of sources in which one changes

abbrev pub changed_at : (Source → Source) → ℕ → List Source → List Source
changed_at change i xs = set xs i (change (get_or xs i no_source))

-- Two changes may be made in either order, if they may be of one source.
pub in_either_order : (f g : Source → Source) → ((x : Source) → f (g x) ≡ g (f x)) → (xs : List Source) (i j : ℕ)
    → changed_at f i (changed_at g j xs) ≡ changed_at g j (changed_at f i xs)
in_either_order f g same [] i j = refl
in_either_order f g same (x ∷ xs) zero zero = ap (λ (y : Source). y ∷ xs) (same x)
in_either_order f g same (x ∷ xs) zero (suc j) = refl
in_either_order f g same (x ∷ xs) (suc i) zero = refl
in_either_order f g same (x ∷ xs) (suc i) (suc j) = ap (λ (ys : List Source). x ∷ ys) (in_either_order f g same xs i j)

-- Two changes of one source are one.
pub changed_twice : (f g : Source → Source) (xs : List Source) (i : ℕ)
    → changed_at f i (changed_at g i xs) ≡ changed_at (λ x. f (g x)) i xs
changed_twice f g [] i = refl
changed_twice f g (x ∷ xs) zero = refl
changed_twice f g (x ∷ xs) (suc i) = ap (λ (ys : List Source). x ∷ ys) (changed_twice f g xs i)

pub unchanged_at : (f : Source → Source) → ((x : Source) → f x ≡ x) → (xs : List Source) (i : ℕ) → changed_at f i xs ≡ xs
unchanged_at f same [] i = refl
unchanged_at f same (x ∷ xs) zero = ap (λ (y : Source). y ∷ xs) (same x)
unchanged_at f same (x ∷ xs) (suc i) = ap (λ (ys : List Source). x ∷ ys) (unchanged_at f same xs i)

-- ---- what a source that becomes pending is

module _ (app : Application) (handler : ℕ) where
  -- noted as come at this elapsed tick
  abbrev pub noted : ℕ → Source → Source
  noted now x = record x { free_from = if apart_of app handler == 0 then x.free_from else now + apart_of app handler }

  -- and pending
  abbrev pub marked : ℕ → Source → Source
  marked now x = record (noted now x) { pending = true }

  pub noted_again : (now : ℕ) (x : Source) → noted now (noted now x) ≡ noted now x
  noted_again now x = by_test (apart_of app handler == 0) (λ t. rw t refl) (λ t. rw t refl)

  pub marked_again : (now : ℕ) (x : Source) → marked now (marked now x) ≡ marked now x
  marked_again now x = by_test (apart_of app handler == 0) (λ t. rw t refl) (λ t. rw t refl)

-- ---- what else one becomes

-- by an op, at this elapsed tick
abbrev pub changed : SourceOp → ℕ → Source → Source
changed Arm now x = record x { armed = true }
changed Disarm now x = record x { armed = false }
changed (Raise n) now x = record x { raised = Some (now + n) }
changed Cancel now x = record x { raised = None }

-- not raised for this tick any more
abbrev pub lowered : ℕ → Source → Source
lowered tick x = if is_raised_for tick x then record x { raised = None } else x

-- The op changes no other.
pub done_is : (handler : ℕ) (op : SourceOp) (s : State)
    → do_to_source handler op s ≡ record s { sources = changed_at (changed op s.elapsed) handler s.sources }
done_is handler Arm s = refl
done_is handler Disarm s = refl
done_is handler (Raise n) s = refl
done_is handler Cancel s = refl

-- ---- one of them

pub one_source : (xs : List Source) (i : ℕ) (x : Source) (j : ℕ)
    → ((get_or (set xs i x) j no_source ≡ x) × (j ≡ i)) ⊎ (get_or (set xs i x) j no_source ≡ get_or xs j no_source)
one_source [] i x j = inr refl
one_source (y ∷ ys) zero x zero = inl (refl, refl)
one_source (y ∷ ys) zero x (suc j) = inr refl
one_source (y ∷ ys) (suc i) x zero = inr refl
one_source (y ∷ ys) (suc i) x (suc j) = elim (one_source ys i x j) [ inl e ↦ inl (e.0, ap suc e.1) | inr e ↦ inr e ]

-- Where one changes, what is true of a source is true still, if the change keeps it.
pub one_changed : (Q : Source → Type 0) (f : Source → Source) (xs : List Source) (i j : ℕ)
    → (j ≡ i → Q (get_or xs j no_source) → Q (f (get_or xs j no_source)))
    → Q (get_or xs j no_source) → Q (get_or (changed_at f i xs) j no_source)
one_changed Q f xs i j keeps h = elim (one_source xs i (f (get_or xs i no_source)) j) [
  | inl e ↦ subst Q (ap (λ (k : ℕ). f (get_or xs k no_source)) e.1 ∙ sym e.0) (keeps e.1 h)
  | inr e ↦ subst Q (sym e) h
]

-- at reset
abbrev pub at_start : Option Handler → Source
at_start None = no_source
at_start (Some handler) = source_at_reset handler

pub starts_as : (handlers : List Handler) (i : ℕ)
    → get_or (map source_at_reset handlers ++ no_source ∷ []) i no_source ≡ at_start (slice_get handlers i)
starts_as [] zero = refl
starts_as [] (suc i) = refl
starts_as (h ∷ hs) zero = refl
starts_as (h ∷ hs) (suc i) = starts_as hs i
