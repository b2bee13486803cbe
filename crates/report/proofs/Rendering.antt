-- The text of a front of some events.
use Rattle.std.proofs.Common.{◌≡◌, ◌≤◌, ◌<◌, ◌+◌, ◌-◌, ◌∙◌, ℕ, List, [], ◌∷◌, ◌++◌, length, length-append, take, drop}
use Rattle.std.proofs.Common.{get_or, inl, inr, refl, sym, ap, zero, suc, arith}
use Rattle.std.proofs.Math.Seq.{take-add, take-append_seam, drop-append_seam, get_or-append_seam}
use Rattle.std.proofs.lemmas.List.{get_or_append_left}
use Rattle.std.proofs.lemmas.List.Folds.{drop_split}
use Rattle.std.proofs.lemmas.Bool.{cases_lt}
use Rattle.std.proofs.lemmas.Grind.{flat_map-append}
use Rattle.std.specs.List.{flat_map, slice_range}
use Rattle.model.specs.Application.{Application}
use Rattle.model.specs.declared.event.Event.{Event}
use Rattle.report.specs.Text.{event_text}
use Rattle.report.specs.Writing.{IsRendered}

-- some of the first items, and the others of them
pub first_in_two : {A : Type 0} (f : A → List ℕ) (n m : ℕ) (xs : List A)
    → flat_map f (take (n + m) xs) ≡ flat_map f (take n xs) ++ flat_map f (take m (drop n xs))
first_in_two f n m xs = ap (flat_map f) (take-add n m xs) ∙ flat_map-append f (take n xs) (take m (drop n xs))

pub first_after : {A : Type 0} (f : A → List ℕ) (n all : ℕ) (xs : List A) → n ≤ all
    → flat_map f (take all xs) ≡ flat_map f (take n xs) ++ flat_map f (take (all - n) (drop n xs))
first_after f n all xs within =
    let both : all ≡ n + (all - n) = omega (arith, within) in
    ap (λ (m : ℕ). flat_map f (take m xs)) both ∙ first_in_two f n (all - n) xs

-- the items from one on, in two parts
pub in_two_parts : {A : Type 0} (f : A → List ℕ) (xs : List A) (from end : ℕ) → from ≤ end
    → flat_map f (slice_range xs from end) ++ flat_map f (drop end xs) ≡ flat_map f (drop from xs)
in_two_parts f xs from end low =
    sym (ap (flat_map f) (drop_split xs from end low) ∙ flat_map-append f (slice_range xs from end) (drop end xs))

module _ (app : Application) (events : List Event) (text ends : List ℕ) (is : IsRendered app events text ends) where
  -- where the text of the first events ends
  end_of_first : (count : ℕ) → count ≤ length ends
      → get_or (0 ∷ ends) count 0 ≡ length (flat_map (event_text app) (take count events))
  end_of_first zero within = refl
  end_of_first (suc number) within =
      let low : number < length ends = omega (arith, within) in
      let next : number + 1 ≡ suc number = omega arith in
      is.ending number low ∙ ap (λ (n : ℕ). length (flat_map (event_text app) (take n events))) next

  module _ (count end : ℕ) (within : count ≤ length ends) (at : end ≡ get_or (0 ∷ ends) count 0) where
    abbrev front : List ℕ
    front = flat_map (event_text app) (take count events)

    abbrev rest : List ℕ
    rest = flat_map (event_text app) (take (length ends - count) (drop count events))

    its_length : end ≡ length front
    its_length = at ∙ end_of_first count within

    text_parts : text ≡ front ++ rest
    text_parts = is.is ∙ first_after (event_text app) count (length ends) events within

    -- the text of the first events
    pub first_text : take end text ≡ flat_map (event_text app) (take count events)
    first_text = rw (text_parts, its_length) (take-append_seam front rest)

    pub first_within : end ≡ length (take end text)
    first_within = its_length ∙ ap length (sym first_text)

    pub first_low : end ≤ length text
    first_low = omega (arith, ap length text_parts, length-append front rest, its_length)

    -- and that of the others
    pub others_text : drop end text ≡ flat_map (event_text app) (slice_range events count (length ends))
    others_text = rw (text_parts, its_length) (drop-append_seam front rest)

  -- one more event
  module _ (text' ends' : List ℕ) (one : List Event) (low : length ends < length events)
      (next : one ≡ take 1 (drop (length ends) events))
      (more : text' ≡ text ++ flat_map (event_text app) one) (ended : ends' ≡ ends ++ length text' ∷ []) where
    all_text : text' ≡ flat_map (event_text app) (take (length ends + 1) events)
    all_text =
        more ∙ ap (λ t. t ++ flat_map (event_text app) one) is.is
        ∙ ap (λ (es : List Event). flat_map (event_text app) (take (length ends) events) ++ flat_map (event_text app) es) next
        ∙ sym (first_in_two (event_text app) (length ends) 1 events)

    more_ends : length ends' ≡ length ends + 1
    more_ends = ap length ended ∙ length-append ends (length text' ∷ [])

    each_end : (n : ℕ) → n < length ends' → get_or ends' n 0 ≡ length (flat_map (event_text app) (take (n + 1) events))
    each_end n within =
        elim (cases_lt n (length ends)) [
          | inl old ↦
              ap (λ (l : List ℕ). get_or l n 0) ended ∙ get_or_append_left ends (length text' ∷ []) 0 n old ∙ is.ending n old
          | inr past ↦
              let same : n ≡ length ends = omega (arith, past, within, more_ends) in
              rw (same, ended) (get_or-append_seam ends (length text') [] 0 ∙ ap length all_text)
        ]

    pub next_rendered : IsRendered app events text' ends'
    next_rendered =
        let within : length ends' ≤ length events = omega (arith, more_ends, low) in
        record {
          within = within;
          is = all_text ∙ ap (λ (n : ℕ). flat_map (event_text app) (take n events)) (sym more_ends);
          ending = each_end;
        }
