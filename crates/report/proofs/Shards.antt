-- The parts of some rows are all of them, one behind the other.
use Rattle.std.proofs.Common.{◌≡◌, ℕ, zero, suc, ◌≤◌, ◌<◌, ◌+◌, ◌-◌, ◌*◌, ◌/◌, Bool, true, false, cond, not, List, [], ◌∷◌, ◌++◌}
use Rattle.std.proofs.Common.{filter, length, length-append, map, take, drop, sum, refl, sym, ap, ap₂, ◌∙◌, append-nil, arith}
use Rattle.std.specs.Prelude.{slice_range}
use Rattle.std.specs.List.{AllByRecursion, flat_map}
use Rattle.std.proofs.lemmas.Grind.{flat_map-append}
use Rattle.std.proofs.lemmas.List.Sums.{sum_by-append}
use Rattle.std.proofs.lemmas.Simd.{map-map}
use Rattle.std.proofs.lemmas.List.{drop-map, length-map, length-take-le, map-append, take-map}
use Rattle.std.proofs.Math.Nat.{div-mul-le_self, mul-div_cancel_left, zero-div}
use Rattle.std.proofs.Math.Seq.{take-add, take-length}
use Rattle.std.proofs.lemmas.Nat.{le-div, mul-le}
use Rattle.model.specs.declared.plan.Injection.{Injection}
use Rattle.model.specs.declared.totals.Totals.{Totals}
use Rattle.model.specs.Application.{Application, Limits}
use Rattle.model.specs.Campaign.{Row, AreRows, is_pass, is_check, is_misuse, is_ticks, is_steps, is_stuck_end, totals_of}
use Rattle.report.specs.Shards.{Shard, added, cut_at, first_of, first_shards, next_of, part_of, shards, undivided}
use Rattle.report.specs.Views.{shown_rows}
use Rattle.report.specs.declared.view.View.{View}
use Rattle.report.proofs.Views.{shown-append}

-- ---- where parts end

module _ (count rows : ℕ) (some : 0 < count) where
  pub cut_none : cut_at count rows 0 ≡ 0
  cut_none = let nothing : 0 * rows ≡ 0 = omega arith in rw nothing (zero-div count)

  pub cut_all : cut_at count rows count ≡ rows
  cut_all = mul-div_cancel_left rows some

  pub cut_rises : (a b : ℕ) → a ≤ b → cut_at count rows a ≤ cut_at count rows b
  cut_rises a b l =
      let low = div-mul-le_self (a * rows) count in
      let grows = mul-le a rows b rows l (omega arith) in
      le-div (a * rows / count) (b * rows) count some (omega (arith, low, grows))

  pub cut_within : (a : ℕ) → a ≤ count → cut_at count rows a ≤ rows
  cut_within a l = let rises = cut_rises a count l in omega (arith, rises, cut_all)

-- ---- a list in two parts

module _ {X : Type 0} (xs : List X) (a b : ℕ) (rise : a ≤ b) where
  pub front_and_part : take b xs ≡ take a xs ++ slice_range xs a b
  front_and_part =
      let whole : b ≡ a + (b - a) = omega (arith, rise) in
      ap (λ (n : ℕ). take n xs) whole ∙ take-add a (b - a) xs

-- ---- the texts of the parts

module _ (app : Application) (view : View) (rows : List Row) (count : ℕ) (some : 0 < count) where
  abbrev text_of : Shard → List ℕ
  text_of shard = shown_rows app view (first_of shard (length rows)) (part_of shard rows)

  front_texts : (n : ℕ) → n ≤ count
      → flat_map text_of (first_shards count n) ≡ shown_rows app view 0 (take (cut_at count (length rows) n) rows)
  front_texts zero l = ap (λ (n : ℕ). shown_rows app view 0 (take n rows)) (sym (cut_none count (length rows) some))
  front_texts (suc n) l =
      let a = cut_at count (length rows) n in
      let b = cut_at count (length rows) (suc n) in
      let last : Shard = record { number = suc n; count = count } in
      let before : suc n - 1 ≡ n = omega arith in
      let rise = cut_rises count (length rows) some n (suc n) (omega arith) in
      let within = cut_within count (length rows) some n (omega (arith, l)) in
      let long : 0 + length (take a rows) ≡ a = omega (arith, length-take-le a rows within) in
      let its_first : first_of last (length rows) ≡ a = ap (λ (m : ℕ). cut_at count (length rows) m) before in
      let its_text : text_of last ≡ shown_rows app view a (slice_range rows a b) =
      ap (λ (m : ℕ). shown_rows app view m (slice_range rows m b)) its_first in
      flat_map-append text_of (first_shards count n) (last ∷ [])
      ∙ ap₂ (λ (t u : List ℕ). t ++ u) (front_texts n (omega (arith, l))) (append-nil (text_of last) ∙ its_text)
      ∙ sym
      (ap (shown_rows app view 0) (front_and_part rows a b rise) ∙ shown-append app view 0 (take a rows) (slice_range rows a b)
      ∙ ap (λ (m : ℕ). shown_rows app view 0 (take a rows) ++ shown_rows app view m (slice_range rows a b)) long)

  pub texts_join : flat_map text_of (shards count) ≡ shown_rows app view 0 rows
  texts_join =
      front_texts count (omega arith) ∙ ap (λ (n : ℕ). shown_rows app view 0 (take n rows)) (cut_all count (length rows) some)
      ∙ ap (shown_rows app view 0) (take-length rows)

-- ---- their totals

-- a number of each list; that of two lists, one behind the other, is the sum of theirs
module _ (f : List Row → ℕ) (none : f [] ≡ 0) (both : (xs ys : List Row) → f (xs ++ ys) ≡ f xs + f ys)
    (rows : List Row) (count : ℕ) (some : 0 < count) where
  front_numbers : (n : ℕ) → n ≤ count
      → sum (map (λ (shard : Shard). f (part_of shard rows)) (first_shards count n)) ≡ f (take (cut_at count (length rows) n) rows)
  front_numbers zero l = sym (ap (λ (n : ℕ). f (take n rows)) (cut_none count (length rows) some) ∙ none)
  front_numbers (suc n) l =
      let a = cut_at count (length rows) n in
      let b = cut_at count (length rows) (suc n) in
      let last : Shard = record { number = suc n; count = count } in
      let before : suc n - 1 ≡ n = omega arith in
      let rise = cut_rises count (length rows) some n (suc n) (omega arith) in
      let number : Shard → ℕ = λ shard. f (part_of shard rows) in
      let its_part : part_of last rows ≡ slice_range rows a b =
      ap (λ (m : ℕ). slice_range rows (cut_at count (length rows) m) b) before in
      let split =
      ap sum (map-append number (first_shards count n) (last ∷ []))
      ∙ sum_by-append (λ (x : ℕ). x) (map number (first_shards count n)) (number last ∷ []) in
      let whole = ap f (front_and_part rows a b rise) ∙ both (take a rows) (slice_range rows a b) in
      omega (arith, split, front_numbers n (omega (arith, l)), ap f its_part, whole)

  pub numbers_join : sum (map (λ (shard : Shard). f (part_of shard rows)) (shards count)) ≡ f rows
  numbers_join =
      front_numbers count (omega arith)
      ∙ ap (λ (n : ℕ). f (take n rows)) (cut_all count (length rows) some) ∙ ap f (take-length rows)

one_more : {X : Type 0} (b : Bool) (x : X) (ws bs cs : List X) → length ws ≡ length bs + length cs
    → length (cond b (x ∷ ws) ws) ≡ length (cond b (x ∷ bs) bs) + length cs
one_more true x ws bs cs h = omega (arith, h)
one_more false x ws bs cs h = h

passed-append : {X : Type 0} (p : X → Bool) (xs ys : List X)
    → length (filter p (xs ++ ys)) ≡ length (filter p xs) + length (filter p ys)
passed-append p [] ys = omega arith
passed-append p (x ∷ xs) ys = one_more (p x) x (filter p (xs ++ ys)) (filter p xs) (filter p ys) (passed-append p xs ys)

module _ (rows : List Row) (count : ℕ) (some : 0 < count) where
  abbrev totals : List Totals
  totals = map (λ (shard : Shard). totals_of (part_of shard rows)) (shards count)

  -- those of one kind
  kind_join : (kind : Totals → ℕ) → kind (totals_of []) ≡ 0
      → ((xs ys : List Row) → kind (totals_of (xs ++ ys)) ≡ kind (totals_of xs) + kind (totals_of ys))
      → sum (map kind totals) ≡ kind (totals_of rows)
  kind_join kind none both =
      ap sum (map-map kind (λ (shard : Shard). totals_of (part_of shard rows)) (shards count))
      ∙ numbers_join (λ (rs : List Row). kind (totals_of rs)) none both rows count some

  passed_join : (kind : Totals → ℕ) (p : Row → Bool) → ((xs : List Row) → kind (totals_of xs) ≡ length (filter p xs))
      → sum (map kind totals) ≡ kind (totals_of rows)
  passed_join kind p is =
      kind_join kind (is []) (λ xs ys. is (xs ++ ys) ∙ passed-append p xs ys ∙ sym (ap₂ (λ (a b : ℕ). a + b) (is xs) (is ys)))

  pub totals_join : added totals ≡ totals_of rows
  totals_join =
      let all = kind_join (λ (t : Totals). t.rows) refl (λ xs ys. length-append xs ys) in
      let pass = passed_join (λ (t : Totals). t.pass) (λ row. is_pass row.run.end) (λ xs. refl) in
      let check = passed_join (λ (t : Totals). t.check) (λ row. is_check row.run.end) (λ xs. refl) in
      let misuse = passed_join (λ (t : Totals). t.misuse) (λ row. is_misuse row.run.end) (λ xs. refl) in
      let ticks = passed_join (λ (t : Totals). t.ticks) (λ row. is_ticks row.run.end) (λ xs. refl) in
      let steps = passed_join (λ (t : Totals). t.steps) (λ row. is_steps row.run.end) (λ xs. refl) in
      let stuck = passed_join (λ (t : Totals). t.stuck) (λ row. is_stuck_end row.run.end) (λ xs. refl) in
      let missed = passed_join (λ (t : Totals). t.not_reached) (λ row. not row.reached) (λ xs. refl) in
      rw (all, pass, check, misuse, ticks, steps, stuck, missed) refl

-- ---- one part, and rows of points

pub undivided_part : {X : Type 0} (xs : List X) → part_of undivided xs ≡ xs
undivided_part xs =
    let from = cut_none 1 (length xs) (omega arith) in
    let to = cut_all 1 (length xs) (omega arith) in
    let all : length xs - 0 ≡ length xs = omega arith in
    ap₂ (λ (a b : ℕ). slice_range xs a b) from to ∙ ap (λ (n : ℕ). take n xs) all ∙ take-length xs

module _ {X : Type 0} (P : X → Type 0) where
  all_taken : (n : ℕ) (xs : List X) → AllByRecursion P xs → AllByRecursion P (take n xs)
  all_taken zero xs h = tt
  all_taken (suc n) [] h = tt
  all_taken (suc n) (x ∷ xs) h = (h.0, all_taken n xs h.1)

  all_left : (n : ℕ) (xs : List X) → AllByRecursion P xs → AllByRecursion P (drop n xs)
  all_left zero xs h = h
  all_left (suc n) [] h = tt
  all_left (suc n) (x ∷ xs) h = all_left n xs h.1

pub rows_of_part : (app : Application) (limits : Limits) (points : List (List Injection)) (rows : List Row) (shard : Shard)
    → AreRows app limits points rows
    → AreRows app limits (part_of shard points) (part_of shard rows)
rows_of_part app limits points rows shard are =
    let point : Row → List Injection = λ row. row.point in
    let same : length rows ≡ length points = sym (length-map rows point) ∙ ap length are.one_each in
    let from = first_of shard (length rows) in
    let to = next_of shard (length rows) in
    record {
      one_each =
          sym (take-map point (to - from) (drop from rows))
          ∙ ap (take (to - from)) (sym (drop-map point from rows) ∙ ap (drop from) are.one_each)
          ∙ ap (λ (n : ℕ). slice_range points (first_of shard n) (next_of shard n)) same;
      each = all_taken _ (to - from) (drop from rows) (all_left _ from rows are.each);
    }
