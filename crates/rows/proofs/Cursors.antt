-- A cursor that goes over rows.
use Rattle.std.specs.List.{flat_map}
use Rattle.std.proofs.Common.{◌≡◌, ◌<◌, ◌≤◌, ◌+◌, ◌-◌, ℕ, zero, suc, List, [], ◌∷◌, ◌++◌, length, map, take, drop, slice_index_or}
use Rattle.std.proofs.Common.{refl, sym, ap, ◌∙◌, length-append, arith}
use Rattle.std.proofs.lemmas.List.{drop_all, drop_at, drop_more, drop-drop, drop-append-le, drop-map, drop-take, length-drop}
use Rattle.std.proofs.lemmas.List.{take-append-le, take-map, take-take}
use Rattle.model.specs.Campaign.{Row}
use Rattle.rows.specs.declared.campaign_report.Rows.{Rows}
use Rattle.rows.specs.declared.cursor.Cursor.{Cursor}
use Rattle.rows.specs.declared.rows.Place.{Place}
use Rattle.rows.specs.Report.{row_of, rows_at, store_of, whole, IsPlace, IsSound}
use Rattle.rows.specs.Pieces.{some_of, IsAt}
use Rattle.rows.proofs.Placed.{each_at}
use Rattle.rows.proofs.Totalling.{length_at, rows_there}

-- ---- lists

-- Where the lists behind a place have something, there is a place.
in_lists : {X A : Type 0} (f : X → List A) (xs : List X) (n row : ℕ)
    → 0 < length (drop row (flat_map f (drop n xs))) → n < length xs
in_lists f [] n row l =
    let none : drop row (flat_map f (drop n [])) ≡ [] =
    ap (λ ys. drop row (flat_map f ys)) (drop_all n [] (omega arith)) ∙ drop_all row [] (omega arith) in
    let long = ap length none in
    absurd (omega arith)
in_lists f (x ∷ xs) zero row l = omega arith
in_lists f (x ∷ xs) (suc n) row l = let rest = in_lists f xs n row l in omega arith

-- the list of a place, and those behind it
lists_from : {X A : Type 0} (f : X → List A) (xs : List X) (n : ℕ) (x : X) → n < length xs → x ≡ slice_index_or xs n x
    → flat_map f (drop n xs) ≡ f x ++ flat_map f (drop (n + 1) xs)
lists_from f xs n x l is = ap (flat_map f) (drop_more xs n x l ∙ ap (λ y. y ∷ drop (n + 1) xs) (sym is))

-- past the first list
past_first : {A : Type 0} (xs ys : List A) (n : ℕ) → length xs ≤ n → drop n (xs ++ ys) ≡ drop (n - length xs) ys
past_first xs ys n l =
    let split : n ≡ length xs + (n - length xs) = omega arith in
    ap (λ k. drop k (xs ++ ys)) split ∙ sym (drop-drop (n - length xs) (length xs) (xs ++ ys))
    ∙ ap (drop (n - length xs)) (drop_at xs ys (length xs) refl)

-- some of the first list
of_first : {A : Type 0} (xs ys : List A) (n count : ℕ) → n + count ≤ length xs
    → take count (drop n (xs ++ ys)) ≡ take count (drop n xs)
of_first xs ys n count l =
    let long = length-drop n xs in
    ap (take count) (drop-append-le n xs ys (omega arith)) ∙ take-append-le count (drop n xs) ys (omega arith)

-- some of some
some_of_some : {A B : Type 0} (f : A → B) (xs : List A) (first total n count : ℕ) → n + count ≤ total
    → take count (drop n (map f (take total (drop first xs)))) ≡ map f (take count (drop (first + n) xs))
some_of_some f xs first total n count l =
    let ys = drop first xs in
    let split : total ≡ n + (total - n) = omega arith in
    ap (take count)
    (drop-map f n (take total ys) ∙ ap (λ k. map f (drop n (take k ys))) split ∙ ap (map f) (drop-take n (total - n) ys))
    ∙ take-map f count (take (total - n) (drop n ys))
    ∙ ap (map f) (take-take count (total - n) (drop n ys) (omega arith) ∙ ap (take count) (drop-drop n first xs))

-- ---- the cursor

module _ (rows : Rows) (cursor : Cursor) (at : IsAt rows cursor) where
  -- a row is left, so there is a place
  pub in_places : cursor.number < length (whole rows) → cursor.place < length rows.places.items
  in_places more =
      let long = ap length at.behind in
      let left = length-drop cursor.number (whole rows) in
      in_lists (rows_at rows.base rows.parts.items) rows.places.items cursor.place cursor.row (omega arith)

  module _ (sound : IsSound rows) (place : Place) (l : cursor.place < length rows.places.items)
      (is : place ≡ slice_index_or rows.places.items cursor.place place) where
    abbrev f : Place → List Row
    f = rows_at rows.base rows.parts.items

    pub its_place : IsPlace rows.parts.items place
    its_place = each_at (IsPlace rows.parts.items) rows.places.items cursor.place place sound.placed l is

    its_count : length (f place) ≡ place.count
    its_count = length_at rows.base rows.parts.items place its_place

    behind_both : drop cursor.number (whole rows)
        ≡ drop cursor.row (f place ++ flat_map f (drop (cursor.place + 1) rows.places.items))
    behind_both = at.behind ∙ ap (drop cursor.row) (lists_from f rows.places.items cursor.place place l is)

    -- the place is left
    pub left_at : place.count ≤ cursor.row
        → IsAt rows (record { number = cursor.number; place = cursor.place + 1; row = cursor.row - place.count })
    left_at ended = record {
      within = at.within;
      behind =
          behind_both
          ∙ past_first (f place) (flat_map f (drop (cursor.place + 1) rows.places.items)) cursor.row (omega (arith, its_count))
          ∙ ap (λ n. drop (cursor.row - n) (flat_map f (drop (cursor.place + 1) rows.places.items))) its_count;
    }

    module _ (count : ℕ) (some : cursor.row + count ≤ place.count) where
      pub enough : cursor.number + count ≤ length (whole rows)
      enough =
          let long = ap length behind_both in
          let left = length-drop cursor.number (whole rows) in
          let both = length-append (f place) (flat_map f (drop (cursor.place + 1) rows.places.items)) in
          let rest = length-drop cursor.row (f place ++ flat_map f (drop (cursor.place + 1) rows.places.items)) in
          let within = at.within in
          omega (arith, its_count)

      -- some rows of the place are gone over
      pub over_at : IsAt rows (record { number = cursor.number + count; place = cursor.place; row = cursor.row + count })
      over_at = record {
        within = enough;
        behind =
            sym (drop-drop count cursor.number (whole rows)) ∙ ap (drop count) at.behind
            ∙ drop-drop count cursor.row (flat_map f (drop cursor.place rows.places.items));
      }

      pub over_place : IsPlace rows.parts.items (record { part = place.part; first = place.first + cursor.row; count = count })
      over_place =
          let within = its_place.within in
          record { part = its_place.part; at_part = its_place.at_part; within = omega arith }

      pub over_rows : f (record { part = place.part; first = place.first + cursor.row; count = count })
          ≡ some_of (whole rows) cursor.number count
      over_rows =
          let part = its_place.part in
          let row = row_of rows.base (store_of part) in
          let them = rows_there rows.base rows.parts.items place part its_place.at_part in
          let some_them =
          rows_there rows.base rows.parts.items
          (record { part = place.part; first = place.first + cursor.row; count = count }) part its_place.at_part in
          some_them ∙ sym (some_of_some row part.kept place.first place.count cursor.row count some)
          ∙ ap (λ (rs : List Row). take count (drop cursor.row rs)) (sym them)
          ∙ sym (of_first (f place) (flat_map f (drop (cursor.place + 1) rows.places.items))
          cursor.row count (omega (arith, its_count)))
          ∙ ap (take count) (sym behind_both)
