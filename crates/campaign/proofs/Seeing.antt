-- Rows as far as a view shows them are written and counted as the rows are.
use Rattle.std.specs.List.{AllByRecursion}
use Rattle.std.proofs.Common.{◌≡◌, ◌+◌, ◌&&◌, ℕ, Bool, true, false, cond, not, List, [], ◌∷◌, ◌++◌, filter, length, map, refl, sym}
use Rattle.std.proofs.Common.{subst, ap, ap₂, ◌∙◌, arith}
use Rattle.std.proofs.lemmas.List.{length-map}
use Rattle.model.specs.declared.event.End.{End}
use Rattle.model.specs.declared.event.End.TheVariants.{Pass, Check, HandlerCheck, Misuse, Ticks, Steps, Stuck}
use Rattle.model.specs.declared.plan.Injection.{Injection}
use Rattle.model.specs.Application.{Application, Limits}
use Rattle.model.specs.Campaign.{Row, AreRows, ended, is_pass, is_check, is_misuse, is_ticks, is_steps, is_stuck_end, totals_of}
use Rattle.report.specs.Text.{total_text}
use Rattle.report.specs.Views.{plain, report_text, shown_row, shown_rows, shows, shows_events, text_shown}
use Rattle.report.specs.declared.view.View.{View}
use Rattle.campaign.specs.Seen.{AreSeen, IsSeen, row_with, seen}

-- ---- one row

pub same_end : (events : Bool) (row : Row) → (row_with events row).run.end ≡ row.run.end
same_end true row = refl
same_end false row = refl

pub same_point : (events : Bool) (row : Row) → (row_with events row).point ≡ row.point
same_point true row = refl
same_point false row = refl

same_reached : (events : Bool) (row : Row) → (row_with events row).reached ≡ row.reached
same_reached true row = refl
same_reached false row = refl

-- Events that are not written make no difference to what is.
same_text : (app : Application) (number : ℕ) (shown heads : Bool) (row : Row)
    → text_shown shown heads app number (row_with (shown && not heads) row) ≡ text_shown shown heads app number row
same_text app number false heads row = refl
same_text app number true true row = refl
same_text app number true false row = refl

-- ---- several

module _ (view : View) where
  seen_row : (app : Application) (number : ℕ) (row : Row)
      → shown_row app view number (seen view row) ≡ shown_row app view number row
  seen_row app number row =
      ap (λ (end : End). text_shown (shows view end) view.heads app number (seen view row))
      (same_end (shows_events view row.run.end) row)
      ∙ same_text app number (shows view row.run.end) view.heads row

  seen_rows : (app : Application) (number : ℕ) (rows : List Row)
      → shown_rows app view number (map (seen view) rows) ≡ shown_rows app view number rows
  seen_rows app number [] = refl
  seen_rows app number (row ∷ rows) = ap₂ (λ (t u : List ℕ). t ++ u) (seen_row app number row) (seen_rows app (number + 1) rows)

  one_passed : (a b : Bool) → a ≡ b → (x y : Row) (xs ys : List Row)
      → length xs ≡ length ys → length (cond a (x ∷ xs) xs) ≡ length (cond b (y ∷ ys) ys)
  one_passed true true e x y xs ys h = omega (arith, h)
  one_passed true false e x y xs ys h = absurd (cc)
  one_passed false true e x y xs ys h = absurd (cc)
  one_passed false false e x y xs ys h = h

  same_passed : (p : Row → Bool) → ((row : Row) → p (seen view row) ≡ p row)
      → (rows : List Row) → length (filter p (map (seen view) rows)) ≡ length (filter p rows)
  same_passed p same [] = refl
  same_passed p same (row ∷ rows) =
      one_passed (p (seen view row)) (p row) (same row) (seen view row) row
      (filter p (map (seen view) rows)) (filter p rows) (same_passed p same rows)

  same_ended : (is : End → Bool) (rows : List Row) → ended is (map (seen view) rows) ≡ ended is rows
  same_ended is rows =
      same_passed (λ (row : Row). is row.run.end) (λ row. ap is (same_end (shows_events view row.run.end) row)) rows

  pub seen_totals : (rows : List Row) → totals_of (map (seen view) rows) ≡ totals_of rows
  seen_totals rows =
      let all = length-map rows (seen view) in
      let missed =
      same_passed (λ (row : Row). not row.reached) (λ row. ap not (same_reached (shows_events view row.run.end) row)) rows in
      rw (
        all,
        same_ended is_pass rows,
        same_ended is_check rows,
        same_ended is_misuse rows,
        same_ended is_ticks rows,
        same_ended is_steps rows,
        same_ended is_stuck_end rows,
        missed,
      )
      refl

  pub seen_text : (app : Application) (first : ℕ) (rows : List Row)
      → report_text app view first (map (seen view) rows) ≡ report_text app view first rows
  seen_text app first rows = ap₂ (λ (t u : List ℕ). t ++ u) (seen_rows app first rows) (ap total_text (seen_totals rows))

-- ---- the rows themselves

-- Rows that are seen so.
pub record AreOf (app : Application) (limits : Limits) (view : View)
    (points : List (List Injection)) (rows : List Row) : Type 0 where
  pub whole : List Row
  pub are_rows : AreRows app limits points whole
  pub as_seen : rows ≡ map (seen view) whole

module _ (app : Application) (limits : Limits) (view : View) where
  each_of : (rows : List Row) → AllByRecursion (IsSeen app limits view) rows
      → AreOf app limits view (map (λ (row : Row). row.point) rows) rows
  each_of [] each = record { whole = []; are_rows = record { one_each = refl; each = tt }; as_seen = refl }
  each_of (row ∷ rows) each =
      let others = each_of rows each.1 in
      let its = each.0.whole in
      let point : its.point ≡ row.point =
      sym (ap (λ (r : Row). r.point) each.0.is ∙ same_point (shows_events view its.run.end) its) in
      record {
        whole = its ∷ others.whole;
        are_rows = record {
          one_each = ap₂ (λ (p : List Injection) (ps : List (List Injection)). p ∷ ps) point others.are_rows.one_each;
          each = (each.0.is_row, others.are_rows.each);
        };
        as_seen = ap₂ (λ (r : Row) (rs : List Row). r ∷ rs) each.0.is others.as_seen;
      }

  pub rows_of_seen : (points : List (List Injection)) (rows : List Row)
      → AreSeen app limits view points rows → AreOf app limits view points rows
  rows_of_seen points rows are =
      subst (λ (ps : List (List Injection)). AreOf app limits view ps rows) are.one_each (each_of rows are.each)

-- In the plain view they are the rows.
plain_shows : (end : End) → shows_events plain end ≡ true
plain_shows Pass = refl
plain_shows (Check task op_index) = refl
plain_shows (HandlerCheck handler op_index) = refl
plain_shows (Misuse task op_index kind) = refl
plain_shows Ticks = refl
plain_shows Steps = refl
plain_shows Stuck = refl

plain_seen : (rows : List Row) → map (seen plain) rows ≡ rows
plain_seen [] = refl
plain_seen (row ∷ rows) =
    ap₂ (λ (r : Row) (rs : List Row). r ∷ rs)
    (ap (λ (events : Bool). row_with events row) (plain_shows row.run.end)) (plain_seen rows)

pub plain_are_rows : (app : Application) (limits : Limits) (points : List (List Injection)) (rows : List Row)
    → AreSeen app limits plain points rows → AreRows app limits points rows
plain_are_rows app limits points rows are =
    let of = rows_of_seen app limits plain points rows are in
    subst (λ (rs : List Row). AreRows app limits points rs) (sym (of.as_seen ∙ plain_seen of.whole)) of.are_rows
