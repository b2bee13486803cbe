-- There is one list of rows of some points, as far as a view shows them.
use Rattle.std.proofs.Common.{◌≡◌, List, [], ◌∷◌, map, Bool, refl, ap, sym, subst, ◌∙◌}
use Rattle.std.specs.List.{AllByRecursion}
use Rattle.model.specs.declared.plan.Injection.{Injection}
use Rattle.model.specs.Application.{Application, Limits}
use Rattle.model.specs.Run.{Run, IsRow}
use Rattle.model.specs.Campaign.{Row}
use Rattle.model.proofs.OneRun.{one_row}
use Rattle.report.specs.Views.{shows_events}
use Rattle.report.specs.declared.view.View.{View}
use Rattle.campaign.specs.Seen.{AreSeen, IsSeen, seen}
use Rattle.campaign.proofs.Seeing.{same_point}

-- rows by their parts
same_row : (app : Application) (limits : Limits) (a b : Row) → a.point ≡ b.point
    → IsRow app limits a.point a.reached a.run → IsRow app limits b.point b.reached b.run → a ≡ b
same_row app limits a b point h k =
    let j = subst (λ (p : List Injection). IsRow app limits p a.reached a.run) point h in
    let same = one_row app limits b.point a.reached b.reached a.run b.run j k in
    ap (λ (p : List Injection). record a { point = p }) point
    ∙ ap (λ (r : Bool). record a { point = b.point; reached = r }) same.0
    ∙ ap (λ (r : Run). record b { run = r }) same.1

module _ (app : Application) (limits : Limits) (view : View) where
  whole_point : (row : Row) → (is : IsSeen app limits view row) → is.whole.point ≡ row.point
  whole_point row is = sym (ap (λ (r : Row). r.point) is.is ∙ same_point (shows_events view is.whole.run.end) is.whole)

  same_seen : (a b : Row) → a.point ≡ b.point → IsSeen app limits view a → IsSeen app limits view b → a ≡ b
  same_seen a b point h k =
      let whole : h.whole ≡ k.whole =
      same_row app limits h.whole k.whole (whole_point a h ∙ point ∙ sym (whole_point b k)) h.is_row k.is_row in
      h.is ∙ ap (seen view) whole ∙ sym k.is

  rows_by_points : (rows others : List Row) → map (λ (row : Row). row.point) rows ≡ map (λ (row : Row). row.point) others
      → AllByRecursion (IsSeen app limits view) rows → AllByRecursion (IsSeen app limits view) others → rows ≡ others
  rows_by_points [] [] e h k = refl
  rows_by_points [] (b ∷ bs) e h k = absurd (cc)
  rows_by_points (a ∷ xs) [] e h k = absurd (cc)
  rows_by_points (a ∷ xs) (b ∷ bs) e h k =
      let point : a.point ≡ b.point = cc in
      let rest : map (λ (row : Row). row.point) xs ≡ map (λ (row : Row). row.point) bs = cc in
      let first : a ≡ b = same_seen a b point h.0 k.0 in
      let then : xs ≡ bs = rows_by_points xs bs rest h.1 k.1 in
      cc

  pub one_list : (points : List (List Injection)) (rows others : List Row)
      → AreSeen app limits view points rows → AreSeen app limits view points others → rows ≡ others
  one_list points rows others h k = rows_by_points rows others (h.one_each ∙ sym k.one_each) h.each k.each
