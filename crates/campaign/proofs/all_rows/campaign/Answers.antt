use Rattle.std.proofs.Common.{List, ap, arith, length, refl, subst}
use Rattle.model.specs.Application.{Limits}
use Rattle.model.specs.Campaign.{AreRows}
use Rattle.model.specs.declared.plan.Injection.{Injection}
use Rattle.report.specs.declared.view.View.{View}
use Rattle.campaign.specs.Seen.{AreSeen}
use Rattle.campaign.proofs.Seeing.{plain_are_rows}
use Rattle.campaign.proofs.all_rows.campaign.Goals as goal

pub make_rows-requires-clause-seats : goal.make_rows-requires-clause-seats
make_rows-requires-clause-seats g c κs within =
    let many = c.requires.seats.0 in
    let workers = c.requires.workers in
    rw c.as_slice.ensures.value (record {
      some = omega (arith, many, workers.0, c.args.seats.ok);
      most = omega (arith, many, workers.1, c.args.seats.ok);
      ready = c.requires.seats.1;
    })

pub finish-requires : goal.finish-requires
finish-requires g c = record {
  made = (
    _,
    c.args.tally.now,
    c.args.seats.items,
    record {
      is_made = c.in_ok-made.ensures;
      same_view = refl;
      same_base = c.into_base.ensures;
      few = omega (arith, c.requires.few, ap length c.as_slice.ensures.value);
    },
  );
}

pub returns-clause-rows : goal.returns-clause-rows
returns-clause-rows g c =
    let app = c.args.app.now in
    let rows = c.finish.result.report.rows in
    let points = c.as_slice.result.now in
    let finished =
    c.finish.ensures.finished _ c.args.tally.now c.args.seats.items (record {
      is_made = c.in_ok-made.ensures;
      same_view = refl;
      same_base = c.into_base.ensures;
      few = omega (arith, c.requires.few, ap length c.as_slice.ensures.value);
    }) in
    let plainly =
    plain_are_rows app c.in_ok-shelf.shelf.limits points rows
    (subst (λ (v : View). AreSeen app c.in_ok-shelf.shelf.limits v points rows) c.plain-view.ensures finished.rows) in
    let limited = subst (λ (l : Limits). AreRows app l points rows) c.in_ok-shelf.ensures.limits plainly in
    subst (λ (ps : List (List Injection)). AreRows app c.args.limits ps rows) c.as_slice.ensures.value limited

pub returns-clause-back : goal.returns-clause-back
returns-clause-back g c =
    let finished =
    c.finish.ensures.finished _ c.args.tally.now c.args.seats.items (record {
      is_made = c.in_ok-made.ensures;
      same_view = refl;
      same_base = c.into_base.ensures;
      few = omega (arith, c.requires.few, ap length c.as_slice.ensures.value);
    }) in
    finished.back

pub returns-clause-rise : goal.returns-clause-rise
returns-clause-rise g c =
    let finished =
    c.finish.ensures.finished _ c.args.tally.now c.args.seats.items (record {
      is_made = c.in_ok-made.ensures;
      same_view = refl;
      same_base = c.into_base.ensures;
      few = omega (arith, c.requires.few, ap length c.as_slice.ensures.value);
    }) in
    finished.rise
