use Rattle.std.specs.Prelude.{◌≡◌, ◌≤◌, length, slice_range}
use Rattle.std.proofs.Common.{◌∙◌, ap, arith, refl, rules}
use Rattle.std.proofs.lemmas.List.{length-replicate}
use Rattle.std.proofs.lemmas.Result.{err_from_is_err_and}
use Rattle.report.specs.Shards.{first_of, next_of, part_of}
use Rattle.model.specs.Scripts.{most_points}
use Rattle.campaign.proofs.Counters.{ready_seats}
use Rattle.campaign.proofs.Started.{expand_fault, app_rows, few_of_part}
use Rattle.campaign.proofs.bytes_to_report.report_of.Goals as goal

pub returns-in_err-points : goal.returns-in_err-points
returns-in_err-points g c =
    let p = err_from_is_err_and c.from_residual-in_err-points.result c.from_residual-in_err-points.ensures.1 in
    let own = c.in_ok-shelf.ensures.limits ∙ c.limits.ensures in
    rw (p.1, p.2) (expand_fault c.args.app.now c.in_ok-shelf.shelf c.base.result.now
    c.in_ok-shelf.ensures.shelf own c.base.ensures c.in_err-points.field-0.0 c.in_err-points.ensures.fault)

pub make_rows-requires-clause-seats : goal.make_rows-requires-clause-seats
make_rows-requires-clause-seats g c κs within =
    let many = ap length c.in-Ok.ensures.seats ∙ length-replicate _ _ in
    let points = c.in_ok-points.points.items in
    let most = c.in_ok-points.ensures.points.1 in
    let long : c.len.result ≡ length points = search rules in
    let long-2 : c.len-2.result ≡ length points = search rules in
    let few =
    few_of_part c.args.request.now.shard points c.deref.result.now c.len.result c.len-2.result
    c.first-first.result c.next.result long long-2 c.deref.ensures.value c.first-first.ensures.before
    c.next.ensures.next c.next.ensures.within in
    record {
      some = omega (arith, many, c.threads_of.ensures.some);
      most = omega (arith, many, c.threads_of.ensures.few);
      ready = ready_seats c.in-Ok.tally _ _ c.in-Ok.seats.items (omega (arith, few, most)) c.in-Ok.ensures.seats;
    }

pub finish-finished-requires : goal.finish-finished-requires
finish-finished-requires g c =
    let points = c.in_ok-points.points.items in
    let most = c.in_ok-points.ensures.points.1 in
    let long : c.len.result ≡ length points = search rules in
    let long-2 : c.len-2.result ≡ length points = search rules in
    let few =
    few_of_part c.args.request.now.shard points c.deref.result.now c.len.result c.len-2.result
    c.first-first.result c.next.result long long-2 c.deref.ensures.value c.first-first.ensures.before
    c.next.ensures.next c.next.ensures.within in
    record {
      made = (
        _,
        c.in-Ok.tally,
        c.in-Ok.seats.items,
        record {
          is_made = c.in_ok-made.ensures;
          same_view = refl;
          same_base = c.into_base.ensures;
          few = omega (arith, few, most);
        },
      );
    }

pub returns : goal.returns
returns g c =
    let shard = c.args.request.now.shard in
    let own = c.in_ok-shelf.ensures.limits ∙ c.limits.ensures in
    let points = c.in_ok-points.points.items in
    let its = c.in_ok-points.ensures.points.0 in
    let few : length points ≤ most_points = c.in_ok-points.ensures.points.1 in
    let long : c.len.result ≡ length points = search rules in
    let long-2 : c.len-2.result ≡ length points = search rules in
    let from : c.first-first.result ≡ first_of shard (length points) = c.first-first.ensures.first ∙ ap (first_of shard) long in
    let to : c.next.result ≡ next_of shard (length points) = c.next.ensures.next ∙ ap (next_of shard) long-2 in
    let part : slice_range c.deref.result.now c.first-first.result c.next.result ≡ part_of shard points =
    rw (c.deref.ensures.value, from, to) refl in
    let within =
    few_of_part shard points c.deref.result.now c.len.result c.len-2.result
    c.first-first.result c.next.result long long-2 c.deref.ensures.value c.first-first.ensures.before
    c.next.ensures.next c.next.ensures.within in
    let finished =
    c.finish-finished.ensures.finished _ c.in-Ok.tally c.in-Ok.seats.items (record {
      is_made = c.in_ok-made.ensures;
      same_view = refl;
      same_base = c.into_base.ensures;
      few = omega (arith, within, few);
    }) in
    app_rows c.args.app.now c.in_ok-shelf.shelf c.base.result.now c.in_ok-shelf.ensures.shelf
    own c.base.ensures c.args.request.now.view shard points _ c.finish-finished.result.report its few part
    c.finish-finished.ensures.view (c.finish-finished.ensures.first ∙ from) finished.rows
