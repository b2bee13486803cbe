use Rattle.std.proofs.Common.{[]}
use Rattle.std.specs.List.{flat_map}
use Rattle.explorer.specs.Totals.{placements_in}
use Rattle.byte_io.proofs.Sending.{SentFront_two, Sent_two, Writes_then}
use Rattle.report.specs.Found.{found_text, placements_total_text}
use Rattle.report.proofs.EndStates.{Writes_stopped}
use Rattle.jobs.proofs.Explorations.{Writes_front}
use Rattle.jobs.proofs.exploring.write_found.Goals as goal

pub returns-in_err-add_all-clause-text : goal.returns-in_err-add_all-clause-text
returns-in_err-add_all-clause-text g c =
    Writes_stopped _ _ _ _ _ c.from_residual.ensures.0 (rw c.new-page.ensures at c.in_err-add_all.ensures.text)

pub returns-in_err-add_placements_total-clause-text : goal.returns-in_err-add_placements_total-clause-text
returns-in_err-add_placements_total-clause-text g c =
    let lines = flat_map (found_text c.args.app.now) c.args.found.now in
    let total = placements_total_text (placements_in c.args.found.now) in
    let added = rw c.new-page.ensures at c.in_ok-add_all.ensures.text in
    Writes_front _ _ _ _ c.from_residual-in_err-add_placements_total.ensures.0
    (SentFront_two _ _ _ [] lines _ total added (rw c.placements_in.ensures at c.in_err-add_placements_total.ensures.text))

pub returns-clause-text : goal.returns-clause-text
returns-clause-text g c =
    let lines = flat_map (found_text c.args.app.now) c.args.found.now in
    let total = placements_total_text (placements_in c.args.found.now) in
    let added = rw c.new-page.ensures at c.in_ok-add_all.ensures.text in
    Writes_then _ _ _ _ _ _
    (Sent_two _ _ _ [] lines _ total _ added (rw c.placements_in.ensures at c.in_ok-add_placements_total.ensures.text))
    c.flush.ensures.text
