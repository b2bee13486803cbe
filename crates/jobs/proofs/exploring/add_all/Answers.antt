use Rattle.std.proofs.Common.{◌≡◌, ◌∙◌, ◌++◌, List, ap, subst}
use Rattle.std.specs.List.{flat_map}
use Rattle.byte_io.specs.Bytes.{Sent, SentFront}
use Rattle.byte_io.proofs.Sending.{Adds_failed, SentFront_item, Sent_item}
use Rattle.model.specs.declared.plan.Injection.{Injection}
use Rattle.model.specs.declared.run.Ending.{Ending}
use Rattle.model.specs.Placements.{Found}
use Rattle.report.specs.Found.{found_of, found_text}
use Rattle.jobs.proofs.exploring.add_all.Goals as goal

pub returns-in_err-add_found-clause-text : goal.returns-in_err-add_found-clause-text
returns-in_err-add_found-clause-text g c =
    let ending : Ending = record { steps = c.one.inside.steps; ticks = c.one.inside.ticks; end = c.one.inside.end } in
    let same : found_of c.one.inside.number c.as_slice.result.now ending ≡ c.one-item.result =
    ap (λ (least : List Injection). found_of c.one.inside.number least ending) c.as_slice.ensures.value ∙ c.one.view_is in
    Adds_failed _ _ c.args.page.now _ (flat_map (found_text c.args.app.now) c.args.found.now) _ c.from_residual.ensures.0
    (SentFront_item (found_text c.args.app.now) c.args.found.now c.loop-one.one-index _ _ _ _ _ _ c.loop-one.page
    c.loop-one-test.true c.one-item.is c.loop-one.invariant.sent
    (subst (λ (f : Found). SentFront (g.W.Sink.held c.loop-one.writer) (g.W.Sink.held c.add_found.new.writer)
    (c.loop-one.page ++ found_text c.args.app.now f)) same c.in_err-add_found.ensures.text))

pub loop-one-preserved : goal.loop-one-preserved
loop-one-preserved g c =
    let ending : Ending = record { steps = c.one.inside.steps; ticks = c.one.inside.ticks; end = c.one.inside.end } in
    let same : found_of c.one.inside.number c.as_slice.result.now ending ≡ c.one-item.result =
    ap (λ (least : List Injection). found_of c.one.inside.number least ending) c.as_slice.ensures.value ∙ c.one.view_is in
    record {
      sent = Sent_item (found_text c.args.app.now) c.args.found.now c.loop-one.one-index _ _ _ _ _ _ c.loop-one.page _
          c.loop-one-test.true c.one-item.is c.loop-one.invariant.sent
          (subst (λ (f : Found). Sent (g.W.Sink.held c.loop-one.writer) (g.W.Sink.held c.add_found.new.writer)
          (c.loop-one.page ++ found_text c.args.app.now f) c.add_found.new.page) same c.in_ok-add_found.ensures.text);
      working = c.in_ok-add_found.ensures.failed;
    }
