use Rattle.std.specs.List.{flat_map}
use Rattle.std.proofs.Common.{◌<◌, ◌∙◌, ap, arith, drop, length, refl}
use Rattle.std.proofs.lemmas.Option.{slice_get_within}
use Rattle.std.proofs.lemmas.Result.{MatchResult-from_err}
use Rattle.byte_io.proofs.Sending.{Sent_none}
use Rattle.report.specs.Text.{event_text}
use Rattle.rows.specs.Links.{linked_events}
use Rattle.rows.specs.Report.{store_of}
use Rattle.rows.proofs.LegByLeg.{last_sent, leg_sent, leg_stopped}
use Rattle.rows.proofs.rendering.writing.add_linked_events.Goals as goal

pub legs-init : goal.legs-init
legs-init g c = record {
  app = refl;
  there = c.requires.link;
  sent = Sent_none _ _;
  working = c.requires.working;
}

pub leg_at-leg-requires : goal.leg_at-leg-requires
leg_at-leg-requires g c =
    let there = rw c.in-Leg.is at c.legs.invariant.there in
    let low : c.in-Leg.number < length c.args.events.now.part.now.legs.items =
    slice_get_within c.args.events.now.part.now.legs.items c.in-Leg.number there.0 there.1 in
    let same = ap length c.deref.ensures.value in
    omega arith

pub legs-preserved : goal.legs-preserved
legs-preserved g c =
    let i = c.legs.invariant in
    let store = store_of c.args.events.now.part.now in
    let leg = c.leg_at-leg.result in
    let at = rw c.deref.ensures.value at c.leg_at-leg.ensures in
    let sent = rw c.in-Leg.is at i.sent in
    let added = rw i.app at c.in_ok-add_leg-in-Leg.ensures.text in
    record {
      app = c.in_ok-add_leg-in-Leg.ensures.app ∙ i.app;
      there = (c.requires.events.legs c.in-Leg.number leg at).next;
      sent =
          leg_sent c.args.text.now.app c.args.events.now.base.now.events store c.requires.events.legs
          c.in-Leg.number c.in-Leg.from leg at _ _ _ _ _ sent _ added;
      working = c.in_ok-add_leg-in-Leg.ensures.failed;
    }

pub returns-in_err-add_leg-in-Leg-clause-text : goal.returns-in_err-add_leg-in-Leg-clause-text
returns-in_err-add_leg-in-Leg-clause-text g c =
    let i = c.legs.invariant in
    let store = store_of c.args.events.now.part.now in
    let leg = c.leg_at-leg.result in
    let at = rw c.deref.ensures.value at c.leg_at-leg.ensures in
    let sent = rw c.in-Leg.is at i.sent in
    let added = rw i.app at c.in_err-add_leg-in-Leg.ensures.text in
    MatchResult-from_err c.from_residual.result _ _ c.from_residual.ensures.0
    (λ y.
    leg_stopped c.args.text.now.app c.args.events.now.base.now.events store c.requires.events.legs
    c.in-Leg.number c.in-Leg.from leg at _ _ _ _ _ sent added)

pub returns-in-Base-clause-text : goal.returns-in-Base-clause-text
returns-in-Base-clause-text g c =
    let i = c.legs.invariant in
    let f = event_text c.args.text.now.app in
    let base = c.args.events.now.base.now.events in
    let all = flat_map f (linked_events base (store_of c.args.events.now.part.now) c.args.first) in
    let sent = rw c.in-Base.is at i.sent in
    let added = rw (i.app, c.requires.events.base_is) at c.add_base_from.ensures.text in
    last_sent _ _ _ c.args.text.now.page all c.legs.text.page (flat_map f (drop c.in-Base.from base)) _ _ sent added
