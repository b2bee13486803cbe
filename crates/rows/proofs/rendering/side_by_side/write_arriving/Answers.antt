use Rattle.std.proofs.Common.{◌≡◌, ◌<◌, [], length, slice_index_or, sym, subst, ◌∙◌, arith}
use Rattle.std.proofs.lemmas.Result.{MatchResult-from_err}
use Rattle.byte_io.proofs.Sending.{Sent_all, Sent_item, SentFront_item}
use Rattle.rows.specs.Pieces.{text_of}
use Rattle.rows.proofs.Inboxes.{go_further, same_producer}
use Rattle.rows.proofs.rendering.side_by_side.write_arriving.Goals as goal

pub returns-in_err-put-in-Some-take_from-clause-inboxes :
    goal.returns-in_err-put-in-Some-take_from-clause-inboxes
returns-in_err-put-in-Some-take_from-clause-inboxes g c =
    go_further _ _ _ c.loop.invariant.inboxes c.in-Some-take_from.ensures.inboxes

pub returns-in_err-put-in-Some-take_from-clause-text :
    goal.returns-in_err-put-in-Some-take_from-clause-text
returns-in_err-put-in-Some-take_from-clause-text g c h =
    let rendering = c.args.rendering.now in
    let texts = c.in-Some-take_from.ensures in
    let piece = c.index-piece.result.now in
    let is : piece ≡ slice_index_or rendering.pieces.items c.loop.number piece = c.index-piece.ensures in
    let there : piece ≡ slice_index_or rendering.pieces.items c.in-Some-take_from.arrived.text.number piece =
    subst (λ n. piece ≡ slice_index_or rendering.pieces.items n piece) (sym texts.number) is in
    let within : c.loop.number < length rendering.pieces.items = omega (arith, c.if-number-len.false, c.len.ensures) in
    let sent = c.in_err-put-in-Some-take_from.ensures.text (texts.right rendering h piece there) in
    MatchResult-from_err c.from_residual.result _ _ c.from_residual.ensures.0
    (λ y.
    SentFront_item (text_of rendering) rendering.pieces.items c.loop.number piece piece _ _
    _ _ [] within is (c.loop.invariant.sent (texts.inboxes.received rendering h)) sent)

pub loop-preserved-in-Some-take_from : goal.loop-preserved-in-Some-take_from
loop-preserved-in-Some-take_from g c =
    let rendering = c.args.rendering.now in
    let i = c.loop.invariant in
    let texts = c.in-Some-take_from.ensures in
    let put = c.in_ok-put-in-Some-take_from.ensures in
    let piece = c.index-piece.result.now in
    let is : piece ≡ slice_index_or rendering.pieces.items c.loop.number piece = c.index-piece.ensures in
    let there : piece ≡ slice_index_or rendering.pieces.items c.in-Some-take_from.arrived.text.number piece =
    subst (λ n. piece ≡ slice_index_or rendering.pieces.items n piece) (sym texts.number) is in
    let within : c.loop.number < length rendering.pieces.items = omega (arith, c.if-number-len.false, c.len.ensures) in
    record {
      few = omega (arith, within);
      ring = i.ring;
      handed = i.handed;
      inboxes = go_further _ _ _ (go_further _ _ _ i.inboxes texts.inboxes) c.give_back.ensures;
      app = put.app ∙ i.app;
      empty = put.empty;
      sent = λ h.
          let arrived = c.give_back.ensures.received rendering h in
          Sent_item (text_of rendering) rendering.pieces.items c.loop.number piece piece
          _ _ _ _ [] [] within is (i.sent (texts.inboxes.received rendering arrived))
          (Sent_all _ _ _ (put.text (texts.right rendering arrived piece there)));
      working = put.failed;
    }

pub loop-preserved : goal.loop-preserved
loop-preserved g c =
    let i = c.loop.invariant in
    let own = c.render_next-busy.ensures in
    record {
      few = i.few;
      ring = same_producer c.args.own.now.rendered c.loop.own.rendered c.render_next-busy.new.self.rendered i.ring own.ring;
      handed = λ h. own.sent (i.handed h);
      inboxes = go_further _ _ _ i.inboxes c.take_from.ensures.inboxes;
      app = own.app ∙ i.app;
      empty = own.empty;
      sent = λ h. i.sent (c.take_from.ensures.inboxes.received c.args.rendering.now h);
      working = i.working;
    }
