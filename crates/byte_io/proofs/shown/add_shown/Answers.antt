use Rattle.std.proofs.Common.{length}
use Rattle.std.proofs.lemmas.Iterator.{YieldsList-from_chars}
use Rattle.std.proofs.lemmas.Iterator.Consumers.{YieldsList-turn, YieldsList-end}
use Rattle.std.proofs.lemmas.List.{length_push}
use Rattle.std.specs.Str.{chars}
use Rattle.std.specs.List.{flat_map}
use Rattle.byte_io.specs.Shown.{shown_char}
use Rattle.byte_io.proofs.Sending.{Sent_item, SentFront_item, Sent_rest, Adds_failed}
use Rattle.byte_io.proofs.shown.add_shown.Goals as goal

pub loop-c-preserved : goal.loop-c-preserved
loop-c-preserved g c =
    let t =
    YieldsList-turn (YieldsList-from_chars c.args.text.now c.utf8.text cc) c.loop-c.yielded
    _ c.loop-c.yielded_by _ _ c.in-Some.c c.in-Some.is c.next.ensures.steps in
    record {
      sent =
          rw (length_push c.loop-c.yielded c.in-Some.c) (Sent_item (shown_char c.args.lines)
          (chars c.args.text.now) (length c.loop-c.yielded) c.in-Some.c c.in-Some.c _ _ _ _ c.loop-c.page _
          t.0 t.1 c.loop-c.invariant.sent c.in_ok-add_char.ensures.text);
      working = c.in_ok-add_char.ensures.failed;
    }

pub returns-in_err-add_char-clause-text : goal.returns-in_err-add_char-clause-text
returns-in_err-add_char-clause-text g c =
    let t =
    YieldsList-turn (YieldsList-from_chars c.args.text.now c.utf8.text cc) c.loop-c.yielded
    _ c.loop-c.yielded_by _ _ c.in-Some.c c.in-Some.is c.next.ensures.steps in
    Adds_failed _ _ c.args.page.now _ (flat_map (shown_char c.args.lines) (chars c.args.text.now)) _ c.from_residual.ensures.0
    (SentFront_item (shown_char c.args.lines) (chars c.args.text.now)
    (length c.loop-c.yielded) c.in-Some.c c.in-Some.c _ _ _ _ c.loop-c.page
    t.0 t.1 c.loop-c.invariant.sent c.in_err-add_char.ensures.text)

pub returns-clause-text : goal.returns-clause-text
returns-clause-text g c =
    let t =
    YieldsList-end (YieldsList-from_chars c.args.text.now c.utf8.text cc)
    c.loop-c.yielded _ c.loop-c.yielded_by _ _ c.in-None.is c.next.ensures.steps in
    Sent_rest (shown_char c.args.lines) (chars c.args.text.now)
    (length c.loop-c.yielded) _ _ _ c.loop-c.page t.1 c.loop-c.invariant.sent
