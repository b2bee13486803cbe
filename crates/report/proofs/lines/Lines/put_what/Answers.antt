use Rattle.std.proofs.Common.{◌≡◌, ◌++◌, ◌∙◌, ℕ, List, take, ap, sym, append_assoc, refl}
use Rattle.std.specs.Prelude.{codes, decimal}
use Rattle.model.specs.declared.event.What.{What}
use Rattle.model.specs.declared.event.What.TheVariants as what
use Rattle.model.specs.Application.{Application}
use Rattle.report.specs.Text.{call_front, isr_front, obeyed_front, what_text}
use Rattle.report.specs.Fronts.{mark_front, isr_mark_front}
use Rattle.report.proofs.lines.Lines.put_what.Goals as goal

-- What an event reports, after its front and its answer, and the line's end.
line_of_event : (app seen : Application) (event said : What) (start front mid answer end : List ℕ) → app ≡ seen → said ≡ event
    → what_text app event ≡ front ++ answer → mid ≡ start ++ front → end ≡ (mid ++ answer) ++ codes "\n"
    → end ≡ (start ++ what_text seen said) ++ codes "\n"
line_of_event app seen event said start front mid answer end shown is text begun ended =
    ended
    ∙ ap (λ (bytes : List ℕ). (bytes ++ answer) ++ codes "\n") begun
    ∙ ap (λ (bytes : List ℕ). bytes ++ codes "\n") (append_assoc start front answer)
    ∙ ap (λ (bytes : List ℕ). (start ++ bytes) ++ codes "\n") (sym text)
    ∙ ap (λ (a : Application). (start ++ what_text a event) ++ codes "\n") shown
    ∙ ap (λ (w : What). (start ++ what_text seen w) ++ codes "\n") (sym is)

pub returns-in-Call-clause-text : goal.returns-in-Call-clause-text
returns-in-Call-clause-text c =
    line_of_event c.self.inside.labels c.args.self.now (what.Call c.in-Call.task c.in-Call.op_index c.in-Call.answer)
    c.args.what.now (take c.args.at c.args.bytes.now) (call_front c.self.inside.labels c.in-Call.task c.in-Call.op_index)
    (take c.put_call-at.result c.put_call-at.new.bytes) (decimal c.in-Call.answer) (take c.put_last.result c.put_last.new.bytes)
    c.self.view_is c.in-Call.is refl c.put_call-at.ensures.text c.put_last.ensures.text

pub returns-in-CallNone-clause-text : goal.returns-in-CallNone-clause-text
returns-in-CallNone-clause-text c =
    line_of_event c.self.inside.labels c.args.self.now (what.CallNone c.in-CallNone.task c.in-CallNone.op_index) c.args.what.now
    (take c.args.at c.args.bytes.now) (call_front c.self.inside.labels c.in-CallNone.task c.in-CallNone.op_index)
    (take c.put_call-at-in-CallNone.result c.put_call-at-in-CallNone.new.bytes) (codes "none")
    (take c.put_none.result c.put_none.new.bytes)
    c.self.view_is c.in-CallNone.is refl c.put_call-at-in-CallNone.ensures.text c.put_none.ensures.text

pub returns-in-Obeyed-clause-text : goal.returns-in-Obeyed-clause-text
returns-in-Obeyed-clause-text c =
    line_of_event c.self.inside.labels c.args.self.now (what.Obeyed c.in-Obeyed.task c.in-Obeyed.clear c.in-Obeyed.bits)
    c.args.what.now (take c.args.at c.args.bytes.now) (obeyed_front c.self.inside.labels c.in-Obeyed.task c.in-Obeyed.clear)
    (take c.put_obeyed-at.result c.put_obeyed-at.new.bytes) (decimal c.in-Obeyed.bits)
    (take c.put_last-in-Obeyed.result c.put_last-in-Obeyed.new.bytes)
    c.self.view_is c.in-Obeyed.is refl c.put_obeyed-at.ensures.text c.put_last-in-Obeyed.ensures.text

pub returns-in-Mark-clause-text : goal.returns-in-Mark-clause-text
returns-in-Mark-clause-text c =
    line_of_event c.self.inside.labels c.args.self.now (what.Mark c.in-Mark.task c.in-Mark.mark) c.args.what.now
    (take c.args.at c.args.bytes.now) (mark_front c.self.inside.labels c.in-Mark.task)
    (take c.put_mark-at.result c.put_mark-at.new.bytes) (decimal c.in-Mark.mark)
    (take c.put_last-in-Mark.result c.put_last-in-Mark.new.bytes)
    c.self.view_is c.in-Mark.is refl c.put_mark-at.ensures.text c.put_last-in-Mark.ensures.text

pub returns-in-Isr-clause-text : goal.returns-in-Isr-clause-text
returns-in-Isr-clause-text c =
    line_of_event c.self.inside.labels c.args.self.now (what.Isr c.in-Isr.handler c.in-Isr.op_index c.in-Isr.answer) c.args.what.now
    (take c.args.at c.args.bytes.now) (isr_front c.self.inside.labels c.in-Isr.handler c.in-Isr.op_index)
    (take c.put_isr-at.result c.put_isr-at.new.bytes) (decimal c.in-Isr.answer)
    (take c.put_last-in-Isr.result c.put_last-in-Isr.new.bytes)
    c.self.view_is c.in-Isr.is refl c.put_isr-at.ensures.text c.put_last-in-Isr.ensures.text

pub returns-in-IsrNone-clause-text : goal.returns-in-IsrNone-clause-text
returns-in-IsrNone-clause-text c =
    line_of_event c.self.inside.labels c.args.self.now (what.IsrNone c.in-IsrNone.handler c.in-IsrNone.op_index) c.args.what.now
    (take c.args.at c.args.bytes.now) (isr_front c.self.inside.labels c.in-IsrNone.handler c.in-IsrNone.op_index)
    (take c.put_isr-at-in-IsrNone.result c.put_isr-at-in-IsrNone.new.bytes) (codes "none")
    (take c.put_none-in-IsrNone.result c.put_none-in-IsrNone.new.bytes)
    c.self.view_is c.in-IsrNone.is refl c.put_isr-at-in-IsrNone.ensures.text c.put_none-in-IsrNone.ensures.text

pub returns-in-IsrMark-clause-text : goal.returns-in-IsrMark-clause-text
returns-in-IsrMark-clause-text c =
    line_of_event c.self.inside.labels c.args.self.now (what.IsrMark c.in-IsrMark.handler c.in-IsrMark.mark) c.args.what.now
    (take c.args.at c.args.bytes.now) (isr_mark_front c.self.inside.labels c.in-IsrMark.handler)
    (take c.put_isr_mark-at.result c.put_isr_mark-at.new.bytes) (decimal c.in-IsrMark.mark)
    (take c.put_last-in-IsrMark.result c.put_last-in-IsrMark.new.bytes)
    c.self.view_is c.in-IsrMark.is refl c.put_isr_mark-at.ensures.text c.put_last-in-IsrMark.ensures.text
