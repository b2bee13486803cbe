use Rattle.std.proofs.Common.{◌+◌, ◌∙◌, map, drop, ap, sym, refl}
use Rattle.std.specs.List.{list_any}
use Rattle.std.specs.Str.{bytes_eq}
use Rattle.script.proofs.Steps.{left, none_left, any_here, any_later}
use Rattle.script.proofs.named.has_name.Goals as goal

pub returns-then-eq : goal.returns-then-eq
returns-then-eq g c =
    let r = g.E.Named in
    let entries = c.args.entries.now in
    let i = c.loop-entry.entry-index in
    let entry = c.entry-item.result in
    let name = bytes_eq c.args.name.now in
    let is = ap name (sym c.name.ensures) ∙ sym c.eq.ensures ∙ c.if-eq.true in
    sym (any_here name (r.name_of (r.shown entry)) (map r.name_of (map r.shown (drop i entries)))
    (map r.name_of (map r.shown (drop (i + 1) entries)))
    (ap (λ rest. map r.name_of (map r.shown rest)) (left entries i entry c.loop-entry-test.true c.entry-item.is)) is)
    ∙ c.loop-entry.invariant

pub loop-entry-preserved : goal.loop-entry-preserved
loop-entry-preserved g c =
    let r = g.E.Named in
    let entries = c.args.entries.now in
    let i = c.loop-entry.entry-index in
    let entry = c.entry-item.result in
    let name = bytes_eq c.args.name.now in
    let is = ap name (sym c.name.ensures) ∙ sym c.eq.ensures ∙ c.if-eq.false in
    sym (any_later name (r.name_of (r.shown entry)) (map r.name_of (map r.shown (drop i entries)))
    (map r.name_of (map r.shown (drop (i + 1) entries)))
    (ap (λ rest. map r.name_of (map r.shown rest)) (left entries i entry c.loop-entry-test.true c.entry-item.is)) is)
    ∙ c.loop-entry.invariant

pub returns : goal.returns
returns g c =
    let r = g.E.Named in
    let entries = c.args.entries.now in
    let i = c.loop-entry.entry-index in
    sym (ap (λ rest. list_any (bytes_eq c.args.name.now) (map r.name_of (map r.shown rest)))
    (none_left entries entries refl i c.loop-entry-test.false))
    ∙ c.loop-entry.invariant
