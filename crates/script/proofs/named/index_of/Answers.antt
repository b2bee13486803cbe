use Rattle.std.proofs.Common.{◌+◌, ◌∙◌, ℕ, List, map, drop, ap, sym, refl}
use Rattle.std.specs.List.{position_from}
use Rattle.std.specs.Str.{bytes_eq}
use Rattle.script.proofs.Steps.{left, none_left, position_here, position_later}
use Rattle.script.proofs.named.index_of.Goals as goal

pub returns-then-eq : goal.returns-then-eq
returns-then-eq g c =
    let r = g.E.Named in
    let entries = c.args.entries.now in
    let i = c.loop-index.index in
    let entry = c.index-entries-index.result in
    let is_name = λ (name : List ℕ). bytes_eq name c.args.name.now in
    let is = ap is_name (sym c.name.ensures) ∙ ap is_name (sym c.as_bytes.ensures.value) ∙ sym c.eq.ensures ∙ c.if-eq.true in
    record {
      index =
          sym (c.loop-index.invariant
          ∙ position_here is_name (r.name_of (r.shown entry)) (map r.name_of (map r.shown (drop i entries)))
          (map r.name_of (map r.shown (drop (i + 1) entries)))
          (ap (λ rest. map r.name_of (map r.shown rest)) (left entries i entry c.loop-index-test.true c.index-entries-index.is)) i
          is);
      below = c.loop-index-test.true;
    }

pub loop-index-preserved : goal.loop-index-preserved
loop-index-preserved g c =
    let r = g.E.Named in
    let entries = c.args.entries.now in
    let i = c.loop-index.index in
    let entry = c.index-entries-index.result in
    let is_name = λ (name : List ℕ). bytes_eq name c.args.name.now in
    let is = ap is_name (sym c.name.ensures) ∙ ap is_name (sym c.as_bytes.ensures.value) ∙ sym c.eq.ensures ∙ c.if-eq.false in
    c.loop-index.invariant
    ∙ position_later is_name (r.name_of (r.shown entry)) (map r.name_of (map r.shown (drop i entries)))
    (map r.name_of (map r.shown (drop (i + 1) entries)))
    (ap (λ rest. map r.name_of (map r.shown rest)) (left entries i entry c.loop-index-test.true c.index-entries-index.is)) i is

pub returns : goal.returns
returns g c =
    let r = g.E.Named in
    let entries = c.args.entries.now in
    let i = c.loop-index.index in
    let is_name = λ (name : List ℕ). bytes_eq name c.args.name.now in
    record {
      index =
          sym (c.loop-index.invariant
          ∙ ap (λ rest. position_from is_name i (map r.name_of (map r.shown rest)))
          (none_left entries entries refl i c.loop-index-test.false));
      below = tt;
    }
