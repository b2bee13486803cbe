use Rattle.std.proofs.Common.{◌≡◌, ◌∙◌, ◌∷◌, ◌++◌, ◌+◌, ℕ, [], List, decimal, drop, map, rules, string_bytes, ap, sym}
use Rattle.std.proofs.lemmas.List.{at_drop_all, at_drop_more, map-append}
use Rattle.requests.proofs.Meaning.{meant_end, meant_next}
use Rattle.requests.proofs.processors.push_meant.Goals as goal

pub loop-word-preserved : goal.loop-word-preserved
loop-word-preserved c =
    let words = c.args.words.now in
    let index = c.loop-word.word-index in
    let text = c.in_ok-word_meant.field-0 in
    let rest = map string_bytes (drop (index + 1) words) in
    let pushed : map string_bytes c.push.new.self.items ≡ map string_bytes c.loop-word.meant.items ++ string_bytes text ∷ [] =
    ap (map string_bytes) c.in_ok-push.ensures.items ∙ map-append string_bytes c.loop-word.meant.items (text ∷ []) in
    let left : map string_bytes (drop index words) ≡ c.as_str-word.result.now ∷ rest =
    at_drop_more (map string_bytes) words index c.word-item.result (search rules)
    ∙ ap (λ (t : List ℕ). t ∷ rest) (ap string_bytes (sym c.word-item.is) ∙ sym c.as_str-word.ensures.value) in
    record {
      is_text = search rules;
      meant =
          rw pushed (meant_next c.loop-word.is_verbatim c.eq.result (decimal c.args.workers)
          c.loop-word.before.now c.as_str-word.result.now (string_bytes text)
          (map string_bytes c.loop-word.meant.items) (map string_bytes (drop index words)) rest
          _ c.eq.ensures left c.in_ok-word_meant.ensures c.loop-word.invariant.meant);
    }

pub returns : goal.returns
returns c =
    let left = at_drop_all (map string_bytes) c.args.words.now c.loop-word.word-index (search rules) in
    meant_end c.loop-word.is_verbatim _ _ _ _ _ left c.loop-word.invariant.meant
