use Rattle.std.proofs.Common.{List, [], ◌∷◌, ◌++◌, ◌∙◌, ap₂, sym, arith}
use Rattle.std.proofs.lemmas.List.FromFn.{map-range_with_len_more}
use Rattle.model.specs.declared.end_state.Situation.{Situation}
use Rattle.model.specs.EndStates.{situation_of}
use Rattle.kernel.proofs.end_state.situations.Goals as goal

pub loop-number-preserved : goal.loop-number-preserved
loop-number-preserved c = record {
  told = λ s h.
      c.push.ensures.items
      ∙ ap₂ (λ (xs : List Situation) (x : Situation). xs ++ x ∷ []) (c.loop-number.invariant.told s h) (c.situation.ensures s h)
      ∙ sym (map-range_with_len_more (situation_of s) 0 c.loop-number.number c.loop-number.number (omega arith));
  count = let more = c.push.ensures.len in let before = c.loop-number.invariant.count in omega arith;
}
