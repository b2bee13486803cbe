use Rattle.std.proofs.Common.{◌∙◌, ◌∷◌, ◌++◌, ℕ, List, ap, map, sym, take}
use Rattle.std.specs.List.{flat_map}
use Rattle.explorer.proofs.Choosing.{flat_more}
use Rattle.explorer.proofs.choices.Level.longer.Goals as goal

pub loop-handler-preserved : goal.loop-handler-preserved
loop-handler-preserved c =
    let level = c.args.self.now in
    let longer = λ (handler : ℕ). map (λ (others : List ℕ). handler ∷ others) level in
    let handlers = c.args.handlers.now in
    let i = c.loop-handler.handler-index in
    c.in_ok-push_all.ensures
    ∙ ap (λ (cs : List (List ℕ)). cs ++ map (λ (others : List ℕ). c.handler-item.result
    ∷ others) c.as_slice.result.now) c.loop-handler.invariant
    ∙ ap (λ (cs : List (List ℕ)). flat_map longer (take i handlers) ++ map
    (λ (others : List ℕ). c.handler-item.result ∷ others) cs) c.as_slice.ensures
    ∙ ap (λ (handler : ℕ). flat_map longer (take i handlers) ++ longer handler) c.handler-item.is
    ∙ sym (flat_more longer handlers i c.handler-item.result c.loop-handler-test.true)
