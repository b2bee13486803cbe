use Rattle.std.proofs.Common.{◌≡◌, ◌∙◌, ◌∷◌, ◌+◌, ◌<◌, ℕ, [], List, ap, length, map, sym, arith, add-one, length-append}
use Rattle.std.specs.List.{flat_map}
use Rattle.model.specs.Placements.{sequences}
use Rattle.explorer.proofs.Choosing.{levels_more, read_level}
use Rattle.explorer.proofs.choices.Choices.new.Goals as goal

pub loop-number-preserved : goal.loop-number-preserved
loop-number-preserved c =
    let handlers = c.in_ok-handlers.handlers.items in
    let levels = c.loop-number.levels.items in
    let n = c.loop-number.number in
    let inv = c.loop-number.invariant in
    let long = inv.long in
    let within : n < length levels = omega (arith, long) in
    let level : c.index.result.now ≡ sequences handlers n =
    read_level levels n c.index.result.now within c.index.ensures ∙ inv.levels n within in
    let longer : c.in_ok-longer.longer ≡ sequences handlers (n + 1) = (
    c.in_ok-longer.ensures
    ∙ ap (λ (hs : List ℕ). flat_map (λ (handler : ℕ). map
    (λ (others : List ℕ). handler ∷ others) c.index.result.now) hs) c.as_slice.ensures.value
    ∙ ap (λ (cs : List (List ℕ)). flat_map (λ (handler : ℕ). map (λ (others : List ℕ). handler ∷ others) cs) handlers) level
    ∙ ap (λ (m : ℕ). sequences handlers m) (sym (add-one n))) in
    record {
      levels = levels_more handlers levels n c.in_ok-longer.longer _ inv.levels long c.in_ok-push-2.ensures.items longer;
      long =
          (let more = ap length c.in_ok-push-2.ensures.items in
          omega (arith, more, length-append levels (c.in_ok-longer.longer ∷ []), long));
    }
