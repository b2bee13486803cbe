use Rattle.std.proofs.Common.{◌≡◌, ◌<◌, ◌+◌, ◌-◌, ◌∙◌, ℕ, ap, sym, take, drop, length, length-append, [], ◌∷◌, arith}
use Rattle.report.proofs.Rendering.{next_rendered}
use Rattle.report.proofs.base_events.render.Goals as goal

pub loop-number-preserved : goal.loop-number-preserved
loop-number-preserved c =
    let ends = c.loop-number.rendered.ends.items in
    let events = c.args.events.now in
    let number = c.loop-number.number in
    let as_many : length ends ≡ number = c.loop-number.invariant.as_many in
    let low : length ends < length events = rw as_many c.loop-number-test.true in
    let one : number + 1 - number ≡ 1 = omega arith in
    let next : take (number + 1 - number) (drop number events) ≡ take 1 (drop (length ends) events) =
    ap (λ (n : ℕ). take n (drop number events)) one ∙ ap (λ (n : ℕ). take 1 (drop n events)) (sym as_many) in
    let text = rw c.loop-number.invariant.app at c.in_ok-add.ensures.text in
    let more : length c.add.new.self.ends.items ≡ number + 1 =
    ap length c.in_ok-add.ensures.ends ∙ length-append ends (length c.add.new.self.text.items ∷ [])
    ∙ ap (λ (n : ℕ). n + 1) as_many in
    record {
      app = c.in_ok-add.ensures.app ∙ c.loop-number.invariant.app;
      as_many = more;
      is =
          next_rendered c.args.lines.now events c.loop-number.rendered.text.items ends c.loop-number.invariant.is
          c.add.new.self.text.items c.add.new.self.ends.items (take (number + 1 - number) (drop number events)) low next text
          c.in_ok-add.ensures.ends;
    }
