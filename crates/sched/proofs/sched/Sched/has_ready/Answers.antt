use Rattle.std.proofs.Common.{◌≡◌, ◌∙◌, ℕ, List, [], false, not, ap, sym}
use Rattle.std.specs.Option.{is_some}
use Rattle.model.proofs.Sorting.{by_test}
use Rattle.lists.specs.Lists.{first_of}
use Rattle.sched.specs.Schedule.{Schedule}
use Rattle.sched.proofs.LinedUp.{lined_up_calm, some_ready, some_pending}
use Rattle.sched.proofs.sched.Sched.has_ready.Goals as goal

pub returns-then-has_any : goal.returns-then-has_any
returns-then-has_any c = record {
  ready =
      c.if-has_any.true
      ∙ some_ready c.args.self.now
      (ap (λ (v : Schedule). is_some (first_of v.ready)) (sym c.self.view_is) ∙ sym c.has_any.ensures.any ∙ c.if-has_any.true);
}

pub returns-else-has_any : goal.returns-else-has_any
returns-else-has_any c =
    let none : is_some (first_of c.args.self.now.ready) ≡ false =
    ap (λ (v : Schedule). is_some (first_of v.ready)) (sym c.self.view_is) ∙ sym c.has_any.ensures.any ∙ c.if-has_any.false in
    record {
      ready = by_test c.is_empty.result
          (λ t.
          let empty : c.args.self.now.pending ≡ [] =
          ap (λ (v : Schedule). v.pending) (sym c.self.view_is) ∙ c.is_empty.ensures.empty.0 t in
          ap not t ∙ sym (ap (λ (es : List (ℕ × ℕ)). is_some (first_of es)) (lined_up_calm c.args.self.now empty) ∙ none))
          (λ t. ap not t ∙ some_pending c.args.self.now (λ e.
          let yes = c.is_empty.ensures.empty.1 (ap (λ (v : Schedule). v.pending) c.self.view_is ∙ e) in
          absurd (cc)));
    }
