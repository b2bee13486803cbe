use Rattle.std.proofs.Common.{◌≡◌, ◌<◌, ◌/◌, ◌∙◌, List, Option, ap, get_or, length, subst, sym}
use Rattle.std.specs.Prelude.{IfSome}
use Rattle.std.proofs.lemmas.Option.{slice_get-get_or}
use Rattle.kernel.proofs.Alike.{rest_alike}
use Rattle.shelf.specs.Rests.{JoinsBase}
use Rattle.shelf.specs.Shelves.{Shelved}
use Rattle.shelf.specs.declared.checkpoints.Checkpoint.{Checkpoint}
use Rattle.shelf.proofs.shelf.Shelf.known.Goals as goal

pub returns-then-is_at : goal.returns-then-is_at
returns-then-is_at c = record {
  joins = λ app is.
      let checkpoint = c.in_ok-checkpoint.checkpoint.now in
      let shelf = c.args.self.now in
      let number = c.steps.result / c.self.inside.stride in
      let found = c.in_ok-checkpoint.ensures.lookup in
      let same : c.deref.result.now ≡ shelf.checkpoints =
      c.deref.ensures.value ∙ ap (λ (v : Shelved). v.checkpoints) c.self.view_is in
      let below : number < length shelf.checkpoints = subst (λ (ss : List Checkpoint). number < length ss) same found.3.0 in
      let here : get_or shelf.checkpoints number checkpoint ≡ checkpoint =
      sym (subst (λ (ss : List Checkpoint). checkpoint ≡ get_or ss number checkpoint) same found.1) in
      let there : JoinsBase app shelf.limits shelf.base checkpoint.kernel checkpoint.before =
      subst (λ (s : Checkpoint). JoinsBase app shelf.limits shelf.base s.kernel s.before) here
      (subst (λ (o : Option Checkpoint). IfSome o (λ (s : Checkpoint). JoinsBase app shelf.limits shelf.base s.kernel s.before))
      (slice_get-get_or shelf.checkpoints number checkpoint below) (is.rests number)) in
      record {
        within = there.within;
        rest = rest_alike app shelf.limits c.args.kernel.now checkpoint.kernel _
            (c.is_at.ensures.steps c.if-is_at.true) (c.is_at.ensures.stands c.if-is_at.true) there.rest;
      };
}
