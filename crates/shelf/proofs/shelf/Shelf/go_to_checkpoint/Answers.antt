use Rattle.std.proofs.Common.{ℕ, [], length, ap, sym, subst, ◌∙◌, arith}
use Rattle.machine.specs.declared.machine.Machine.{Machine}
use Rattle.model.specs.Application.{Limits}
use Rattle.model.specs.Run.{events_after}
use Rattle.machine.specs.Can.{IsUnderWay}
use Rattle.shelf.specs.Shelves.{Shelved}
use Rattle.shelf.proofs.Along.{read_is, parts_of}
use Rattle.shelf.proofs.shelf.Shelf.go_to_checkpoint.Goals as goal

pub returns-clause-way : goal.returns-clause-way
returns-clause-way c =
    let checkpoint =
    read_is c.args.app.now _ c.args.self.now c.self.view_is c.requires.shelf c.args.point.now c.requires.reached
    c.first_step.result c.first_step.ensures c.index-checkpoint.result.now _ c.index-checkpoint.ensures in
    subst (λ (l : Limits). IsUnderWay c.args.app.now [] l c.restore.new.self) (ap (λ (s : Shelved). s.limits) c.self.view_is)
    (subst (IsUnderWay c.args.app.now [] c.self.inside.limits) (sym c.restore.ensures) checkpoint.way)

pub returns-clause-there : goal.returns-clause-there
returns-clause-there c =
    let checkpoint =
    read_is c.args.app.now _ c.args.self.now c.self.view_is c.requires.shelf c.args.point.now c.requires.reached
    c.first_step.result c.first_step.ensures c.index-checkpoint.result.now _ c.index-checkpoint.ensures in
    let there = ap (λ (k : Machine). k.steps) c.restore.ensures ∙ checkpoint.there in
    let parts = parts_of c.args.app.now _ c.args.self.now c.self.view_is c.requires.shelf c.args.point.now c.requires.reached in
    omega (arith, there, parts)

pub returns-clause-before : goal.returns-clause-before
returns-clause-before c =
    let checkpoint =
    read_is c.args.app.now _ c.args.self.now c.self.view_is c.requires.shelf c.args.point.now c.requires.reached
    c.first_step.result c.first_step.ensures c.index-checkpoint.result.now _ c.index-checkpoint.ensures in
    let there = ap (λ (k : Machine). k.steps) c.restore.ensures ∙ checkpoint.there in
    checkpoint.before ∙ ap (λ (n : ℕ). length (events_after c.args.app.now c.self.inside.limits [] n)) (sym there)
    ∙ ap (λ (s : Shelved). length (events_after c.args.app.now s.limits [] c.restore.new.self.steps)) c.self.view_is
