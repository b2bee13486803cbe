use Rattle.std.proofs.Common.{[], ap, ◌∙◌, arith}
use Rattle.clock.specs.Timeline.{Timeline}
use Rattle.clock.proofs.Standing.{due_jump, stands_jumped}
use Rattle.clock.proofs.Unslept.{clock_unslept, jumps_unslept}
use Rattle.clock.proofs.clock.Clock.jump_unslept.Goals as goal

pub invariant_of-self : goal.invariant_of-self
invariant_of-self c =
    let q = c.self.inside in
    clock_unslept c.self.invariant (ap (λ (t : Timeline). t.delayed_list) c.self.view_is ∙ c.requires.quiet)
    c.args.ticks _ _ (omega arith)
    (let age = ap (λ (t : Timeline). t.age) c.self.view_is in let few = c.requires.age in omega arith)

pub returns-clause-jumps : goal.returns-clause-jumps
returns-clause-jumps c =
    jumps_unslept c.self.invariant (ap (λ (t : Timeline). t.delayed_list) c.self.view_is ∙ c.requires.quiet)
    c.args.ticks _ _ (omega arith) c.self.inside.held c.args.self.now c.self.view_is

pub returns-clause-due : goal.returns-clause-due
returns-clause-due c = λ s h. due_jump c.args.ticks c.args.self.now _ s [] (returns-clause-jumps c) h

pub returns-clause-woken : goal.returns-clause-woken
returns-clause-woken c = λ s h. stands_jumped c.args.ticks c.args.self.now _ s [] (returns-clause-jumps c) h
