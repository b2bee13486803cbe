use Rattle.std.proofs.Common.{◌∙◌, refl, sym}
use Rattle.kernel.proofs.Along.{further_nowhere}
use Rattle.kernel.proofs.InCall.{same_phase}
use Rattle.kernel.proofs.in_call.pass_if_next.Goals as goal

pub pass_phase-requires-clause-call : goal.pass_phase-requires-clause-call
pass_phase-requires-clause-call c =
    c.requires.call c.args.next (sym c.phase.ensures ∙ same_phase c.phase.result c.args.next c.if-ne.ensures)

pub returns-then-ne-clause-along : goal.returns-then-ne-clause-along
returns-then-ne-clause-along c = further_nowhere refl

pub returns-then-ne-clause-going : goal.returns-then-ne-clause-going
returns-then-ne-clause-going c = λ plan g. g.going
