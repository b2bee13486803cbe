use Rattle.std.proofs.Common.{refl}
use Rattle.machine.specs.Logged.{all_of}
use Rattle.kernel.proofs.Along.{behind, free_next, tells_nothing, tells_on}
use Rattle.kernel.proofs.shortcuts.pass_more.Goals as goal

pub returns-else-is_silent : goal.returns-else-is_silent
returns-else-is_silent c = tells_nothing refl

pub returns-in_default : goal.returns-in_default
returns-in_default c = tells_nothing refl

pub pass_leave-requires-clause-going : goal.pass_leave-requires-clause-going
pass_leave-requires-clause-going c =
    record {
      free = free_next c.pass_on.ensures.along.to c.requires.free;
      going = c.in-Some.ensures.going c.args.injections.now c.requires.free;
    }

pub returns-in-Some : goal.returns-in-Some
returns-in-Some c =
    tells_on (behind (all_of c.args.trail.now) c.pass_on.ensures.along) c.in-Some.ensures.going c.pass_leave.ensures

pub returns-in_default-pass_on : goal.returns-in_default-pass_on
returns-in_default-pass_on c = behind (all_of c.args.trail.now) c.pass_on.ensures.along
