use Rattle.std.proofs.Common.{arith}
use Rattle.model.specs.declared.op.Op.TheVariants.{Obey}
use Rattle.machine.proofs.Either.{steps_are}
use Rattle.kernel.proofs.Bounds.{can_do}
use Rattle.kernel.proofs.Holds.{below_limits}
use Rattle.kernel.proofs.Setting.{can_begin, letting_set, not_over_set, stands_set, steps_set, told_set}
use Rattle.kernel.proofs.commands.step_setting.Goals as goal

pub begin_set-requires : goal.begin_set-requires
begin_set-requires c =
    can_begin c.args.app.now c.args.machine.now c.args.task c.args.command.now c.requires.sets
    (can_do c.args.app.now c.well_formed-2.ensures c.args.machine.now c.requires.going.1
    c.args.task c.requires.sets.current c.requires.sets.awake Obey c.requires.sets.at)

pub overflow_add-machine : goal.overflow_add-machine
overflow_add-machine c =
    let limits = c.requires.going.0 in
    let going = c.requires.going.1 in
    let still =
    steps_set c.args.app.now c.args.machine.now c.args.task c.args.command.now c.requires.sets limits c.begin_set.new.machine
    (can_begin c.args.app.now c.args.machine.now c.args.task c.args.command.now c.requires.sets
    (can_do c.args.app.now c.well_formed-2.ensures c.args.machine.now c.requires.going.1
    c.args.task c.requires.sets.current c.requires.sets.awake Obey c.requires.sets.at))
    c.begin_set.ensures.does c.begin_set.ensures.held c.requires.none going.state going.stands in
    let is = steps_are c.args.machine.now going.state going.stands in
    let low = below_limits c.args.app.now limits going.state going.goes_on in
    let few = low.1 in
    let most = going.are.3 in
    omega arith

pub returns-clause-stands : goal.returns-clause-stands
returns-clause-stands c = λ limits s h.
    stands_set c.args.app.now c.args.machine.now c.args.task c.args.command.now c.requires.sets limits c.begin_set.new.machine
    (can_begin c.args.app.now c.args.machine.now c.args.task c.args.command.now c.requires.sets
    (can_do c.args.app.now c.well_formed-2.ensures c.args.machine.now c.requires.going.1
    c.args.task c.requires.sets.current c.requires.sets.awake Obey c.requires.sets.at))
    c.begin_set.ensures.does c.begin_set.ensures.held c.requires.none s h

pub returns-clause-silent : goal.returns-clause-silent
returns-clause-silent c = λ limits s h.
    told_set c.args.app.now c.args.machine.now c.args.task c.args.command.now c.requires.sets limits c.begin_set.new.machine
    (can_begin c.args.app.now c.args.machine.now c.args.task c.args.command.now c.requires.sets
    (can_do c.args.app.now c.well_formed-2.ensures c.args.machine.now c.requires.going.1
    c.args.task c.requires.sets.current c.requires.sets.awake Obey c.requires.sets.at))
    c.begin_set.ensures.does c.begin_set.ensures.held c.requires.none s h

pub returns-clause-on : goal.returns-clause-on
returns-clause-on c = λ limits s h.
    not_over_set c.args.app.now c.args.machine.now c.args.task c.args.command.now c.requires.sets limits c.begin_set.new.machine
    (can_begin c.args.app.now c.args.machine.now c.args.task c.args.command.now c.requires.sets
    (can_do c.args.app.now c.well_formed-2.ensures c.args.machine.now c.requires.going.1
    c.args.task c.requires.sets.current c.requires.sets.awake Obey c.requires.sets.at))
    c.begin_set.ensures.does c.begin_set.ensures.held c.requires.none s h c.begin_set.ensures.remains

pub returns-clause-letting : goal.returns-clause-letting
returns-clause-letting c =
    letting_set c.args.app.now c.args.machine.now c.args.task c.args.command.now c.requires.sets c.begin_set.new.machine
    c.begin_set.ensures.remains c.begin_set.ensures.reached _
