use Rattle.std.proofs.Common.{arith}
use Rattle.objects.proofs.Rings.{room_is, front_in, put_front}
use Rattle.objects.proofs.items.Items.push_front.Goals as goal

pub overflow_sub-self-inside : goal.overflow_sub-self-inside
overflow_sub-self-inside c =
    let has = room_is c.self.invariant c.self.view_is c.args.queue c.requires.known c.requires.room in
    omega (arith, has)

pub wrapped-head-requires : goal.wrapped-head-requires
wrapped-head-requires c =
    let has = room_is c.self.invariant c.self.view_is c.args.queue c.requires.known c.requires.room in
    let head = c.self.invariant.started c.args.queue c.requires.known (omega (arith, has)) in
    omega (arith, has, head)

pub bounds-self-inside-self-inside : goal.bounds-self-inside-self-inside
bounds-self-inside-self-inside c =
    front_in c.self.invariant c.self.view_is c.args.queue c.wrapped-head.result
    c.requires.known c.requires.room c.wrapped-head.ensures.wrapped

pub invariant_of-self : goal.invariant_of-self
invariant_of-self c =
    (put_front c.self.invariant c.self.view_is c.args.queue c.args.item c.wrapped-head.result
    c.requires.known c.requires.room c.wrapped-head.ensures.wrapped).is

pub returns-clause-items : goal.returns-clause-items
returns-clause-items c =
    (put_front c.self.invariant c.self.view_is c.args.queue c.args.item c.wrapped-head.result
    c.requires.known c.requires.room c.wrapped-head.ensures.wrapped).items

pub returns-clause-sound : goal.returns-clause-sound
returns-clause-sound c =
    (put_front c.self.invariant c.self.view_is c.args.queue c.args.item c.wrapped-head.result
    c.requires.known c.requires.room c.wrapped-head.ensures.wrapped).sound
