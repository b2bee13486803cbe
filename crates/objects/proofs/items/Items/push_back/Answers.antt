use Rattle.std.proofs.Common.{arith}
use Rattle.objects.proofs.Rings.{room_is, back_in, put_back}
use Rattle.objects.proofs.items.Items.push_back.Goals as goal

pub wrapped-at-requires : goal.wrapped-at-requires
wrapped-at-requires c =
    let has = room_is c.self.invariant c.self.view_is c.args.queue c.requires.known c.requires.room in
    let head = c.self.invariant.started c.args.queue c.requires.known (omega (arith, has)) in
    omega (arith, has, head)

pub bounds-self-inside-self-inside : goal.bounds-self-inside-self-inside
bounds-self-inside-self-inside c =
    back_in c.self.invariant c.self.view_is c.args.queue c.wrapped-at.result
    c.requires.known c.requires.room c.wrapped-at.ensures.wrapped

pub invariant_of-self : goal.invariant_of-self
invariant_of-self c =
    (put_back c.self.invariant c.self.view_is c.args.queue c.args.item c.wrapped-at.result
    c.requires.known c.requires.room c.wrapped-at.ensures.wrapped).is

pub returns-clause-items : goal.returns-clause-items
returns-clause-items c =
    (put_back c.self.invariant c.self.view_is c.args.queue c.args.item c.wrapped-at.result
    c.requires.known c.requires.room c.wrapped-at.ensures.wrapped).items

pub returns-clause-sound : goal.returns-clause-sound
returns-clause-sound c =
    (put_back c.self.invariant c.self.view_is c.args.queue c.args.item c.wrapped-at.result
    c.requires.known c.requires.room c.wrapped-at.ensures.wrapped).sound
