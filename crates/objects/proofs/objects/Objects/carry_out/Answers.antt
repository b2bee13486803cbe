use Rattle.std.proofs.Common.{◌+◌, ◌-◌, ◌<◌, [], ◌∷◌, ◌++◌, ◌∙◌, ap, drop, length, subst, sym}
use Rattle.std.specs.Prelude.{slice_get}
use Rattle.std.proofs.lemmas.Bool.{ltb-true}
use Rattle.model.specs.State.{Object}
use Rattle.objects.proofs.Carrying.{free_of, stands_carried}
use Rattle.objects.proofs.Together.{count_put, holder_put, many_seen, queue_put, seen}
use Rattle.objects.proofs.objects.Objects.carry_out.Goals as goal

pub push_back-requires-clause-room : goal.push_back-requires-clause-room
push_back-requires-clause-room c =
    let room = rw c.in-Send.is at c.requires.possible in
    subst (λ (x : Object). length x.items < x.size)
    (sym (seen c.self.inside c.args.self.now c.self.view_is c.object.inside.number
    c.args.object c.object.view_is c.object.invariant))
    (ltb-true _ _ room)

pub push_front-requires-clause-room : goal.push_front-requires-clause-room
push_front-requires-clause-room c =
    let room = rw c.in-SendFront.is at c.requires.possible in
    subst (λ (x : Object). length x.items < x.size)
    (sym (seen c.self.inside c.args.self.now c.self.view_is c.object.inside.number
    c.args.object c.object.view_is c.object.invariant))
    (ltb-true _ _ room)

pub replace-requires-clause-long : goal.replace-requires-clause-long
replace-requires-clause-long c =
    let room = rw c.in-Overwrite.is at c.requires.room.1 in
    subst (λ (x : Object). 0 < x.size)
    (sym (seen c.self.inside c.args.self.now c.self.view_is c.object.inside.number
    c.args.object c.object.view_is c.object.invariant))
    room

pub take-requires-clause-possible : goal.take-requires-clause-possible
take-requires-clause-possible c =
    let some = rw c.in-Take.is at c.requires.possible in
    subst (λ (x : Object). 0 < x.count)
    (sym (seen c.self.inside c.args.self.now c.self.view_is c.object.inside.number
    c.args.object c.object.view_is c.object.invariant))
    (ltb-true _ _ some)

pub give-requires-clause-possible : goal.give-requires-clause-possible
give-requires-clause-possible c =
    let below = rw c.in-Give.is at c.requires.possible in
    subst (λ (x : Object). x.count < x.max_count)
    (sym (seen c.self.inside c.args.self.now c.self.view_is c.object.inside.number
    c.args.object c.object.view_is c.object.invariant))
    (ltb-true _ _ below)

pub lock-requires-clause-free : goal.lock-requires-clause-free
lock-requires-clause-free c =
    let free = rw c.in-Lock.is at c.requires.possible in
    ap (λ (x : Object). x.holder)
    (seen c.self.inside c.args.self.now c.self.view_is c.object.inside.number c.args.object c.object.view_is c.object.invariant)
    ∙ free_of _ free

pub returns-in-Send-clause-objects : goal.returns-in-Send-clause-objects
returns-in-Send-clause-objects c =
    rw c.in-Send.is (queue_put c.self.inside c.args.self.now c.self.view_is c.object.inside.number
    c.args.object c.object.view_is c.object.invariant c.push_back.new.self
    (λ xs. xs ++ c.in-Send.item ∷ []) c.push_back.ensures.items c.push_back.ensures.sound.as_many)

pub returns-in-Send-clause-stands : goal.returns-in-Send-clause-stands
returns-in-Send-clause-stands c = λ s d h held.
    stands_carried c.args.self.now d s c.args.object h
    (many_seen c.self.inside c.args.self.now c.self.view_is
    c.object.inside.number c.args.object c.object.view_is c.object.invariant)
    _ c.args.caller c.args.access c.requires.room.0 (returns-in-Send-clause-objects c) held

pub returns-in-SendFront-clause-objects : goal.returns-in-SendFront-clause-objects
returns-in-SendFront-clause-objects c =
    rw c.in-SendFront.is (queue_put c.self.inside c.args.self.now c.self.view_is c.object.inside.number
    c.args.object c.object.view_is c.object.invariant c.push_front.new.self
    (λ xs. c.in-SendFront.item ∷ xs) c.push_front.ensures.items c.push_front.ensures.sound.as_many)

pub returns-in-SendFront-clause-stands : goal.returns-in-SendFront-clause-stands
returns-in-SendFront-clause-stands c = λ s d h held.
    stands_carried c.args.self.now d s c.args.object h
    (many_seen c.self.inside c.args.self.now c.self.view_is
    c.object.inside.number c.args.object c.object.view_is c.object.invariant)
    _ c.args.caller c.args.access c.requires.room.0 (returns-in-SendFront-clause-objects c) held

pub returns-in-Overwrite-clause-objects : goal.returns-in-Overwrite-clause-objects
returns-in-Overwrite-clause-objects c =
    rw c.in-Overwrite.is (queue_put c.self.inside c.args.self.now c.self.view_is
    c.object.inside.number c.args.object c.object.view_is c.object.invariant c.replace.new.self
    (λ xs. c.in-Overwrite.item ∷ []) c.replace.ensures.items c.replace.ensures.sound.as_many)

pub returns-in-Overwrite-clause-stands : goal.returns-in-Overwrite-clause-stands
returns-in-Overwrite-clause-stands c = λ s d h held.
    stands_carried c.args.self.now d s c.args.object h
    (many_seen c.self.inside c.args.self.now c.self.view_is
    c.object.inside.number c.args.object c.object.view_is c.object.invariant)
    _ c.args.caller c.args.access c.requires.room.0 (returns-in-Overwrite-clause-objects c) held

pub returns-in-Receive-clause-answer : goal.returns-in-Receive-clause-answer
returns-in-Receive-clause-answer c =
    rw c.in-Receive.is (c.pop_front.ensures.first
    ∙ ap (λ (x : Object). slice_get x.items 0) (seen c.self.inside c.args.self.now c.self.view_is
    c.object.inside.number c.args.object c.object.view_is c.object.invariant))

pub returns-in-Receive-clause-objects : goal.returns-in-Receive-clause-objects
returns-in-Receive-clause-objects c =
    rw c.in-Receive.is (queue_put c.self.inside c.args.self.now c.self.view_is c.object.inside.number c.args.object c.object.view_is
    c.object.invariant c.pop_front.new.self (λ xs. drop 1 xs) c.pop_front.ensures.items c.pop_front.ensures.sound.as_many)

pub returns-in-Receive-clause-stands : goal.returns-in-Receive-clause-stands
returns-in-Receive-clause-stands c = λ s d h held.
    stands_carried c.args.self.now d s c.args.object h
    (many_seen c.self.inside c.args.self.now c.self.view_is
    c.object.inside.number c.args.object c.object.view_is c.object.invariant)
    _ c.args.caller c.args.access c.requires.room.0 (returns-in-Receive-clause-objects c) held

pub returns-in-Peek-clause-answer : goal.returns-in-Peek-clause-answer
returns-in-Peek-clause-answer c =
    rw c.in-Peek.is (c.first.ensures.first
    ∙ ap (λ (x : Object). slice_get x.items 0) (seen c.self.inside c.args.self.now c.self.view_is
    c.object.inside.number c.args.object c.object.view_is c.object.invariant))

pub returns-in-Take-clause-objects : goal.returns-in-Take-clause-objects
returns-in-Take-clause-objects c =
    rw c.in-Take.is (count_put c.self.inside c.args.self.now c.self.view_is c.object.inside.number c.args.object
    c.object.view_is c.object.invariant c.take.new.self (λ n. n - 1) c.take.ensures.taken c.take.ensures.sound)

pub returns-in-Take-clause-stands : goal.returns-in-Take-clause-stands
returns-in-Take-clause-stands c = λ s d h held.
    stands_carried c.args.self.now d s c.args.object h
    (many_seen c.self.inside c.args.self.now c.self.view_is
    c.object.inside.number c.args.object c.object.view_is c.object.invariant)
    _ c.args.caller c.args.access c.requires.room.0 (returns-in-Take-clause-objects c) held

pub returns-in-Give-clause-objects : goal.returns-in-Give-clause-objects
returns-in-Give-clause-objects c =
    rw c.in-Give.is (count_put c.self.inside c.args.self.now c.self.view_is c.object.inside.number c.args.object
    c.object.view_is c.object.invariant c.give.new.self (λ n. n + 1) c.give.ensures.given c.give.ensures.sound)

pub returns-in-Give-clause-stands : goal.returns-in-Give-clause-stands
returns-in-Give-clause-stands c = λ s d h held.
    stands_carried c.args.self.now d s c.args.object h
    (many_seen c.self.inside c.args.self.now c.self.view_is
    c.object.inside.number c.args.object c.object.view_is c.object.invariant)
    _ c.args.caller c.args.access c.requires.room.0 (returns-in-Give-clause-objects c) held

pub returns-in-Lock-clause-objects : goal.returns-in-Lock-clause-objects
returns-in-Lock-clause-objects c =
    rw c.in-Lock.is (holder_put c.self.inside c.args.self.now c.self.view_is c.object.inside.number c.args.object
    c.object.view_is c.object.invariant c.lock.new.self c.args.caller c.lock.ensures.locked c.lock.ensures.many)

pub returns-in-Lock-clause-stands : goal.returns-in-Lock-clause-stands
returns-in-Lock-clause-stands c = λ s d h held.
    stands_carried c.args.self.now d s c.args.object h
    (many_seen c.self.inside c.args.self.now c.self.view_is
    c.object.inside.number c.args.object c.object.view_is c.object.invariant)
    _ c.args.caller c.args.access c.requires.room.0 (returns-in-Lock-clause-objects c) held
