use Rattle.std.proofs.Common.{Option, ℕ, ◌∙◌, ap, length}
use Rattle.std.specs.Prelude.{nat_lt}
use Rattle.std.specs.Option.{is_none, is_some}
use Rattle.model.specs.State.{Object}
use Rattle.model.specs.Objects.{allows}
use Rattle.objects.specs.Items.{object_in}
use Rattle.objects.proofs.Carrying.{some_room, turned}
use Rattle.objects.proofs.Together.{seen}
use Rattle.objects.proofs.objects.Objects.possible.Goals as goal

pub returns-in-Send-clause-possible : goal.returns-in-Send-clause-possible
returns-in-Send-clause-possible c =
    let queue : Object = object_in c.self.inside.items c.object.inside.number in
    rw c.in-Send.is
    (some_room c.room.result (length queue.items) queue.size c.room.ensures.room
    ∙ ap (λ (x : Object). nat_lt (length x.items) x.size) (seen c.self.inside c.args.self.now
    c.self.view_is c.object.inside.number c.args.object c.object.view_is c.object.invariant))

pub returns-in-SendFront-clause-possible : goal.returns-in-SendFront-clause-possible
returns-in-SendFront-clause-possible c =
    let queue : Object = object_in c.self.inside.items c.object.inside.number in
    rw c.in-SendFront.is
    (some_room c.room-in-SendFront.result (length queue.items) queue.size c.room-in-SendFront.ensures.room
    ∙ ap (λ (x : Object). nat_lt (length x.items) x.size) (seen c.self.inside c.args.self.now
    c.self.view_is c.object.inside.number c.args.object c.object.view_is c.object.invariant))

pub returns-in-Send-clause-stands : goal.returns-in-Send-clause-stands
returns-in-Send-clause-stands c = λ s d h.
    returns-in-Send-clause-possible c ∙ ap (λ (x : Object). allows x c.args.access) (h.objects c.args.object)

pub returns-in-SendFront-clause-stands : goal.returns-in-SendFront-clause-stands
returns-in-SendFront-clause-stands c = λ s d h.
    returns-in-SendFront-clause-possible c ∙ ap (λ (x : Object). allows x c.args.access) (h.objects c.args.object)

pub returns-in-Receive-clause-possible : goal.returns-in-Receive-clause-possible
returns-in-Receive-clause-possible c = rw c.in-Receive.is
    (ap (nat_lt 0) c.len.ensures.len
    ∙ ap (λ (x : Object). nat_lt 0 (length x.items)) (seen c.self.inside c.args.self.now
    c.self.view_is c.object.inside.number c.args.object c.object.view_is c.object.invariant))

pub returns-in-Peek-clause-possible : goal.returns-in-Peek-clause-possible
returns-in-Peek-clause-possible c = rw c.in-Peek.is
    (ap (nat_lt 0) c.len-in-Peek.ensures.len
    ∙ ap (λ (x : Object). nat_lt 0 (length x.items)) (seen c.self.inside c.args.self.now
    c.self.view_is c.object.inside.number c.args.object c.object.view_is c.object.invariant))

pub returns-in-Receive-clause-stands : goal.returns-in-Receive-clause-stands
returns-in-Receive-clause-stands c = λ s d h.
    returns-in-Receive-clause-possible c ∙ ap (λ (x : Object). allows x c.args.access) (h.objects c.args.object)

pub returns-in-Peek-clause-stands : goal.returns-in-Peek-clause-stands
returns-in-Peek-clause-stands c = λ s d h.
    returns-in-Peek-clause-possible c ∙ ap (λ (x : Object). allows x c.args.access) (h.objects c.args.object)

pub returns-in-Take-clause-possible : goal.returns-in-Take-clause-possible
returns-in-Take-clause-possible c = rw c.in-Take.is
    (c.can_take.ensures
    ∙ ap (λ (x : Object). nat_lt 0 x.count) (seen c.self.inside c.args.self.now c.self.view_is
    c.object.inside.number c.args.object c.object.view_is c.object.invariant))

pub returns-in-Take-clause-stands : goal.returns-in-Take-clause-stands
returns-in-Take-clause-stands c = λ s d h.
    returns-in-Take-clause-possible c ∙ ap (λ (x : Object). allows x c.args.access) (h.objects c.args.object)

pub returns-in-Give-clause-possible : goal.returns-in-Give-clause-possible
returns-in-Give-clause-possible c = rw c.in-Give.is
    (c.can_give.ensures
    ∙ ap (λ (x : Object). nat_lt x.count x.max_count) (seen c.self.inside c.args.self.now
    c.self.view_is c.object.inside.number c.args.object c.object.view_is c.object.invariant))

pub returns-in-Give-clause-stands : goal.returns-in-Give-clause-stands
returns-in-Give-clause-stands c = λ s d h.
    returns-in-Give-clause-possible c ∙ ap (λ (x : Object). allows x c.args.access) (h.objects c.args.object)

pub returns-in-Lock-clause-possible : goal.returns-in-Lock-clause-possible
returns-in-Lock-clause-possible c = rw c.in-Lock.is
    (turned (is_some c.holder.result) c.is_none.result c.is_none.ensures ∙ ap (λ (h : Option ℕ). is_none h) c.holder.ensures.holder
    ∙ ap (λ (x : Object). is_none x.holder) (seen c.self.inside c.args.self.now c.self.view_is
    c.object.inside.number c.args.object c.object.view_is c.object.invariant))

pub returns-in-Lock-clause-stands : goal.returns-in-Lock-clause-stands
returns-in-Lock-clause-stands c = λ s d h.
    returns-in-Lock-clause-possible c ∙ ap (λ (x : Object). allows x c.args.access) (h.objects c.args.object)
