use Rattle.std.proofs.Common.{◌≡◌, Some, None, List, Option, ℕ, ◌+◌, arith, ◌∙◌, ap, subst, get_or, set, map}
use Rattle.std.proofs.lemmas.List.{map-set, set-get_or}
use Rattle.objects.specs.Mutexes.{AreMutexes, holder_in, named_by}
use Rattle.objects.proofs.Holding.{few_held, mutex_locked, named_put}
use Rattle.objects.proofs.mutexes.Mutexes.lock.Goals as goal

pub overflow_add-self : goal.overflow_add-self
overflow_add-self c =
    let few =
    few_held (map named_by c.self.inside.holders) c.self.inside.held c.self.invariant
    c.args.object c.requires.known c.task.inside.number c.task.invariant in
    omega (arith, few)

pub invariant_of-self : goal.invariant_of-self
invariant_of-self c =
    let m = c.self.inside in
    let free : holder_in (map named_by m.holders) c.args.object ≡ None =
    ap (λ (hs : List (Option ℕ)). holder_in hs c.args.object) c.self.view_is ∙ c.requires.free in
    let t = c.task.inside.number in
    rw (map-set, c.byte_of.ensures, c.in-Some.is)
    (subst (λ (i : ℕ). AreMutexes (set (map named_by m.holders) c.args.object (Some i)) (set m.held t (get_or m.held t 0 + 1)))
    c.task.view_is
    (mutex_locked (map named_by m.holders) m.held c.self.invariant c.args.object c.requires.known t c.task.invariant free))

pub invariant_of-self-in_default : goal.invariant_of-self-in_default
invariant_of-self-in_default c =
    let m = c.self.inside in
    let free : holder_in (map named_by m.holders) c.args.object ≡ None =
    ap (λ (hs : List (Option ℕ)). holder_in hs c.args.object) c.self.view_is ∙ c.requires.free in
    rw (map-set, c.byte_of.ensures, c.in_default.is)
    (subst (λ (holder : Option ℕ). AreMutexes (set (map named_by m.holders) c.args.object holder) m.held) free
    (rw set-get_or c.self.invariant))

pub returns-in-Some-clause-locked : goal.returns-in-Some-clause-locked
returns-in-Some-clause-locked c =
    named_put c.self.inside.holders c.args.object c.byte_of.result c.self.view_is c.byte_of.ensures

pub returns-in_default-clause-locked : goal.returns-in_default-clause-locked
returns-in_default-clause-locked c =
    named_put c.self.inside.holders c.args.object c.byte_of.result c.self.view_is c.byte_of.ensures
