use Rattle.std.proofs.Common.{Some, List, Option, ℕ, ◌∙◌, ap, sym, refl, map}
use Rattle.std.proofs.lemmas.List.{map-set}
use Rattle.objects.specs.Mutexes.{holder_in, named_by}
use Rattle.objects.proofs.Holding.{mutex_freed, named_put, one_held}
use Rattle.objects.proofs.mutexes.Mutexes.unlock.Goals as goal

pub overflow_sub-self : goal.overflow_sub-self
overflow_sub-self c =
    one_held (map named_by c.self.inside.holders) c.self.inside.held c.self.invariant
    c.args.object c.requires.known c.task.inside.number c.task.invariant
    (ap (λ (hs : List (Option ℕ)). holder_in hs c.args.object) c.self.view_is ∙ c.requires.held ∙ ap Some (sym c.task.view_is))

pub invariant_of-self : goal.invariant_of-self
invariant_of-self c =
    rw map-set
    (mutex_freed (map named_by c.self.inside.holders) c.self.inside.held c.self.invariant
    c.args.object c.requires.known c.task.inside.number c.task.invariant
    (ap (λ (hs : List (Option ℕ)). holder_in hs c.args.object) c.self.view_is ∙ c.requires.held ∙ ap Some (sym c.task.view_is)))

pub returns-clause-free : goal.returns-clause-free
returns-clause-free c = named_put c.self.inside.holders c.args.object 255 c.self.view_is refl
