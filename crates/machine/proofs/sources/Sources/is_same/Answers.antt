use Rattle.std.proofs.Common.{◌≡◌, ◌∙◌, sym, subst}
use Rattle.lists.proofs.Compared.{same_flag, same_list}
use Rattle.model.proofs.Lists.{eqb-same}
use Rattle.machine.specs.Sources.{Sources}
use Rattle.machine.specs.StandsFor.{AreSources}
use Rattle.machine.proofs.AlikeSources.{are_too}
use Rattle.machine.proofs.sources.Sources.is_same.Goals.{then-self-other, else-self-other}
use Rattle.machine.proofs.sources.Sources.is_same.Goals as goal

pub returns-then-eq : goal.returns-then-eq
returns-then-eq c = λ e. elim c.if-self-other.branch [
  | then-self-other w ↦
      let pending : c.self.inside.pending ≡ c.other.inside.pending =
      same_list _ same_flag c.self.inside.pending c.other.inside.pending (sym w.eq.ensures ∙ sym w.value-is ∙ c.if-eq.true) in
      let those : Sources =
      record { number = c.self.inside.number; pending = c.self.inside.pending; arrivals = c.self.inside.arrivals } in
      let others : Sources =
      record { number = c.other.inside.number; pending = c.other.inside.pending; arrivals = c.other.inside.arrivals } in
      λ xs are.
      subst (λ (v : Sources). AreSources c.args.elapsed v xs) c.other.view_is
      (are_too c.args.elapsed those others xs w.if-self-other.true pending (c.is_same.ensures.same e) c.is_same.ensures.full
      (subst (λ (v : Sources). AreSources c.args.elapsed v xs) (sym c.self.view_is) are))
  | else-self-other w ↦
      absurd (w.if-self-other.false (eqb-same c.self.inside.number c.other.inside.number (sym w.value-is ∙ c.if-eq.true)))
]
