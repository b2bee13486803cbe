use Rattle.std.proofs.Common.{◌≡◌, ◌≤◌, ◌&&◌, true, eqb, List, length, rules, sym, ◌∙◌}
use lib.Pointwise.{pointwise}
use Rattle.std.proofs.Math.Bool.{and_assoc}
use Rattle.model.specs.declared.plan.Injection.{Injection}
use Rattle.model.specs.Packing.{handlers_of, steps_of}
use Rattle.model.proofs.Points.{same_point}
use Rattle.campaign.proofs.worker.again.Goals as goal

same : (xs ys : List Injection) → length xs ≤ 3 → length ys ≤ 3
    → pointwise eqb (steps_of xs) (steps_of ys) && (pointwise eqb (handlers_of xs) (handlers_of ys) && eqb (length xs) (length ys))
    ≡ true
    → xs ≡ ys
same xs ys few few' e =
    same_point xs ys few few' (and_assoc (pointwise eqb (steps_of xs) (steps_of ys))
    (pointwise eqb (handlers_of xs) (handlers_of ys)) (eqb (length xs) (length ys))
    ∙ e)

pub returns-then-eq : goal.returns-then-eq
returns-then-eq c = record {
  row = c.in_ok-row.row.now;
  is = search rules;
  at_point =
      same c.in_ok-row.row.now.point c.args.point.now c.well_formed-2.ensures.few
      c.well_formed-3.ensures.few (sym c.eq.ensures ∙ c.if-eq.true);
}
