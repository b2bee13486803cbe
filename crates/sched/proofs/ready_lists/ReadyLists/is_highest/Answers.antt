use Rattle.std.proofs.Common.{rules, ℕ, List, ◌<◌, ◌/◌, ◌^◌, Some, sym, subst}
use Rattle.std.proofs.lemmas.Bool.{eq-eqb}
use Rattle.model.proofs.Lists.{eqb-same}
use Rattle.sched.specs.ReadyLists.{IsHighest}
use Rattle.sched.proofs.Bits.{bit_of_highest, highest_by_bit}
use Rattle.sched.proofs.ready_lists.ReadyLists.is_highest.Goals as goal

pub returns : goal.returns
returns c =
    let p = c.args.list.number in
    let fits : c.self.inside.occupied < 2 ^ 32 = search rules in
    let P : List (List (ℕ × ℕ)) → Type 0 = λ ls. IsHighest ls (Some p) in
    record {
      highest = (
        λ t. subst P c.self.view_is (highest_by_bit c.self.invariant p c.requires (eqb-same (c.self.inside.occupied / 2 ^ p) 1 t)),
        λ h. eq-eqb (c.self.inside.occupied / 2 ^ p) 1 (bit_of_highest c.self.invariant fits p (subst P (sym c.self.view_is) h)),
      );
    }
