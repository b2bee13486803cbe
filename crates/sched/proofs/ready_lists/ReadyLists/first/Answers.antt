use Rattle.std.proofs.Common.{rules, ℕ, List, Some, sym, ◌∙◌, ap, subst}
use Rattle.lists.specs.Lists.{entries_of, first_of}
use Rattle.sched.specs.ReadyLists.{IsHighest}
use Rattle.sched.proofs.ReadyList.{first_of_highest, first_of_none}
use Rattle.sched.proofs.ready_lists.ReadyLists.first.Goals as goal

pub returns-in_err-list : goal.returns-in_err-list
returns-in_err-list c =
    record { first = rw c.from_residual.ensures (sym (first_of_none c.args.self.now c.in_err-list.ensures.highest)) }

pub front-requires : goal.front-requires
front-requires c =
    let highest =
    subst (λ (ls : List (List (ℕ × ℕ))). IsHighest ls (Some c.in_ok-list.list.number))
    (sym c.self.view_is) c.in_ok-list.ensures.highest in
    (search rules, (highest.0, highest.1))

pub returns : goal.returns
returns c =
    let highest = first_of_highest c.args.self.now c.in_ok-list.list.number c.in_ok-list.ensures.highest in
    record {
      first =
          c.front.ensures.first
          ∙ ap (λ (ls : List (List (ℕ × ℕ))). first_of (entries_of ls c.in_ok-list.list.number)) c.self.view_is ∙ sym highest;
    }
