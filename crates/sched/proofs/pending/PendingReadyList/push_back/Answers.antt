use Rattle.std.proofs.Common.{ℕ, List, [], ◌∷◌, ◌++◌, ◌∙◌, ap, rules, ◌≡◌, None}
use Rattle.lists.specs.Lists.{entries_of, place_of}
use Rattle.task_lists.specs.Tasks.{is_among, tasks_in}
use Rattle.sched.proofs.OneList.{in_no_list, tasks_pushed}
use Rattle.sched.proofs.pending.PendingReadyList.push_back.Goals as goal

pub push_back-requires : goal.push_back-requires
push_back-requires c =
    let i = c.args.task in
    let free : place_of c.self.inside.lists i ≡ None =
    in_no_list c.self.invariant i (ap (is_among i) c.self.view_is ∙ c.requires.free) in
    (search rules, (search rules, free))

pub returns : goal.returns
returns c =
    let i = c.args.task in
    record {
      put =
          ap (λ (ls : List (List (ℕ × ℕ))). tasks_in (entries_of ls 0)) c.push_back.ensures.put
          ∙ tasks_pushed c.self.invariant i ∙ ap (λ (ts : List ℕ). ts ++ i ∷ []) c.self.view_is;
    }
