use Rattle.std.proofs.Common.{◌≡◌, ◌<◌, ℕ, true, get_or}
use Rattle.std.specs.Option.{is_some}
use Rattle.lists.specs.Lists.{place_of}
use Rattle.groups.specs.EventGroups.{no_condition}
use Rattle.groups.proofs.groups.Groups.has_same_wants.Given as goal

abbrev pub invariant-loop-task : goal.invariant-loop-task
invariant-loop-task l =
    (i : ℕ) → i < l.task → is_some (place_of l.self-inside.lists i) ≡ true
    → get_or l.other-inside.wants i no_condition ≡ get_or l.self-inside.wants i no_condition
