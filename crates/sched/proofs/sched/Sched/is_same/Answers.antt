use Rattle.std.proofs.Common.{◌≡◌, arith}
use Rattle.lists.proofs.Compared.{same_flag, same_list, same_number, same_option, same_told}
use Rattle.sched.proofs.sched.Sched.is_same.Goals as goal

pub returns-then-is_same : goal.returns-then-is_same
returns-then-is_same c = λ same.
    let current : c.self.inside.current ≡ c.other.inside.current =
    same_told _ (same_option _ same_number) c.self.inside.current c.other.inside.current c.if-ne.ensures in
    let depth : c.self.inside.depth ≡ c.other.inside.depth = omega arith in
    let suspensions : c.self.inside.suspensions ≡ c.other.inside.suspensions = omega arith in
    let suspended : c.self.inside.suspended ≡ c.other.inside.suspended =
    same_told _ (same_list _ same_flag) c.self.inside.suspended c.other.inside.suspended c.if-ne-2.ensures in
    let priorities : c.self.inside.priorities ≡ c.other.inside.priorities =
    c.are_same_bytes.ensures c.if-not-are_same_bytes.false in
    let base_priorities : c.self.inside.base_priorities ≡ c.other.inside.base_priorities =
    c.are_same_bytes-else-not-are_same_bytes.ensures c.if-not-are_same_bytes-2.false in
    let ready = c.is_same.ensures c.if-is_same.true in
    let pending = c.is_same-then-is_same.ensures same in
    cc
