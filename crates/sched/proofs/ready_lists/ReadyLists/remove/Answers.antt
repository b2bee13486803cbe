use Rattle.std.proofs.Common.{◌≡◌, ◌≢◌, ℕ, ◌<◌, ◌*◌, ◌^◌, ◌%◌, List, [], Some, None, bit_and, map, sym, ◌∙◌, ap, subst, arith}
use Rattle.std.specs.Int.{bit_not, w32}
use Rattle.lists.specs.Lists.{IsSound, entries_of, place_of, without}
use Rattle.lists.proofs.Laws.{map-without-None, place_of-below}
use Rattle.sched.specs.ReadyLists.{AreReadyLists}
use Rattle.sched.proofs.Bits.{bit_cleared, bit_kept}
use Rattle.sched.proofs.ready_lists.ReadyLists.remove.Goals as goal

pub invariant_of-self : goal.invariant_of-self
invariant_of-self c =
    let n = c.args.task in
    let list = c.in-Some.list.number in
    let removed = c.remove.ensures.removed in
    let at : place_of c.self.inside.lists n ≡ Some list = sym c.in-Some.ensures.list in
    let known : list < 32 =
    let many = c.self.invariant.sound.as_many in
    omega (arith, many, place_of-below n list c.self.inside.lists at) in
    let empty =
    ap (λ (ls : List (List (ℕ × ℕ))). entries_of ls list) (sym removed) ∙ c.is_empty.ensures.empty.0 c.if-is_empty.true in
    subst (λ (ls : List (List (ℕ × ℕ))). AreReadyLists ls (bit_and c.self.inside.occupied (bit_not w32 (1 * 2 ^ list % 2 ^ 32))))
    (sym removed)
    (bit_cleared c.self.invariant n list known at (subst (IsSound 32 32) removed c.remove.ensures.sound) empty)

pub invariant_of-self-else-is_empty : goal.invariant_of-self-else-is_empty
invariant_of-self-else-is_empty c =
    let n = c.args.task in
    let list = c.in-Some.list.number in
    let removed = c.remove.ensures.removed in
    let at : place_of c.self.inside.lists n ≡ Some list = sym c.in-Some.ensures.list in
    let some : entries_of (map (without n) c.self.inside.lists) list ≢ [] = λ e.
    let t = c.is_empty.ensures.empty.1 (ap (λ (ls : List (List (ℕ × ℕ))). entries_of ls list) removed ∙ e) in
    cc (c.if-is_empty.false, t) in
    subst (λ (ls : List (List (ℕ × ℕ))). AreReadyLists ls c.self.inside.occupied) (sym removed)
    (bit_kept c.self.invariant n list at (subst (IsSound 32 32) removed c.remove.ensures.sound) some)

pub returns-in_default-clause-removed : goal.returns-in_default-clause-removed
returns-in_default-clause-removed c =
    let none : place_of c.self.inside.lists c.args.task ≡ None = sym c.in_default.ensures.list in
    sym c.self.view_is ∙ sym (map-without-None c.self.invariant.sound c.args.task none)
    ∙ ap (map (without c.args.task)) c.self.view_is
