use Rattle.std.proofs.Common.{◌≡◌, ℕ, ◌<◌, true, false, Option, List, [], ◌∷◌, ◌++◌, map, length, rules, sym, ◌∙◌, subst}
use Rattle.model.specs.Groups.{bits_left, is_met}
use Rattle.lists.specs.Lists.{IsSound, entries_of, without}
use Rattle.groups.specs.EventGroups.{wanted_by}
use Rattle.groups.proofs.Passing.{Passed, from, has_room, passed_all, shorter_met, shorter_unmet, turn_met, turn_unmet}
use Rattle.groups.proofs.met.take_met.Goals as goal

pub push-requires : goal.push-requires
push-requires c =
    let n = c.in-Some.task in
    let ls = c.loop-at.lists in
    let l = c.args.list.number in
    let ws = c.args.wants.now in
    let P : Option ℕ → Type 0 = λ o. Passed c.args.lists.now ls l ws c.args.bits o c.loop-at.met.tasks.items c.loop-at.met.left in
    let few : length c.loop-at.met.tasks.items < 32 =
    has_room c.args.lists.now ls l ws c.args.bits n c.loop-at.met.tasks.items c.loop-at.met.left c.next_in_list-at.result
    (subst P c.in-Some.is c.loop-at.invariant.0) c.next_in_list-at.ensures.next c.requires.sound in
    (search rules, few)

pub loop-at-preserved : goal.loop-at-preserved
loop-at-preserved c =
    let n = c.in-Some.task in
    let ls = c.loop-at.lists in
    let l = c.args.list.number in
    let ws = c.args.wants.now in
    let bits = c.args.bits in
    let P : Option ℕ → Type 0 = λ o. Passed c.args.lists.now ls l ws bits o c.loop-at.met.tasks.items c.loop-at.met.left in
    let unmet : is_met bits (wanted_by ws n) ≡ false =
    subst (λ (k : ℕ). is_met bits (wanted_by ws k) ≡ false) c.task.view_is (sym c.is_met.ensures.met ∙ c.if-is_met.false) in (
      turn_unmet c.args.lists.now ls l ws bits n c.loop-at.met.tasks.items c.loop-at.met.left c.next_in_list-at.result
          (subst P c.in-Some.is c.loop-at.invariant.0) c.next_in_list-at.ensures.next unmet,
      c.loop-at.invariant.1,
    )

pub loop-at-smaller : goal.loop-at-smaller
loop-at-smaller c =
    let n = c.in-Some.task in
    let ls = c.loop-at.lists in
    let l = c.args.list.number in
    let ws = c.args.wants.now in
    let bits = c.args.bits in
    let P : Option ℕ → Type 0 = λ o. Passed c.args.lists.now ls l ws bits o c.loop-at.met.tasks.items c.loop-at.met.left in
    let unmet : is_met bits (wanted_by ws n) ≡ false =
    subst (λ (k : ℕ). is_met bits (wanted_by ws k) ≡ false) c.task.view_is (sym c.is_met.ensures.met ∙ c.if-is_met.false) in
    let less =
    shorter_unmet c.args.lists.now ls l ws bits n c.loop-at.met.tasks.items c.loop-at.met.left c.next_in_list-at.result
    (subst P c.in-Some.is c.loop-at.invariant.0) c.next_in_list-at.ensures.next unmet in
    subst (λ (o : Option ℕ). length (from c.next_in_list-at.result (entries_of ls l)) < length (from o (entries_of ls l)))
    (sym c.in-Some.is) less

pub loop-at-preserved-then-is_met : goal.loop-at-preserved-then-is_met
loop-at-preserved-then-is_met c =
    let n = c.in-Some.task in
    let ls = c.loop-at.lists in
    let l = c.args.list.number in
    let ws = c.args.wants.now in
    let bits = c.args.bits in
    let tasks = c.loop-at.met.tasks.items in
    let P : Option ℕ → Type 0 = λ o. Passed c.args.lists.now ls l ws bits o tasks c.loop-at.met.left in
    let met : is_met bits (wanted_by ws n) ≡ true =
    subst (λ (k : ℕ). is_met bits (wanted_by ws k) ≡ true) c.task.view_is (sym c.is_met.ensures.met ∙ c.if-is_met.true) in
    let sound : IsSound 17 32 (map (without n) ls) = subst (IsSound 17 32) c.remove.ensures.removed c.remove.ensures.sound in
    let left : c.bits_left-met.result ≡ bits_left c.loop-at.met.left (wanted_by ws n) =
    subst (λ (k : ℕ). c.bits_left-met.result ≡ bits_left c.loop-at.met.left (wanted_by ws k))
    c.task.view_is c.bits_left-met.ensures.left in
    let one =
    turn_met c.args.lists.now ls l ws bits n tasks c.loop-at.met.left c.next_in_list-at.result
    (subst P c.in-Some.is c.loop-at.invariant.0) c.next_in_list-at.ensures.next met sound in (
      subst (λ (k : ℕ). Passed c.args.lists.now c.remove.new.self l ws bits c.next_in_list-at.result c.push.new.self.items k)
          (sym left)
          (subst (λ (ts : List ℕ).
          Passed c.args.lists.now c.remove.new.self l ws bits c.next_in_list-at.result ts
          (bits_left c.loop-at.met.left (wanted_by ws n)))
          (sym c.push.ensures.items)
          (subst (λ (ms : List (List (ℕ × ℕ))).
          Passed c.args.lists.now ms l ws bits c.next_in_list-at.result (tasks ++ n ∷ [])
          (bits_left c.loop-at.met.left (wanted_by ws n)))
          (sym c.remove.ensures.removed) one)),
      c.loop-at.invariant.1,
    )

pub loop-at-smaller-then-is_met : goal.loop-at-smaller-then-is_met
loop-at-smaller-then-is_met c =
    let n = c.in-Some.task in
    let ls = c.loop-at.lists in
    let l = c.args.list.number in
    let ws = c.args.wants.now in
    let bits = c.args.bits in
    let tasks = c.loop-at.met.tasks.items in
    let P : Option ℕ → Type 0 = λ o. Passed c.args.lists.now ls l ws bits o tasks c.loop-at.met.left in
    let met : is_met bits (wanted_by ws n) ≡ true =
    subst (λ (k : ℕ). is_met bits (wanted_by ws k) ≡ true) c.task.view_is (sym c.is_met.ensures.met ∙ c.if-is_met.true) in
    let sound : IsSound 17 32 (map (without n) ls) = subst (IsSound 17 32) c.remove.ensures.removed c.remove.ensures.sound in
    let less =
    shorter_met c.args.lists.now ls l ws bits n tasks c.loop-at.met.left c.next_in_list-at.result
    (subst P c.in-Some.is c.loop-at.invariant.0) c.next_in_list-at.ensures.next met sound in
    subst (λ (ms : List (List (ℕ × ℕ))).
    length (from c.next_in_list-at.result (entries_of ms l)) < length (from c.loop-at.at (entries_of ls l)))
    (sym c.remove.ensures.removed)
    (subst (λ (o : Option ℕ).
    length (from c.next_in_list-at.result (entries_of (map (without n) ls) l)) < length (from o (entries_of ls l)))
    (sym c.in-Some.is) less)

pub returns-clause-tasks : goal.returns-clause-tasks
returns-clause-tasks c =
    let h = c.loop-at.invariant.0 in
    let P : Option ℕ → Type 0 = λ o.
    Passed c.args.lists.now c.loop-at.lists c.args.list.number
    c.args.wants.now c.args.bits o c.loop-at.met.tasks.items c.loop-at.met.left in
    (passed_all c.args.lists.now c.loop-at.lists c.args.list.number c.args.wants.now c.args.bits
    c.loop-at.met.tasks.items c.loop-at.met.left c.requires.list c.requires.sound (subst P c.in_default.is h)).0

pub returns-clause-unmet : goal.returns-clause-unmet
returns-clause-unmet c =
    let h = c.loop-at.invariant.0 in
    let P : Option ℕ → Type 0 = λ o.
    Passed c.args.lists.now c.loop-at.lists c.args.list.number
    c.args.wants.now c.args.bits o c.loop-at.met.tasks.items c.loop-at.met.left in
    (passed_all c.args.lists.now c.loop-at.lists c.args.list.number c.args.wants.now c.args.bits
    c.loop-at.met.tasks.items c.loop-at.met.left c.requires.list c.requires.sound (subst P c.in_default.is h)).1
