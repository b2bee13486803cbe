use Rattle.std.proofs.Common.{◌≡◌, ℕ, ◌<◌, rules, List, None, set, sym, ◌∙◌, ap, subst, arith}
use Rattle.lists.specs.Lists.{IsSound, entries_of, place_of}
use Rattle.model.specs.Waiting.{wait_in}
use Rattle.objects.specs.Places.{list_places}
use Rattle.objects.specs.WaitingLists.{AreWaitingLists, mirrored, number_of}
use Rattle.task_lists.specs.Tasks.{insert_by_priority}
use Rattle.objects.specs.WaitersStand.{WaitersStand}
use Rattle.objects.proofs.Mirror.{are_waiting_put, mirrored-put, place_of-mirrored, sound-mirrored}
use Rattle.objects.proofs.Placing.{stands_begun, stands_placed}
use Rattle.objects.proofs.waiting_lists.WaitingLists.wait.Goals as goal

pub insert_sorted-requires : goal.insert_sorted-requires
insert_sorted-requires c =
    let task = c.args.task in
    let free : place_of c.self.inside.lists task ≡ None =
    sym (place_of-mirrored task c.self.inside.lists)
    ∙ ap (λ (ls : List (List (ℕ × ℕ))). place_of ls task) c.self.view_is
    ∙ c.requires.free in
    (search rules, (c.list_id.ensures.known, free))

pub invariant_of-self : goal.invariant_of-self
invariant_of-self c =
    let put = c.insert_sorted.ensures.put in
    let known = c.requires.priority in
    subst AreWaitingLists (sym put) (are_waiting_put c.self.invariant c.list_id.result.number c.args.task _
    c.list_id.ensures.known (omega (arith, known)) (subst (IsSound list_places 32) put c.insert_sorted.ensures.sound))

pub returns-clause-put : goal.returns-clause-put
returns-clause-put c =
    let l = c.list_id.result.number in
    let n = c.args.task in
    let p = c.args.priority in
    let known = c.requires.priority in
    ap mirrored c.insert_sorted.ensures.put
    ∙ mirrored-put c.self.invariant l n p (omega (arith, known))
    ∙ ap (λ (ls : List (List (ℕ × ℕ))). set ls l (insert_by_priority (n, p) (entries_of ls l))) c.self.view_is
    ∙ ap (λ (k : ℕ). set c.args.self.now k (insert_by_priority (n, p) (entries_of c.args.self.now k))) c.list_id.ensures.number

pub returns-clause-sound : goal.returns-clause-sound
returns-clause-sound c = sound-mirrored c.insert_sorted.ensures.sound

pub returns-clause-begins : goal.returns-clause-begins
returns-clause-begins c = λ s h within priority.
    let sound : IsSound list_places 32 c.args.self.now =
    subst (IsSound list_places 32) c.self.view_is (sound-mirrored c.self.invariant.sound) in
    let known : number_of c.args.list < list_places =
    subst (λ (k : ℕ). k < list_places) c.list_id.ensures.number c.list_id.ensures.known in
    subst (λ (v : List (List (ℕ × ℕ))). WaitersStand v None (wait_in c.args.task c.args.list s)) (sym (returns-clause-put c))
    (stands_begun c.args.self.now s c.args.list c.args.priority c.args.task sound c.requires.free known h within priority)

pub returns-clause-places : goal.returns-clause-places
returns-clause-places c = λ s h.
    let sound : IsSound list_places 32 c.args.self.now =
    subst (IsSound list_places 32) c.self.view_is (sound-mirrored c.self.invariant.sound) in
    let known : number_of c.args.list < list_places =
    subst (λ (k : ℕ). k < list_places) c.list_id.ensures.number c.list_id.ensures.known in
    subst (λ (v : List (List (ℕ × ℕ))). WaitersStand v None s) (sym (returns-clause-put c))
    (stands_placed c.args.self.now s c.args.list c.args.priority c.args.task sound.as_many known h)
