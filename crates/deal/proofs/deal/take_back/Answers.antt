use Rattle.std.proofs.Common.{◌≡◌, ◌≤◌, ◌++◌, ◌∷◌, [], List, append_assoc, length, length-append, reverse, sym, refl, ap, ◌∙◌}
use Rattle.std.proofs.Common.{subst, arith}
use Rattle.std.proofs.lemmas.List.{reverse-append}
use Rattle.deal.specs.Marks.{IsAmong}
use Rattle.std.specs.List.{concat, AllByRecursion}
use Rattle.deal.specs.Sharing.{Sight, SomeHasSeenAll, lists_of}
use Rattle.deal.specs.Closing.{items_of}
use Rattle.deal.specs.declared.count.Mark.{Mark}
use Rattle.deal.proofs.Gathering.{reverse_twice, none_back, back_more, all_back, lists_last, items_last, none_left}
use Rattle.deal.proofs.Members.{each_middle}
use Rattle.deal.proofs.deal.take_back.Goals as goal

pub loop-lane-init : goal.loop-lane-init
loop-lane-init c =
    let m = c.args.dealer.now.me.0 in
    let is = c.requires.dealer.0 in
    let none : c.args.lists.now.items ≡ [] = c.requires.lists.0 in (
      [],
      sym (reverse_twice c.args.lanes.items) ∙ ap (λ (l : List Sight). reverse l) (sym c.reverse.ensures.items),
      ap items_of none,
      omega (arith, c.args.lists.now.ok, ap length none),
      refl,
      refl,
      c.requires.dealer.1,
      none_back m (ap (λ (v : Mark). v.parts) is) (ap (λ (v : Mark). v.counted) is) (ap (λ (v : Mark). v.blocks) is),
    )

pub hand_back-list-requires : goal.hand_back-list-requires
hand_back-list-requires c =
    let i = c.loop-lane.invariant in
    let rest = c.pop.new.self.items in
    let lane = c.in-Some.lane in
    let b = i.7 in
    let split : c.args.lanes.items ≡ i.0 ++ lane ∷ reverse rest =
    i.1 ∙ ap (λ l. i.0 ++ l) (ap (λ (l : List Sight). reverse l) c.in-Some.ensures.items ∙ reverse-append rest (lane ∷ [])) in
    let mine = each_middle _ i.0 lane (reverse rest) (subst (AllByRecursion _) split c.requires.lanes) in (
      (i.5 ∙ sym mine.0, i.6, omega (arith, ap (λ z. z.words) (sym mine.0), c.requires.dealer.2)),
      b.0 ∙ sym mine.1,
      b.1 ∙ sym mine.2,
    )

pub push_reserved-requires : goal.push_reserved-requires
push_reserved-requires c =
    let i = c.loop-lane.invariant in
    let e = c.hand_back-list.ensures.dealer.1 in
    omega (arith, i.3, i.4, c.requires.lists.1, e.8, e.2, e.1, i.7.1, i.7.2)

pub loop-lane-preserved : goal.loop-lane-preserved
loop-lane-preserved c =
    let i = c.loop-lane.invariant in
    let rest = c.pop.new.self.items in
    let lane = c.in-Some.lane in
    let e = c.hand_back-list.ensures in
    let p = c.push_reserved.ensures in
    let split : c.args.lanes.items ≡ i.0 ++ lane ∷ reverse rest =
    i.1 ∙ ap (λ l. i.0 ++ l) (ap (λ (l : List Sight). reverse l) c.in-Some.ensures.items ∙ reverse-append rest (lane ∷ [])) in
    let mine = each_middle _ i.0 lane (reverse rest) (subst (AllByRecursion _) split c.requires.lanes) in (
      i.0 ++ lane ∷ [],
      split ∙ sym (append_assoc i.0 (lane ∷ []) (reverse rest)),
      ap items_of p.items ∙ items_last c.loop-lane.lists.items c.hand_back-list.result
          ∙ ap (λ l. l ++ c.hand_back-list.result.items ∷ []) i.2
          ∙ ap (λ l. lists_of i.0 ++ l ∷ []) e.list ∙ sym (lists_last i.0 lane),
      omega (arith, p.len, i.3, length-append i.0 (lane ∷ [])),
      p.capacity ∙ i.4,
      e.dealer.0.0 ∙ mine.0,
      e.dealer.0.1,
      back_more c.args.dealer.now.me.0 i.0 lane c.loop-lane.dealer.me.0 c.hand_back-list.new.dealer.me.0 mine.1 i.7 e.dealer.1,
    )

pub returns : goal.returns
returns c =
    let i = c.loop-lane.invariant in
    let m = c.args.dealer.now.me.0 in
    let whole : c.args.lanes.items ≡ i.0 =
    none_left c.args.lanes.items i.0 c.loop-lane.lanes.items i.1
    (omega (arith, c.loop-lane.lanes.ok, c.in_default.ensures.cases.0)) in
    record {
      lists = i.2 ∙ ap lists_of (sym whole);
      among = subst (λ (l : List Sight). IsAmong m.all (concat (lists_of l))) (sym whole) (subst (IsAmong m.all) i.7.3 i.7.5);
      all =
          subst (λ (l : List Sight). length l ≡ m.lanes → SomeHasSeenAll l → m.all ≤ length (concat (lists_of l)))
          (sym whole) (all_back m i.0 c.loop-lane.dealer.me.0 i.7);
    }
