use Rattle.std.proofs.Common.{◌≡◌, ◌++◌, List, ℕ, length, sym, ap, ◌∙◌, subst, arith}
use Rattle.std.specs.List.{concat}
use Rattle.deal.specs.Totals.{HasEachOnce}
use Rattle.deal.specs.Marks.{IsAmong}
use Rattle.deal.specs.Sharing.{Game, Sight, lists_of}
use Rattle.deal.specs.Closing.{IsMarked, items_of, unmarked}
use Rattle.deal.specs.declared.count.Mark.{Mark}
use Rattle.deal.proofs.Gathering.{each_once, none_unmarked, length_unmarked}
use Rattle.deal.proofs.Members.{each_of_all}
use Rattle.deal.proofs.deal.Deal.close.Goals as goal
use Rattle.deal.proofs.deal.Deal.close.Goals.{After-drop-shared}

module _ (c : After-drop-shared) where
  abbrev n : ℕ
  n = length c.args.self.lengths

  blocks : length c.self.inside.shared.value.division ≡ n
  blocks = ap (λ (g : Game). length g.lengths) c.self.view_is

  full : length c.mark_all.new.marks ≡ n
  full =
      c.mark_all.ensures.0 ∙ ap length c.deref_mut-marks.ensures.value ∙ ap length c.self.invariant.4 ∙ length_unmarked _ ∙ blocks

  marked : IsMarked (concat (lists_of c.args.lanes.items)) c.mark_all.new.marks
  marked =
      subst (λ l. IsMarked (concat l) c.mark_all.new.marks)
      (ap items_of c.deref.ensures.value ∙ c.take_back.ensures.lists) c.mark_all.ensures.1

  all : c.self.inside.dealer.me.0.all ≡ n
  all = ap (λ (m : Mark). m.all) c.self.invariant.1.1 ∙ c.self.invariant.0 ∙ blocks

  among : IsAmong n (concat (lists_of c.args.lanes.items))
  among = subst (λ k. IsAmong k (concat (lists_of c.args.lanes.items))) all c.take_back.ensures.among

pub returns-clause-once : goal.returns-clause-once
returns-clause-once c =
    let lists = concat (lists_of c.args.lanes.items) in
    let marks = c.mark_all.new.marks in
    subst (λ (r : List ℕ). HasEachOnce (n c) (lists ++ r)) (sym (c.keep_unmarked.ensures ∙ ap (λ k. unmarked k marks) (full c)))
    (each_once (n c) lists marks (full c) (among c) (marked c))

pub returns-clause-all : goal.returns-clause-all
returns-clause-all c back seen =
    let lists = concat (lists_of c.args.lanes.items) in
    let marks = c.mark_all.new.marks in
    let lanes : c.self.inside.dealer.me.0.lanes ≡ c.args.self.lanes =
    ap (λ (m : Mark). m.lanes) c.self.invariant.1.1 ∙ ap (λ (g : Game). g.lanes) c.self.view_is in
    let many = c.take_back.ensures.all (back ∙ sym lanes) seen in
    c.keep_unmarked.ensures ∙ ap (λ k. unmarked k marks) (full c)
    ∙ none_unmarked (n c) lists marks (full c) (among c) (marked c) (omega (arith, many, all c))

pub take_back-requires-clause-lanes : goal.take_back-requires-clause-lanes
take_back-requires-clause-lanes c =
    let s = c.self.inside.shared.value in
    let v = c.self.view_is in
    let d = c.self.invariant.1 in
    let P : Sight → Type 0 = λ lane.
    (lane.game.table ≡ c.self.inside.dealer.table_id) × (length lane.game.lengths ≡ c.self.inside.dealer.me.0.all)
    × (lane.game.lanes ≡ c.self.inside.dealer.me.0.lanes) in
    each_of_all P c.args.lanes.items (λ k e short.
    let is = c.requires k e short ∙ sym v in (
      ap (λ (g : Game). g.table) is ∙ sym d.0.0,
      ap (λ (g : Game). length g.lengths) is ∙ sym (ap (λ (m : Mark). m.all) d.1 ∙ c.self.invariant.0),
      ap (λ (g : Game). g.lanes) is ∙ sym (ap (λ (m : Mark). m.lanes) d.1),
    ))
