use Rattle.std.proofs.Common.{◌≡◌, ◌++◌, [], ◌∷◌, length, sym, ap, ◌∙◌, arith, subst}
use Rattle.crossbeam_deque.specs.Handles.{worker_view}
use Rattle.deal.specs.declared.count.Mark.{Mark}
use Rattle.deal.specs.Marks.{IsShareOf}
use Rattle.deal.specs.Lanes.{IsLane, Took, game, sight}
use Rattle.deal.specs.Totals.{times}
use Rattle.deal.specs.Sharing.{Sight, Goes, MatchNext, IsTheBlock}
use Rattle.deal.proofs.LaneMoves.{after_block, alone, answers_block}
use Rattle.deal.proofs.Once.{last_below, last_new}
use Rattle.deal.proofs.lane.Lane.next.Goals as goal
use Rattle.deal.proofs.lane.Lane.next.Goals.{then-look-blocks, else-look-blocks}

pub block-requires-clause-number : goal.block-requires-clause-number
block-requires-clause-number c =
    let l = c.self.invariant.3 in
    let e = c.hand_out.ensures in
    omega (arith, last_below _ _ _ e.among, l.4, l.1, ap (λ t. length t.division) c.deref-shared.ensures)

pub invariant_of-self : goal.invariant_of-self
invariant_of-self c =
    let l = c.self.invariant.3 in
    let e = c.hand_out.ensures in
    let p = c.push_reserved.ensures in
    let here = c.deref-shared.ensures in
    let now = c.self.inside.shared.value in
    let z = now.count.shared.table_id in
    let of : IsShareOf z c.hand_out.new.share = subst (λ t. IsShareOf t.count.shared.table_id c.hand_out.new.share) here e.share in
    let took =
    subst (λ t.
    Took t.count.shared.table_id (worker_view c.self.inside.own) c.self.inside.others.items
    (worker_view c.take.new.own) c.take.new.others.items c.in-Some.ticket)
    here c.in-Some.ensures.taken in (
      c.take.ensures.same.1 ∙ c.self.invariant.0,
      omega (arith, p.capacity, c.self.invariant.1),
      c.self.invariant.2,
      subst (λ g.
          IsLane now.count.shared.key now.division c.hand_out.new.share (worker_view c.take.new.own) c.take.new.others.items g z)
          (sym p.items)
          (after_block now.count.shared.key now.division c.self.inside.share _ _ _
          _ c.hand_out.new.share _ _ c.in-Some.ticket _ l took of e.counted),
    )

pub returns-in-Some : goal.returns-in-Some
returns-in-Some c =
    let l = c.self.invariant.3 in
    let e = c.hand_out.ensures in
    let n = c.in-Some.ticket.number in
    let v = c.self.view_is in
    let here = c.deref-shared.ensures in
    let old : c.self.inside.got.items ≡ c.args.self.now.answered = ap (λ (s : Sight). s.answered) v in
    let own = c.in-Some.ensures.taken.3 in
    record {
      goes = (
        ap (λ (s : Sight). s.game) v,
        own ∙ ap (λ (s : Sight). s.dealt) v,
        omega (arith, ap (λ (m : Mark). m.seen) e.counted, e.seen.0, ap (λ (s : Sight). s.seen) v),
      );
      next = answers_block _ _ _ n (subst (λ t. IsTheBlock t.division n c.block.result) here c.block.ensures)
          (ap (times n) (sym (l.7 ∙ old)) ∙ last_new _ _ n e.among)
          (c.push_reserved.ensures.items ∙ ap (λ xs. xs ++ n ∷ []) old);
    }

pub returns-after-look-blocks : goal.returns-after-look-blocks
returns-after-look-blocks c =
    let l = c.self.invariant.3 in
    let e = c.look.ensures in
    let v = c.self.view_is in
    let none = c.in-None.ensures.taken in
    let here = c.deref-shared.ensures in
    let seen = ap (λ (m : Mark). m.seen) e.view in
    let many = c.blocks-in-None.ensures ∙ ap (λ t. length t.division) here in
    let now = c.self.inside.shared.value in
    let old = c.args.self.now in
    let new : Sight =
    sight (game now.count.shared.table_id now.count.shared.key now.division)
    c.look.new.share.me.0 (worker_view c.take.new.own) c.self.inside.got.items in
    let goes : Goes old new = (
      ap (λ (s : Sight). s.game) v,
      ap (λ w. w.dealt) none.0 ∙ ap (λ (s : Sight). s.dealt) v,
      omega (arith, seen, e.seen, ap (λ (s : Sight). s.seen) v),
    ) in
    let same : new.answered ≡ old.answered = ap (λ (s : Sight). s.answered) v in
    let next : MatchNext c.if-look-blocks.result old new = elim c.if-look-blocks.branch [
      | then-look-blocks w ↦
          subst (λ r. MatchNext r old new) (sym w.result-is) (same, omega (arith, seen, w.if-look-blocks.true, many))
      | else-look-blocks w ↦
          subst (λ r. MatchNext r old new) (sym w.result-is) (
            same,
            omega (
              arith,
              e.among.1,
              l.3,
              l.5,
              λ (lone : now.count.shared.key.lanes ≡ 1).
                  w.if-look-blocks.false (e.whole (l.3 ∙ sym lone ∙ sym l.5)
                  ∙ alone now.count.shared.key now.division c.self.inside.share (worker_view c.self.inside.own)
                  c.self.inside.others.items c.self.inside.got.items now.count.shared.table_id l lone none.2
                  ∙ sym many),
            ),
            λ (all : new.seen ≡ length now.division). w.if-look-blocks.false (sym seen ∙ all ∙ sym many),
          )
    ] in
    record { goes = goes; next = next }
