use Rattle.std.proofs.Common.{◌≡◌, [], ◌∷◌, List, ℕ, length, sym, refl, ap, ◌∙◌, arith, ◌⊎◌, inl, inr}
use Rattle.crossbeam_deque.specs.Handles.{worker_view}
use Rattle.atomic_table.specs.Table.{Me}
use Rattle.atomic_table.specs.Seated.{TableId}
use Rattle.deal.specs.declared.count.Mark.{Mark}
use Rattle.deal.specs.declared.count.Ticket.{Ticket}
use Rattle.deal.specs.declared.log.Log.{Log}
use Rattle.deal.specs.Logs.{whose}
use Rattle.deal.specs.Logs.{HasTicketsOf}
use Rattle.deal.specs.Marks.{mark, first_of}
use Rattle.deal.proofs.LogMoves.{puts}
use Rattle.deal.proofs.Counting.{deals}
use Rattle.deal.proofs.hands.deal_one.Goals as goal

pub split_seat-requires : goal.split_seat-requires
split_seat-requires c =
    (c.requires.dealer.0.0, omega (arith, c.requires.dealer.0.2), deals c.args.count.now.shared.key _ _ c.requires.dealer.1)

none_or : (z : TableId) (v : Log) → HasTicketsOf z v → (v.dealt ≡ []) ⊎ (whose v ≡ z)
none_or z v h = go v.dealt refl
  where
    go : (l : List ℕ) → v.dealt ≡ l → (v.dealt ≡ []) ⊎ (whose v ≡ z)
    go [] e = inl e
    go (x ∷ xs) e = inr (h (omega (arith, ap length e)))

pub push_as-requires-clause-pushes : goal.push_as-requires-clause-pushes
push_as-requires-clause-pushes c =
    let badge = c.into_badge-badge.result in
    let t : Ticket = record { number = c.args.number; badge = badge } in
    let one : first_of c.args.dealer.now.me.0.blocks ≡ c.args.number ∷ [] = ap first_of c.requires.dealer.2 in
    let views : badge.views ≡ mark 0 0 0 0 0 (c.args.number ∷ []) ∷ [] =
    c.into_badge-badge.ensures.2 ∙ ap (λ (m : Me (Unit {0}) Mark). m.0 ∷ []) c.split_seat.ensures.4
    ∙ ap (λ l. mark 0 0 0 0 0 l ∷ []) one in
    let z : badge.table_id ≡ c.args.count.now.shared.table_id =
    c.into_badge-badge.ensures.0 ∙ c.split_seat.ensures.3 ∙ c.requires.dealer.0.0 in
    puts _ (worker_view c.args.own.now) t c.requires.own.0
    (none_or _ (worker_view c.args.own.now) (λ some. c.requires.own.1 some ∙ sym z)) (refl, views)
