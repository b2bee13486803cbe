use Rattle.std.proofs.Common.{◌≡◌, ℕ, zero, suc, [], ◌∷◌, List, length, replicate, false, vec_len}
use Rattle.std.proofs.Common.{refl, sym, ap, ap₂, ◌∙◌, subst, arith}
use mathlib.Core.Option.{some, some-ne-none, some-injective}
use lib.ListN.{get_elem?}
use Rattle.atomic_table.specs.Table.{Me}
use Rattle.deal.specs.Totals.{in_turn}
use Rattle.deal.specs.Marks.{mark, first_mark, FitsCount}
use Rattle.deal.specs.Dealing.{AreHands}
use Rattle.deal.specs.declared.count.Mark.{Mark}
use Rattle.deal.specs.declared.count.Size.{Size}
use Rattle.deal.specs.declared.shared.Shared.{Shared}
use Rattle.deal.specs.Lanes.{IsDealer, IsShared, game}
use Rattle.deal.specs.Sharing.{Game, Sight, AreLanesOf}
use Rattle.deal.proofs.Gathering.{fresh_are, fresh_many}
use Rattle.deal.proofs.Sums.{total_in_turn}
use Rattle.deal.proofs.deal.Deal.new.Goals as goal

pub lanes_of-requires-clause-hands : goal.lanes_of-requires-clause-hands
lanes_of-requires-clause-hands c =
    let e = c.in_ok-hands.ensures.hands in
    let hands = c.in_ok-hands.hands in
    let table = c.in_ok-count.count.shared in
    let key = c.in_ok-count.ensures.5 in
    let many : c.args.workers ≡ table.key.lanes = sym (ap (λ (k : Size). k.lanes) key) in
    let order : c.args.rising ≡ table.key.rising = sym (ap (λ (k : Size). k.rising) key) in
    let of : AreHands table.table_id table.key.lanes (in_turn table.key.rising (length c.args.division)) 4096 hands.items =
    subst (λ n. AreHands table.table_id table.key.lanes (in_turn table.key.rising n) 4096 hands.items) c.count-blocks.ensures
    (subst (λ b. AreHands table.table_id table.key.lanes (in_turn b c.count-blocks.result) 4096 hands.items) order
    (subst (λ w. AreHands table.table_id w (in_turn c.args.rising c.count-blocks.result) 4096 hands.items) many e.1)) in
    subst (λ (t : Shared).
    (vec_len hands ≡ t.count.shared.key.lanes)
    × AreHands t.count.shared.table_id t.count.shared.key.lanes (in_turn t.count.shared.key.rising (length t.division)) 4096
    hands.items)
    (sym c.in_ok-shared.ensures.ok) (e.0 ∙ many, of)

-- the first seat fits a count of 0
fits_first : (k : Size) (j : ℕ) (v : Mark) → get_elem? (first_mark k ∷ []) j ≡ some v → FitsCount k 0 v
fits_first k zero v e =
    subst (FitsCount k 0) (some-injective _ _ e)
    (omega arith, omega arith, (λ _. refl), omega arith, omega arith, λ _. (refl, refl))
fits_first k (suc j) v e = absurd (some-ne-none v (sym e))

pub returns-clause-of : goal.returns-clause-of
returns-clause-of c =
    let s = c.in_ok-shared.shared.value in
    let g : Game = game s.count.shared.table_id s.count.shared.key s.division in
    subst (λ (l : List Sight). AreLanesOf g l) (sym c.in_ok-lanes.ensures.lanes) (fresh_are g)

pub returns-clause-many : goal.returns-clause-many
returns-clause-many c =
    let s = c.in_ok-shared.shared.value in
    let g : Game = game s.count.shared.table_id s.count.shared.key s.division in
    let workers : s.count.shared.key.lanes ≡ c.args.workers =
    ap (λ (t : Shared). t.count.shared.key.lanes) c.in_ok-shared.ensures.ok ∙ ap (λ (k : Size). k.lanes) c.in_ok-count.ensures.5 in
    omega (arith, c.in_ok-lanes.lanes.ok, ap (λ (l : List Sight). length l) c.in_ok-lanes.ensures.lanes, fresh_many g, workers)

pub of_words-requires : goal.of_words-requires
of_words-requires c =
    let k : Size = record { blocks = c.count-blocks.result; lanes = c.args.workers; rising = c.args.rising } in (
      omega arith,
      refl,
      omega arith,
      (λ h. omega (arith, total_in_turn h c.args.rising c.count-blocks.result)),
      fits_first k,
    )

pub make_hands-requires-clause-dealer : goal.make_hands-requires-clause-dealer
make_hands-requires-clause-dealer c =
    let e = c.in_ok-count.ensures in
    let blocks = c.count-blocks.result in
    let first : c.in_ok-count.dealer.me.0 ≡ mark blocks c.args.workers c.args.workers 0 0 (in_turn c.args.rising blocks) =
    ap (λ (m : Me (Unit {0}) Mark). m.0) e.4 in (
      (e.2, ap (λ (m : Me (Unit {0}) Mark). m.1) e.4, e.0),
      first
          ∙ ap₂ (λ lanes parts. mark blocks lanes parts 0 0 (in_turn c.args.rising blocks))
          (sym (ap (λ (m : Mark). m.lanes) first)) (sym (ap (λ (m : Mark). m.parts) first)),
    )

pub lanes_of-requires-clause-shared : goal.lanes_of-requires-clause-shared
lanes_of-requires-clause-shared c =
    let e = c.in_ok-count.ensures in
    subst (λ (t : Shared). IsShared t.count.shared.key t.division t.starts.items) (sym c.in_ok-shared.ensures.ok) (
      ap (λ (k : Size). k.blocks) e.5 ∙ c.count-blocks.ensures,
      omega (arith, c.count-blocks.ensures),
      omega (arith, ap (λ (k : Size). k.lanes) e.5, c.requires.0),
      c.in_ok-starts.ensures,
    )

pub lanes_of-requires-clause-dealer : goal.lanes_of-requires-clause-dealer
lanes_of-requires-clause-dealer c =
    let e = c.in_ok-count.ensures in
    let d = c.in_ok-hands.ensures.dealer in
    let blocks = c.count-blocks.result in
    let first = ap (λ (m : Me (Unit {0}) Mark). m.0) e.4 in
    let all : c.make_hands.new.dealer.me.0 ≡ mark blocks c.args.workers c.args.workers 0 0 [] =
    d.1
    ∙ ap₂ (λ lanes parts. mark blocks lanes parts 0 0 []) (ap (λ (m : Mark). m.lanes) first) (ap (λ (m : Mark). m.parts) first) in
    subst (λ (t : Shared). IsDealer t.count.shared.key t.count.shared.table_id t.count.shared.key.lanes c.make_hands.new.dealer)
    (sym c.in_ok-shared.ensures.ok)
    (d.0, subst (λ (k : Size). c.make_hands.new.dealer.me.0 ≡ mark k.blocks k.lanes k.lanes 0 0 []) (sym e.5) all)

pub invariant_of-deal : goal.invariant_of-deal
invariant_of-deal c =
    let e = c.in_ok-count.ensures in
    let s = c.in_ok-shared.shared.value in
    let blocks : length s.division ≡ c.count-blocks.result =
    ap (λ (t : Shared). length t.division) c.in_ok-shared.ensures.ok ∙ sym c.count-blocks.ensures in
    let key = ap (λ (t : Shared). t.count.shared.key) c.in_ok-shared.ensures.ok ∙ e.5 in
    let lanes : s.count.shared.key.lanes ≡ c.args.workers = ap (λ (k : Size). k.lanes) key in
    let room = c.in_ok-lists.ensures in (
      ap (λ (k : Size). k.blocks) key ∙ sym blocks,
      c.in_ok-lanes.ensures.dealer,
      room.0,
      omega (arith, lanes, room.1),
      room.2 ∙ ap (λ n. replicate n false) (sym blocks),
      room.3,
      omega (arith, blocks, room.4),
    )

pub returns-clause-deal : goal.returns-clause-deal
returns-clause-deal c = (
  ap (λ (t : Shared). t.count.shared.key.lanes) c.in_ok-shared.ensures.ok ∙ ap (λ (k : Size). k.lanes) c.in_ok-count.ensures.5,
  ap (λ (t : Shared). t.division) c.in_ok-shared.ensures.ok,
  ap (λ (t : Shared). t.count.shared.key.rising) c.in_ok-shared.ensures.ok ∙ ap (λ (k : Size). k.rising) c.in_ok-count.ensures.5,
)

pub returns-clause-lanes : goal.returns-clause-lanes
returns-clause-lanes c = c.in_ok-lanes.ensures.lanes
