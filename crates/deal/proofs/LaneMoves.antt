-- What a lane knows after it took a block, and where it finds none.
use Rattle.std.proofs.Common.{◌≡◌, ◌<◌, ◌%◌, ◌^◌, ℕ, ◌+◌, List, [], ◌∷◌, ◌++◌, length, length-append, refl, sym, ap, ◌∙◌}
use Rattle.std.proofs.Common.{arith, subst, Option, None, Some, Bool, true, ◌==◌, if◌then◌else◌}
use Rattle.std.proofs.lemmas.Bool.Decides.{nat_tests}
use Rattle.std.proofs.lemmas.List.{length-set}
use Rattle.std.specs.Prelude.{MatchOption}
use Rattle.atomic_table.specs.Seated.{TableId}
use Rattle.atomic_table.specs.declared.shared.Seat.{Seat}
use Rattle.deal.specs.declared.count.Mark.{Mark}
use Rattle.deal.specs.declared.count.Size.{Size}
use Rattle.deal.specs.declared.count.Ticket.{Ticket}
use Rattle.deal.specs.declared.hand.Hand.{Hand}
use Rattle.deal.specs.declared.log.Log.{Log}
use Rattle.crossbeam_deque.specs.Handles.{worker_view}
use Rattle.deal.specs.Totals.{total, in_turn}
use Rattle.deal.specs.Marks.{mark, lane_mark, IsTicketOf, IsShareOf}
use Rattle.deal.specs.Logs.{Taking, IsAllTaken}
use Rattle.deal.specs.Reaches.{Stealing}
use Rattle.deal.specs.Logs.{HasTicketsOf}
use Rattle.deal.specs.Lanes.{MayTake, Took, IsLane, IsDealer, IsSomeHand}
use Rattle.deal.specs.Divisions.{IsBlock}
use Rattle.deal.specs.Totals.{times}
use Rattle.deal.specs.Sharing.{Sight, IsTheBlock, MatchNext, dealt_to}
use Rattle.deal.specs.declared.next.Next.{Next}
use Rattle.deal.specs.declared.next.Next.TheVariants.{Block, Again, Empty}
use Rattle.deal.proofs.Members.{each_at, each_with}
use Rattle.deal.proofs.Sums.{total_set, total_append, total_length, length_in_turn}

-- the table of a ticket that was taken
ticket_of : (z : TableId) (v : Log) (t : Ticket) (w : Log) → HasTicketsOf z v → Taking v (t ∷ []) w → IsTicketOf z t
ticket_of z v t w d k = subst (λ y. IsTicketOf y t) (d k.0) k.2.0

stays : (z : TableId) (v : Log) (t : Ticket) (w : Log) → HasTicketsOf z v → Taking v (t ∷ []) w → HasTicketsOf z w
stays z v t w d k = subst (HasTicketsOf z) (sym k.1) d

got_more : (h : ℕ → ℕ) (v : Log) (t : Ticket) (w : Log) → Taking v (t ∷ []) w → total h w.got ≡ total h v.got + h t.number
got_more h v t w k = omega (arith, ap (λ (u : Log). total h u.got) k.1, total_append h v.got (t.number ∷ []))

pub took_own : (z : TableId) (own : Log) (others : List Log) (own' : Log) (t : Ticket)
    → MayTake z own others → Taking own (t ∷ []) own' → Took z own others own' others t
took_own z own others own' t may k =
    let parts : own'.parts ≡ own.parts = ap (λ (u : Log). u.parts) k.1 in (
      ticket_of z own t own' may.1 k,
      (λ h. omega (arith, got_more h own t own' k)),
      parts,
      ap (λ (u : Log). u.dealt) k.1,
      refl,
      (omega (arith, parts, may.0), stays z own t own' may.1 k, may.2),
    )

pub took_other : (z : TableId) (own : Log) (others : List Log) (others' : List Log) (t : Ticket)
    → MayTake z own others → Stealing others t others' → Took z own others own others' t
took_other z own others others' t may k =
    let here = each_at (HasTicketsOf z) others k.0 k.1 may.2 k.3 in
    subst (λ l. Took z own others own l t) (sym k.4) (
      ticket_of z k.1 t k.2 here k.5,
      (λ h. omega (arith, got_more h k.1 t k.2 k.5, total_set (λ (u : Log). total h u.got) others k.0 k.1 k.2 k.3)),
      refl,
      refl,
      length-set others k.0 k.2,
      (may.0, may.1, each_with (HasTicketsOf z) others k.0 k.2 may.2 (stays z k.1 t k.2 here k.5)),
    )

-- what a lane takes, from its own deque or another
pub took_none : (z : TableId) (own : Log) (others : List Log) (mid : Log) (others' : List Log) (r : Option Ticket)
    → MayTake z own others → (mid ≡ own) × IsAllTaken own
    → MatchOption r (others' ≡ others) (λ t. Stealing others t others')
    → MatchOption r ((mid ≡ own) × (others' ≡ others) × IsAllTaken own) (Took z own others mid others')
took_none z own others mid others' None may same k = (same.0, k, same.1)
took_none z own others mid others' (Some t) may same k =
    subst (λ (m : Log). Took z own others m others' t) (sym same.0) (took_other z own others others' t may k)

-- a lane alone has taken every block where its deque is empty
pub alone : (size : Size) (lengths : List ℕ) (share : Seat (Unit {0}) Mark)
    (own : Log) (others : List Log) (got : List ℕ) (z : TableId)
    → IsLane size lengths share own others got z → size.lanes ≡ 1 → IsAllTaken own → share.me.0.counted ≡ length lengths
alone size lengths share own others got z h lone all =
    let only = h.10 lone in
    let f : ℕ → ℕ = λ _. 1 in
    let taken = all.1 only.0 f in
    let dealt : total f own.dealt ≡ total f (in_turn size.rising (length lengths)) = ap (total f) only.2 in
    let none : total (λ (v : Log). total f v.got) others ≡ 0 = ap (λ (l : List Log). total (λ (v : Log). total f v.got) l) only.1 in
    let sums : total f got ≡ total f own.got + total (λ (v : Log). total f v.got) others = h.9 f in
    omega (
      arith,
      h.6,
      taken,
      dealt,
      none,
      sums,
      total_length got,
      total_length (in_turn size.rising (length lengths)),
      length_in_turn size.rising (length lengths),
    )

-- a lane that took a block, and counted it
pub after_block : (size : Size) (lengths : List ℕ) (share : Seat (Unit {0}) Mark)
    (own : Log) (others : List Log) (got : List ℕ) (z : TableId)
    (share' : Seat (Unit {0}) Mark) (own' : Log) (others' : List Log) (t : Ticket) (seen : ℕ)
    → IsLane size lengths share own others got z → Took z own others own' others' t → IsShareOf z share'
    → share'.me.0
    ≡ mark share.me.0.all share.me.0.lanes share.me.0.parts (share.me.0.counted + 1) seen (share.me.0.blocks ++ t.number ∷ [])
    → IsLane size lengths share' own' others' (got ++ t.number ∷ []) z
after_block size lengths share own others got z share' own' others' t seen l took of is = (
  of,
  l.1,
  l.2,
  ap (λ (m : Mark). m.parts) is ∙ l.3,
  ap (λ (m : Mark). m.all) is ∙ l.4,
  ap (λ (m : Mark). m.lanes) is ∙ l.5,
  omega (arith, ap (λ (m : Mark). m.counted) is, l.6, length-append got (t.number ∷ [])),
  ap (λ (m : Mark). m.blocks) is ∙ ap (λ xs. xs ++ t.number ∷ []) l.7,
  took.5,
  (λ h. omega (arith, took.1 h, l.9 h, total_append h got (t.number ∷ []))),
  (λ lone. let old = l.10 lone in (took.2 ∙ old.0, empty others' (omega (arith, took.4, ap length old.1)), took.3 ∙ old.2)),
)
  where
    empty : (xs : List Log) → length xs ≡ 0 → xs ≡ []
    empty [] e = refl
    empty (x ∷ xs) e = absurd (omega (arith, e))

-- the block that was taken is what the lane is answered
pub answers_block : (r : Next) (old new : Sight) (n : ℕ) → IsTheBlock new.game.lengths n r
    → times n old.answered ≡ 0 → new.answered ≡ old.answered ++ n ∷ [] → MatchNext r old new
answers_block (Block i first len) old new n is fresh more =
    subst (λ k. IsBlock new.game.lengths k first len × (times k old.answered ≡ 0) × (new.answered ≡ old.answered ++ k ∷ []))
    (sym is.0) (is.1, fresh, more)
answers_block Again old new n is fresh more = absurd is
answers_block Empty old new n is fresh more = absurd is

-- a lane alone is dealt every block
pub dealt_alone : (ns : List ℕ) → dealt_to 1 0 ns ≡ ns
dealt_alone [] = refl
dealt_alone (n ∷ ns) =
    let none : (n % 1 == 0) ≡ true = grind (arith, nat_tests) in
    ap (λ (b : Bool). (if b then n ∷ [] else []) ++ dealt_to 1 0 ns) none ∙ ap (λ l. n ∷ l) (dealt_alone ns)

-- a new lane
pub new_lane : (size : Size) (lengths : List ℕ) (share dealer : Seat (Unit {0}) Mark) (hand : Hand) (got : List ℕ) (z : TableId)
    → size.blocks ≡ length lengths → length lengths < 2 ^ 64 → got ≡ []
    → IsDealer size z dealer.me.0.parts dealer → IsShareOf z share → share.me.0 ≡ lane_mark dealer.me.0
    → IsSomeHand z size lengths hand → IsLane size lengths share (worker_view hand.own) hand.others.items got z
new_lane size lengths share dealer hand got z blocks fits none d of is some_hand =
    let h = some_hand.2 in
    let all = in_turn size.rising (length lengths) in
    let dealt = d.1 in (
      of,
      blocks,
      fits,
      ap (λ (m : Mark). m.parts) is,
      ap (λ (m : Mark). m.all) is ∙ ap (λ (m : Mark). m.all) dealt,
      ap (λ (m : Mark). m.lanes) is ∙ ap (λ (m : Mark). m.lanes) dealt,
      omega (arith, ap (λ (m : Mark). m.counted) is, ap length none),
      ap (λ (m : Mark). m.blocks) is ∙ sym none,
      (omega (arith, h.1), h.4, h.5),
      (λ f. omega (arith, ap (total f) none, ap (total f) h.3, h.6 f)),
      (λ lone.
          let first : some_hand.0 ≡ 0 = omega (arith, some_hand.1, lone) in (
            (h.7 lone).0,
            (h.7 lone).1,
            h.2 ∙ ap (λ w. dealt_to w some_hand.0 all) lone ∙ ap (λ k. dealt_to 1 k all) first ∙ dealt_alone all,
          )),
    )
