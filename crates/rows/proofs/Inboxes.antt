-- What becomes of renderers and their inboxes.
use Rattle.std.proofs.Common.{◌≡◌, ◌<◌, ℕ, zero, suc, List, [], ◌∷◌, ◌++◌, length, set, slice_index_or, refl, sym, subst, ◌∙◌}
use Rattle.std.proofs.Common.{arith}
use Rattle.std.specs.List.{AllByRecursion}
use Rattle.rtrb.specs.Ends.{SameRing}
use Rattle.rtrb.specs.Ring.{received, IsPair, SameConsumer, SameProducer}
use Rattle.rtrb.specs.declared.end.End.{End}
use Rattle.rtrb.specs.declared.producer.Producer.{Producer}
use Rattle.rows.specs.declared.rendering.inbox.Inbox.{Inbox}
use Rattle.rows.specs.declared.rendering.renderer.Renderer.{Renderer}
use Rattle.rows.specs.declared.rendering.renderer.Rendering.{Rendering}
use Rattle.rows.specs.Pieces.{AreFresh, ArePairs, GoesOn, GoOn, HasReceived, HasSent, HaveReceived, HaveSent, IsRight}

-- ---- ends of rings

module _ {T A P : Type 0} where
  -- an end that stays at its ring
  pub same_ring : (a : End T A P) → SameRing a a
  same_ring a = (refl, refl, refl, refl)

  pub one_ring : (a b c : End T A P) → SameRing a b → SameRing b c → SameRing a c
  one_ring a b c ab bc = (bc.0 ∙ ab.0, bc.1 ∙ ab.1, bc.2 ∙ ab.2, bc.3 ∙ ab.3)

  -- the other end of the ring of one that stays there
  pub other_end : (a b c : End T A P) → SameRing a b → SameRing a c → SameRing b c
  other_end a b c ab ac = (ac.0 ∙ sym ab.0, ac.1 ∙ sym ab.1, ac.2 ∙ sym ab.2, ac.3 ∙ sym ab.3)

  pub same_producer : (a b c : Producer T A P) → SameProducer a b → SameProducer b c → SameProducer a c
  same_producer a b c ab bc = (one_ring a.end b.end c.end ab.0 bc.0, bc.1 ∙ ab.1)

-- ---- inboxes

-- what is true of each text is true of those that came first
pub each_left : {V : Type 0} (P : V → Type 0) (xs ys : List V) → AllByRecursion P (xs ++ ys) → AllByRecursion P xs
each_left P [] ys h = tt
each_left P (x ∷ xs) ys h = (h.0, each_left P xs ys h.1)

-- the same ring, and the same has arrived
pub goes_same : (old new : Inbox) → new.rendered ≡ old.rendered → GoesOn old new
goes_same old new same = record {
  ring = subst (λ (c : _). SameConsumer old.rendered c) (sym same) (same_ring old.rendered.end, refl);
  received = λ rendering h. subst (λ (c : _). AllByRecursion (IsRight rendering) (received c)) same h;
}

pub go_further : (a b c : List Inbox) → GoOn a b → GoOn b c → GoOn a c
go_further a b c first second = record {
  pairs = λ renderers are. second.pairs renderers (first.pairs renderers are);
  received = λ rendering h. first.received rendering (second.received rendering h);
}

-- one of the inboxes goes on
module _ (new : Inbox) where
  pairs_set : (inboxes : List Inbox) (i : ℕ) (d : Inbox) → i < length inboxes → GoesOn (slice_index_or inboxes i d) new
      → (renderers : List Renderer) → ArePairs renderers inboxes → ArePairs renderers (set inboxes i new)
  pairs_set [] i d l on renderers are = absurd (omega (arith, l))
  pairs_set (e ∷ ds) i d l on [] are = absurd are
  pairs_set (e ∷ ds) zero d l on (s ∷ ss) are = (one_ring s.rendered.end e.rendered.end new.rendered.end are.0 on.ring.0, are.1)
  pairs_set (e ∷ ds) (suc i) d l on (s ∷ ss) are = (are.0, pairs_set ds i d (omega (arith, l)) on ss are.1)

  received_set : (inboxes : List Inbox) (i : ℕ) (d : Inbox) → i < length inboxes → GoesOn (slice_index_or inboxes i d) new
      → (rendering : Rendering) → HaveReceived rendering (set inboxes i new) → HaveReceived rendering inboxes
  received_set [] i d l on rendering h = absurd (omega (arith, l))
  received_set (e ∷ ds) zero d l on rendering h = (on.received rendering h.0, h.1)
  received_set (e ∷ ds) (suc i) d l on rendering h = (h.0, received_set ds i d (omega (arith, l)) on rendering h.1)

  pub go_one : (inboxes : List Inbox) (i : ℕ) (d : Inbox) → i < length inboxes
      → GoesOn (slice_index_or inboxes i d) new → GoOn inboxes (set inboxes i new)
  go_one inboxes i d l on = record { pairs = pairs_set inboxes i d l on; received = received_set inboxes i d l on }

  -- what has arrived there
  pub received_there : (rendering : Rendering) (inboxes : List Inbox) (i : ℕ) → i < length inboxes
      → HaveReceived rendering (set inboxes i new) → HasReceived rendering new
  received_there rendering [] i l h = absurd (omega (arith, l))
  received_there rendering (d ∷ ds) zero l h = h.0
  received_there rendering (d ∷ ds) (suc i) l h = received_there rendering ds i (omega (arith, l)) h.1

-- ---- renderers

-- each goes on
pub pairs_each : (olds news : List Renderer) → length news ≡ length olds
    → ((i : ℕ) (d : Renderer) → i < length olds
    → SameProducer (slice_index_or olds i d).rendered (slice_index_or news i d).rendered)
    → (inboxes : List Inbox) → ArePairs olds inboxes → ArePairs news inboxes
pairs_each [] [] long each inboxes are = are
pairs_each [] (n ∷ ns) long each inboxes are = absurd (omega (arith, long))
pairs_each (o ∷ os) [] long each inboxes are = absurd (omega (arith, long))
pairs_each (o ∷ os) (n ∷ ns) long each [] are = absurd are
pairs_each (o ∷ os) (n ∷ ns) long each (d ∷ ds) are = (
  other_end o.rendered.end n.rendered.end d.rendered.end (each 0 o (omega arith)).0 are.0,
  pairs_each os ns (omega (arith, long)) (λ i e l. each (suc i) e (omega (arith, l))) ds are.1,
)

pub sent_each : (rendering : Rendering) (olds news : List Renderer) → length news ≡ length olds
    → ((i : ℕ) (d : Renderer) → i < length olds → HasSent rendering (slice_index_or olds i d)
    → HasSent rendering (slice_index_or news i d))
    → HaveSent rendering olds → HaveSent rendering news
sent_each rendering [] [] long each h = h
sent_each rendering [] (n ∷ ns) long each h = absurd (omega (arith, long))
sent_each rendering (o ∷ os) [] long each h = absurd (omega (arith, long))
sent_each rendering (o ∷ os) (n ∷ ns) long each h =
    (each 0 o (omega arith) h.0, sent_each rendering os ns (omega (arith, long)) (λ i e l. each (suc i) e (omega (arith, l))) h.1)

-- one more, of which nothing is handed on
pub pairs_more : (renderers : List Renderer) (inboxes : List Inbox) (renderer : Renderer) (inbox : Inbox)
    → ArePairs renderers inboxes
    → IsPair renderer.rendered inbox.rendered → ArePairs (renderers ++ renderer ∷ []) (inboxes ++ inbox ∷ [])
pairs_more [] [] s d are pair = (pair, tt)
pairs_more [] (e ∷ ds) s d are pair = absurd are
pairs_more (t ∷ ss) [] s d are pair = absurd are
pairs_more (t ∷ ss) (e ∷ ds) s d are pair = (are.0, pairs_more ss ds s d are.1 pair)

-- nothing that was handed on is wrong
pub fresh_sent : (rendering : Rendering) (renderers : List Renderer) → AreFresh renderers → HaveSent rendering renderers
fresh_sent rendering [] fresh = tt
fresh_sent rendering (s ∷ ss) fresh = (subst (AllByRecursion (IsRight rendering)) (sym fresh.0) tt, fresh_sent rendering ss fresh.1)

-- this one and the others go on
pub pairs_both : (own after : Renderer) (others them : List Renderer) → SameProducer own.rendered after.rendered
    → ((inboxes : List Inbox) → ArePairs others inboxes → ArePairs them inboxes)
    → (inboxes : List Inbox) → ArePairs (own ∷ others) inboxes → ArePairs (after ∷ them) inboxes
pairs_both own after others them ring on [] are = absurd are
pairs_both own after others them ring on (d ∷ ds) are =
    (other_end own.rendered.end after.rendered.end d.rendered.end ring.0 are.0, on ds are.1)
