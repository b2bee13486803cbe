-- Rows that are kept.
use Rattle.std.specs.Prelude.{slice_get, Some, if◌then◌else◌}
use Rattle.std.proofs.lemmas.Option.{same_Some}
use Rattle.std.proofs.Common.{◌≡◌, ℕ, ◌≤◌, ◌<◌, ◌+◌, Bool, true, false, List, [], ◌∷◌, ◌++◌, length, length-append}
use Rattle.std.proofs.Common.{slice_index, slice_index_or, take, drop, refl, sym, ap, ap₂, subst, ◌∙◌, append-nil, append_assoc}
use Rattle.std.proofs.Common.{arith}
use Rattle.std.specs.List.{AllByRecursion}
use Rattle.std.proofs.lemmas.List.{length-map, map-append, take_more}
use Rattle.std.proofs.lemmas.List.{drop_at}
use Rattle.std.proofs.Math.Seq.{take-append_seam, take-length}
use Rattle.model.specs.declared.event.Event.{Event}
use Rattle.model.specs.declared.plan.Injection.{Injection}
use Rattle.model.specs.Points.{first_step}
use Rattle.model.specs.Application.{Application, Limits}
use Rattle.model.specs.Run.{Run, IsRun, events_after, is_reached}
use Rattle.model.proofs.Injected.{begins_with, no_fewer}
use Rattle.machine.specs.declared.machine.Machine.{Machine}
use Rattle.shelf.specs.declared.row.RowBeginning.{RowBeginning}
use Rattle.shelf.specs.Begun.{HasBegun}
use Rattle.model.specs.Campaign.{Row}
use Rattle.report.specs.Views.{shows_events}
use Rattle.report.specs.declared.view.View.{View}
use Rattle.deal.specs.Parts.{zeros}
use Rattle.deal.specs.Tallies.{Sheet, Tallied}
use Rattle.rows.specs.declared.rows.KeptRow.{KeptRow}
use Rattle.campaign.specs.declared.meeting.ahead.Ahead.{Ahead}
use Rattle.campaign.specs.declared.worker.Outcome.{Outcome}
use Rattle.rows.specs.declared.link.Leg.{Leg}
use Rattle.rows.specs.declared.link.Link.{Link}
use Rattle.rows.specs.declared.link.Link.TheVariants as links
use Rattle.campaign.specs.Kinds.{kind_in}
use Rattle.rows.specs.Links.{Store, linked_events, AreLegs, Grows, LinksTo}
use Rattle.rows.specs.Report.{row_of, rows_of, IsKept}
use Rattle.campaign.specs.Seen.{AreSeen, IsSeen, row_with}
use Rattle.campaign.specs.Working.{counted, AreKnown, IsAmong, IsKeptRow, IsRestOf, GainsRow, Gained, GainsRows, KeepsRow}
use Rattle.campaign.proofs.Counters.{none_added}
use Rattle.campaign.proofs.Ends.{kind_in-append, kind_in-few}
use Rattle.rows.proofs.Linked.{closed_grows, closed_legs, closed_links_to, grows_here, grows_then, same_legs, same_linked_events}
use Rattle.rows.proofs.Linked.{still_link, links_to_nothing}
use Rattle.rows.proofs.LookedUp.{all_got}

-- ---- a row of its own

-- a trail that is cut back to what it was
cut_back : (old mid over after own more : List Event) → mid ≡ old ++ own → over ≡ mid ++ more
    → (from : ℕ) → from ≡ length old → after ≡ take from over → after ≡ old
cut_back old mid over after own more begun grown from e cut =
    let whole : over ≡ old ++ (own ++ more) = grown ∙ ap (λ (es : List Event). es ++ more) begun ∙ append_assoc old own more in
    cut ∙ ap₂ (λ (n : ℕ) (es : List Event). take n es) e whole ∙ take-append_seam old (own ++ more)

-- what is gained where nothing is
pub grows_by_none : (old new : Store) → new.trail ≡ old.trail → new.legs ≡ old.legs → Grows old new
grows_by_none old new trail legs =
    record { own = []; trail = trail ∙ sym (append-nil old.trail); more = []; legs = legs ∙ sym (append-nil old.legs) }

-- as many of the base run's events as a row has that is the base run
abbrev own_of_all : (shown : Bool) → List Event → List Event
own_of_all true events = events
own_of_all false events = []

taken_by : (shown : Bool) (events : List Event) (shared : ℕ) → shared ≡ (if shown then length events else 0)
    → (shared ≤ length events) × (take shared events ≡ own_of_all shown events)
taken_by true events shared is = (omega (arith, is), ap (λ n. take n events) is ∙ take-length events)
taken_by false events shared is = (omega (arith, is), ap (λ n. take n events) is)

with_own : (shown : Bool) (row : Row)
    → record row { run = record row.run { events = own_of_all shown row.run.events } } ≡ row_with shown row
with_own true row = refl
with_own false row = refl

module _ (app : Application) (limits : Limits) (view : View) (base : Run)
    (is : IsRun app [] limits base) (point : List Injection) where
  -- The row on its way, which began so and goes on so.
  module _ (old mid over : Store) (k : Machine) (beginning : RowBeginning) (legs : AreLegs base.events old)
      (begun : HasBegun app point limits k old.trail mid.trail beginning) (same : mid.legs ≡ old.legs)
      (rest : Ahead) (goes : IsRestOf app limits view base mid over point k rest) (still : over.legs ≡ mid.legs) where
    its_events : over.trail ≡ old.trail ++ (begun.own ++ goes.own)
    its_events = goes.trail ∙ ap (λ (es : List Event). es ++ goes.own) begun.kept ∙ append_assoc old.trail begun.own goes.own

    pub its_growth : Grows old over
    its_growth =
        record { own = begun.own ++ goes.own; trail = its_events; more = []; legs = still ∙ same ∙ sym (append-nil old.legs) }

    pub its_legs : AreLegs base.events over
    its_legs = same_legs base.events old legs over its_growth (still ∙ same)

    -- the trail when the row is dropped
    pub dropped : (after : List Event) (from : ℕ) → from ≡ length old.trail → after ≡ take from over.trail → after ≡ old.trail
    dropped after from e cut = cut_back old.trail mid.trail over.trail after begun.own goes.own begun.kept goes.trail from e cut

    -- a row that is reached begins as the base run does, and goes on by the leg with which it is closed
    pub reached_row : (new : Store) → beginning.before ≡ length (events_after app limits [] (first_step point))
        → first_step point < base.steps → is_reached app limits point base.steps ≡ true → shows_events view rest.end ≡ true
        → new.trail ≡ over.trail → new.legs ≡ over.legs ++ record { to = length over.trail; next = rest.link } ∷ []
        → (from : ℕ) → from ≡ length old.trail
        → (link : Link) → link ≡ links.Leg (length over.legs) from
        → GainsRow app limits view base point old new (record {
          point = point;
          reached = true;
          shared = beginning.before;
          link = link;
          steps = rest.steps;
          ticks = rest.ticks;
          end = rest.end;
        })
    reached_row new before l comes shown trail pushed from e link to =
        let leg : Leg = record { to = length over.trail; next = rest.link } in
        let next = goes.linked shown in
        let kept : KeptRow = record {
          point = point;
          reached = true;
          shared = beginning.before;
          link = link;
          steps = rest.steps;
          ticks = rest.ticks;
          end = rest.end;
        } in
        let low : from ≤ length over.trail = omega (arith, ap length its_events, length-append old.trail (begun.own ++ goes.own)) in
        let closed : LinksTo base.events new link (drop from over.trail ++ goes.events) =
        subst (λ (l : Link). LinksTo base.events new l (drop from over.trail ++ goes.events)) (sym to)
        (closed_links_to base.events over new its_legs leg trail pushed refl goes.events next from low) in
        let behind : drop from over.trail ≡ begun.own ++ goes.own =
        ap (drop from) its_events ∙ drop_at old.trail (begun.own ++ goes.own) from (sym e) in
        let within : first_step point ≤ base.steps = omega arith in
        let front = events_after app limits [] (first_step point) in
        let first : take beginning.before base.events ≡ front =
        rw (before, is.trace) (begins_with app limits [] (first_step point) base.steps within) in
        let events : events_after app limits point k.steps ++ (goes.own ++ goes.events)
        ≡ take beginning.before base.events ++ linked_events base.events new link =
        ap (λ (es : List Event). es ++ (goes.own ++ goes.events)) begun.events
        ∙ append_assoc front begun.own (goes.own ++ goes.events)
        ∙ ap₂ (λ (xs ys : List Event). xs ++ ys) (sym first) (sym (append_assoc begun.own goes.own goes.events)
        ∙ ap (λ (es : List Event). es ++ goes.events) (sym behind) ∙ sym closed.are) in
        record {
          grows = grows_then old over new its_growth (closed_grows base.events over new its_legs leg trail pushed);
          legs = closed_legs base.events over new its_legs leg trail pushed next.there;
          row = record {
            at_point = refl;
            is_kept = record {
              shared = rw (before, is.trace) (no_fewer app limits [] (first_step point) base.steps within);
              link = closed.there;
            };
            is_seen = record {
              whole = row_of base new kept;
              is_row = (
                base,
                is,
                comes,
                subst
                    (λ (es : List Event).
                    IsRun app point limits (record { events = es; steps = rest.steps; ticks = rest.ticks; end = rest.end }))
                    events goes.is_row,
              );
              is = ap (λ (with_events : Bool). row_with with_events (row_of base new kept)) (sym shown);
            };
          };
        }

    -- one whose events are not shown is kept without them
    pub bare_row : (new : Store) → is_reached app limits point base.steps ≡ true → shows_events view rest.end ≡ false
        → (from : ℕ) → from ≡ length old.trail → new.trail ≡ take from over.trail
        → new.legs ≡ over.legs → (link : Link) → link ≡ links.Base (length base.events)
        → GainsRow app limits view base point old new
        (record {
          point = point;
          reached = true;
          shared = 0;
          link = link;
          steps = rest.steps;
          ticks = rest.ticks;
          end = rest.end;
        })
    bare_row new comes hidden from e cut gone link to =
        let back : new.trail ≡ old.trail = dropped new.trail from e cut in
        let as_it_was : new.legs ≡ old.legs = gone ∙ still ∙ same in
        let grown = grows_by_none old new back as_it_was in
        let nothing : LinksTo base.events new link [] =
        subst (λ (l : Link). LinksTo base.events new l []) (sym to) (links_to_nothing base.events new (length base.events) refl) in
        let its_row : Row = record {
          point = point;
          reached = true;
          run =
              record {
                events = events_after app limits point k.steps ++ (goes.own ++ goes.events);
                steps = rest.steps;
                ticks = rest.ticks;
                end = rest.end;
              };
        } in
        record {
          grows = grown;
          legs = same_legs base.events old legs new grown as_it_was;
          row = record {
            at_point = refl;
            is_kept = record { shared = omega arith; link = nothing.there };
            is_seen = record {
              whole = its_row;
              is_row = (base, is, comes, goes.is_row);
              is = ap (λ (es : List Event). record its_row { run = record its_row.run { events = es } }) nothing.are
                  ∙ ap (λ (with_events : Bool). row_with with_events its_row) (sym hidden);
            };
          };
        }

  -- one that isn't reached is the base run
  pub missed_row : (store : Store) → AreLegs base.events store → (b : Run) (shared : ℕ) (link : Link) → b ≡ base
      → is_reached app limits point base.steps ≡ false
      → shared ≡ (if shows_events view b.end then length b.events else 0)
      → link ≡ links.Base (length b.events)
      → GainsRow app limits view base point store store
      (record {
        point = point;
        reached = false;
        shared = shared;
        link = link;
        steps = b.steps;
        ticks = b.ticks;
        end = b.end;
      })
  missed_row store legs b shared link same missed count to = subst
      (λ (r : Run).
      GainsRow app limits view base point store store
      (record {
        point = point;
        reached = false;
        shared = shared;
        link = link;
        steps = r.steps;
        ticks = r.ticks;
        end = r.end;
      }))
      (sym same) (its_row (subst (λ (r : Run). shared ≡ (if shows_events view r.end then length r.events else 0)) same count)
      (subst (λ (r : Run). link ≡ links.Base (length r.events)) same to))
    where
      its_row : shared ≡ (if shows_events view base.end then length base.events else 0) → link ≡ links.Base (length base.events)
          → GainsRow app limits view base point store store
          (record {
            point = point;
            reached = false;
            shared = shared;
            link = link;
            steps = base.steps;
            ticks = base.ticks;
            end = base.end;
          })
      its_row count to =
          let shown = shows_events view base.end in
          let taken = taken_by shown base.events shared count in
          let nothing : LinksTo base.events store link [] =
          subst (λ (l : Link). LinksTo base.events store l []) (sym to)
          (links_to_nothing base.events store (length base.events) refl) in
          let its : take shared base.events ++ linked_events base.events store link ≡ own_of_all shown base.events =
          ap₂ (λ (xs ys : List Event). xs ++ ys) taken.1 nothing.are ∙ append-nil (own_of_all shown base.events) in
          let whole : Row = record { point = point; reached = false; run = base } in
          record {
            grows = grows_here store;
            legs = legs;
            row = record {
              at_point = refl;
              is_kept = record { shared = taken.0; link = nothing.there };
              is_seen = record {
                whole = whole;
                is_row = (is, missed);
                is =
                    ap (λ (events : List Event). record whole { run = record whole.run { events = events } }) its
                    ∙ with_own shown whole;
              };
            };
          }

-- ---- several rows

pub all-append : {X : Type 0} (P : X → Type 0) (xs ys : List X)
    → AllByRecursion P xs → AllByRecursion P ys → AllByRecursion P (xs ++ ys)
all-append P [] ys h k = k
all-append P (x ∷ xs) ys h k = (h.0, all-append P xs ys h.1 k)

-- a store that became more has the same rows
module _ (base : Run) (store new : Store) (legs : AreLegs base.events store) (grown : Grows store new) where
  pub same_rows : (kept : List KeptRow) → AllByRecursion (IsKept base store) kept → rows_of base new kept ≡ rows_of base store kept
  same_rows [] all = refl
  same_rows (k ∷ kept) all = rw (same_linked_events base.events store legs new grown k.link all.0.link, same_rows kept all.1) refl

  still_one : (k : KeptRow) → IsKept base store k → IsKept base new k
  still_one k is = record { shared = is.shared; link = still_link base.events store legs new grown k.link is.link }

  pub still_kept : (kept : List KeptRow) → AllByRecursion (IsKept base store) kept → AllByRecursion (IsKept base new) kept
  still_kept [] all = tt
  still_kept (k ∷ kept) all = (still_one k all.0, still_kept kept all.1)

  pub still_known : (app : Application) (limits : Limits) (view : View) (kept : List KeptRow)
      → AreKnown app limits view base kept store → AreKnown app limits view base kept new
  still_known app limits view [] known = tt
  still_known app limits view (k ∷ kept) known = (
    record {
      at_point = refl;
      is_kept = still_one k known.0.is_kept;
      is_seen = rw (same_linked_events base.events store legs new grown k.link known.0.is_kept.link) known.0.is_seen;
    },
    still_known app limits view kept known.1,
  )

-- rows of some points, and of others
pub rows-append : (app : Application) (limits : Limits) (view : View)
    (points others : List (List Injection)) (rows after : List Row)
    → AreSeen app limits view points rows → AreSeen app limits view others after
    → AreSeen app limits view (points ++ others) (rows ++ after)
rows-append app limits view points others rows after are behind = record {
  one_each = rw (map-append (λ (row : Row). row.point) rows after, are.one_each, behind.one_each) refl;
  each = all-append _ rows after are.each behind.each;
}

module _ (app : Application) (limits : Limits) (view : View) (base : Run) where
  -- nothing is gained of no points
  pub gains_none : (kept : List KeptRow) (store : Store) (seat : Tallied) → AreLegs base.events store
      → GainsRows app limits view base [] kept kept store store seat seat
  gains_none kept store seat legs = record {
    more = [];
    rows_are = sym (append-nil kept);
    grows = grows_here store;
    legs = legs;
    sound = tt;
    made = record { one_each = refl; each = tt };
    gained = record { same = refl; rises = λ kind l. let few = kind_in-few [] kind in omega arith };
  }

  -- one row is pushed and counted
  pub gains_one : (point : List Injection) (kept kept' : List KeptRow) (store store' : Store)
      (seat seat' : Tallied) (row : KeptRow) (g : GainsRow app limits view base point store store' row)
      → kept' ≡ kept ++ row ∷ [] → Gained (kind_in (row_of base store' row ∷ [])) seat seat'
      → GainsRows app limits view base (point ∷ []) kept kept' store store' seat seat'
  gains_one point kept kept' store store' seat seat' row g pushed counted = record {
    more = row ∷ [];
    rows_are = pushed;
    grows = g.grows;
    legs = g.legs;
    sound = (g.row.is_kept, tt);
    made = record {
      one_each = ap (λ (p : List Injection). p ∷ []) g.row.at_point;
      each = (g.row.is_seen, tt);
    };
    gained = counted;
  }

  -- rows, and then other rows
  pub gains_both : (points others : List (List Injection)) (a b c : List KeptRow) (t u v : Store) (x y z : Tallied)
      → GainsRows app limits view base points a b t u x y → GainsRows app limits view base others b c u v y z
      → GainsRows app limits view base (points ++ others) a c t v x z
  gains_both points others a b c t u v x y z g h =
      let same : rows_of base v g.more ≡ rows_of base u g.more = same_rows base u v g.legs h.grows g.more g.sound in
      let both : rows_of base v (g.more ++ h.more) ≡ rows_of base u g.more ++ rows_of base v h.more =
      map-append (row_of base v) g.more h.more ∙ ap (λ rows. rows ++ rows_of base v h.more) same in
      record {
        more = g.more ++ h.more;
        rows_are = h.rows_are ∙ ap (λ rows. rows ++ h.more) g.rows_are ∙ append_assoc a g.more h.more;
        grows = grows_then t u v g.grows h.grows;
        legs = h.legs;
        sound = all-append _ g.more h.more (still_kept base u v g.legs h.grows g.more g.sound) h.sound;
        made = rw both (rows-append app limits view points others _ _ g.made h.made);
        gained = record {
          same = h.gained.same ∙ g.gained.same;
          rises = λ kind l. (
              let p = g.gained.rises kind l in
              let q = h.gained.rises kind l in
              let sum =
              ap (λ (rows : List Row). kind_in rows kind) both
              ∙ kind_in-append (rows_of base u g.more) (rows_of base v h.more) kind in
              omega arith);
        };
      }

  -- rows that are counted first, and then added to a seat at once
  pub gains_at_once : (points : List (List Injection)) (kept kept' : List KeptRow) (store store' : Store) (tally : Sheet)
      (kinds : List ℕ) (seat seat' : Tallied)
      → GainsRows app limits view base points kept kept' store store' (counted tally zeros) (counted tally kinds)
      → Gained (slice_index kinds) seat seat' → GainsRows app limits view base points kept kept' store store' seat seat'
  gains_at_once points kept kept' store store' tally kinds seat seat' g added = record {
    more = g.more;
    rows_are = g.rows_are;
    grows = g.grows;
    legs = g.legs;
    sound = g.sound;
    made = g.made;
    gained = record {
      same = added.same;
      rises = λ kind l.
          let counts = g.gained.rises kind l in
          let none = none_added kind in
          let all = added.rises kind l in
          omega arith;
    };
  }

  -- how much the seat added at most
  pub gained_few : (points : List (List Injection)) (a b : List KeptRow) (t u : Store)
      (x y : Tallied) (g : GainsRows app limits view base points a b t u x y)
      → (kind : ℕ) → kind < 7 → slice_index y.added kind ≤ slice_index x.added kind + length points
  gained_few points a b t u x y g kind l =
      let few = kind_in-few (rows_of base u g.more) kind in
      let count : length (rows_of base u g.more) ≡ length points =
      sym (length-map (rows_of base u g.more) (λ (row : Row). row.point)) ∙ ap length g.made.one_each in
      let rises = g.gained.rises kind l in
      omega arith

pub next_point : (points : List (List Injection)) (index : ℕ) (point : List Injection)
    → index < length points → point ≡ slice_index_or points index point
    → take (index + 1) points ≡ take index points ++ point ∷ []
next_point points index point l is =
    take_more points index point l ∙ ap (λ (p : List Injection). take index points ++ p ∷ []) (sym is)

-- ---- a point that was run before

module _ (app : Application) (limits : Limits) (view : View) (base : Run) where
  -- its row is kept
  row_again : (point : List Injection) (store : Store) (kept : List KeptRow) (number : ℕ)
      → AreLegs base.events store → AreKnown app limits view base kept store → (among : IsAmong kept point number)
      → GainsRow app limits view base point store store among.row
  row_again point store kept number legs known among = record {
    grows = grows_here store;
    legs = legs;
    row =
        subst (λ (p : List Injection). IsKeptRow app limits view base store p among.row)
        among.at_point (all_got _ kept number among.row among.is known);
  }

  -- and kept once more
  pub kept_again : (point : List Injection) (store : Store) (kept kept' : List KeptRow) (number : ℕ)
      → AreLegs base.events store → AreKnown app limits view base kept store
      → (among : IsAmong kept point number) → ((row : KeptRow) → slice_get kept number ≡ Some row → kept' ≡ kept ++ row ∷ [])
      → (row : KeptRow) → slice_get kept number ≡ Some row → (outcome : Outcome)
      → outcome ≡ record { reached = row.reached; end = row.end }
      → KeepsRow app limits view base point kept kept' store store outcome
  kept_again point store kept kept' number legs known among more row is outcome its =
      let same : among.row ≡ row = same_Some among.row row (sym among.is ∙ is) in
      record {
        row = among.row;
        rows_are = more among.row among.is;
        reached = ap (λ (k : KeptRow). k.reached) same ∙ sym (ap (λ (o : Outcome). o.reached) its);
        ends = ap (λ (k : KeptRow). k.end) same ∙ sym (ap (λ (o : Outcome). o.end) its);
        gains = row_again point store kept number legs known among;
      }

  made_known : (kept : List KeptRow) (store : Store) → AllByRecursion (IsKept base store) kept
      → AllByRecursion (IsSeen app limits view) (rows_of base store kept) → AreKnown app limits view base kept store
  made_known [] store sound made = tt
  made_known (k ∷ kept) store sound made =
      (record { at_point = refl; is_kept = sound.0; is_seen = made.0 }, made_known kept store sound.1 made.1)

  -- rows that were gained are known too
  pub known_more : (points : List (List Injection)) (a b : List KeptRow) (t u : Store) (x y : Tallied)
      → AreLegs base.events t → AreKnown app limits view base a t
      → GainsRows app limits view base points a b t u x y → AreKnown app limits view base b u
  known_more points a b t u x y legs known g =
      rw g.rows_are (all-append _ a g.more (still_known base t u legs g.grows app limits view a known)
      (made_known g.more u g.sound g.made.each))
