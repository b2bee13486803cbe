use Rattle.std.proofs.Common.{◌≡◌, ◌<◌, ◌+◌, ◌∙◌, ℕ, List, length, slice_index, replicate, ap, sym}
use Rattle.std.proofs.lemmas.List.{length-map}
use Rattle.model.specs.Campaign.{Row}
use Rattle.deal.specs.Tallies.{added_in}
use Rattle.campaign.specs.Kinds.{kind_in}
use Rattle.rows.specs.declared.rows.Part.{Part}
use Rattle.rows.specs.declared.rows.Place.{Place}
use Rattle.campaign.specs.Made.{rows_placed}
use Rattle.rows.specs.Placing.{all_placed}
use Rattle.campaign.proofs.Whole.{all_at, numbers_below, parts_kept, rows_all, rows_few, seats_rise}
use Rattle.campaign.proofs.all_rows.gather_rows.Goals as goal

pub places_of-requires : goal.places_of-requires
places_of-requires c =
    let given = c.requires.points in
    let apart = c.args.brought.apart in
    rw c.deref.ensures.value (numbers_below given.0 given.1.0 c.args.brought.deal
    apart.lanes.items apart.parts.items given.1.1 given.1.2 c.args.blocks c.requires.blocks)

pub returns : goal.returns
returns c work base tally old whole many before brought =
    let closed = c.close-closed.ensures in
    let apart = c.args.brought.apart in
    let lanes = apart.lanes.items in
    let parts = apart.parts.items in
    let places = c.in_ok-places.places.items in
    let none : Place = record { part = 0; first = 0; count = 0 } in
    let placed =
    c.in_ok-places.ensures ∙ ap (λ (ps : List Part). all_placed 0 ps (replicate c.args.blocks none)) c.deref.ensures.value in
    let deal = c.args.brought.deal in
    let rest = c.close-closed.result.rest.items in
    let rows =
    rows_all work base deal lanes parts whole brought.brings rest places
    c.args.blocks none closed.once closed.all c.requires.blocks placed in
    let few =
    rows_few work base deal lanes parts whole brought.brings rest places
    c.args.blocks none closed.once closed.all c.requires.blocks placed in
    let rise =
    seats_rise work base deal lanes parts whole brought.brings rest places c.args.blocks none
    closed.once closed.all c.requires.blocks placed tally old apart.seats.items brought in
    let same : length (rows_placed work.base parts places) ≡ c.args.rows =
    sym (length-map (rows_placed work.base parts places) (λ (row : Row). row.point)) ∙ ap length rows.one_each ∙ many in
    let counts : (kind : ℕ) → kind < 7
    → added_in kind apart.seats.items
    ≡ slice_index c.args.before.now.kinds kind + kind_in (rows_placed work.base parts places) kind = λ kind l.
    rise kind l ∙ ap (λ (n : ℕ). n + kind_in (rows_placed work.base parts places) kind) (sym (before kind l)) in
    record {
      kept = parts_kept work parts brought.brings.made;
      placed =
          all_at work base deal lanes parts whole brought.brings rest places
          c.args.blocks none closed.once closed.all c.requires.blocks placed;
      rows = rows;
      counted = c.totals-totals.ensures (rows_placed work.base parts places) same few
          (λ kind l. rw c.deref-2.ensures.value (counts kind l));
      back = brought.back;
      rise = rise;
    }
