use Rattle.std.proofs.Common.{◌≡◌, ◌<◌, ◌-◌, length, slice_index_or}
use Rattle.rows.specs.Pieces.{IsAt}
use Rattle.rows.proofs.cursor.Cursor.leave_ended.Given as goal

abbrev pub invariant-loop-place : goal.invariant-loop-place
invariant-loop-place l = record {
  at : IsAt l.rows l.self;
  number : l.self.number ≡ l.fn.self.number;
  within : l.self.place < length l.rows.places.items;
  is : l.place ≡ slice_index_or l.rows.places.items l.self.place l.place;
}

abbrev pub decreases-loop-place : goal.decreases-loop-place
decreases-loop-place l = length l.rows.places.items - l.self.place
