use Rattle.std.proofs.Common.{◌≡◌, drop, length}
use Rattle.rows.specs.Placing.{all_placed}
use Rattle.rows.proofs.placing.place_all.Given as goal

abbrev pub invariant-loop-number : goal.invariant-loop-number
invariant-loop-number l = record {
  placed : all_placed l.number (drop l.number l.parts) l.places ≡ all_placed 0 l.parts l.fn.places;
  long : length l.places ≡ length l.fn.places;
}
