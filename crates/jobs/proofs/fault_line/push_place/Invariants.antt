use Rattle.std.proofs.Common.{◌≡◌, ◌++◌, ◌≤◌, ◌+◌, map, drop, filter_map, option_map}
use Rattle.arrayvec.specs.ArrayVec.{array_vec_len}
use Rattle.byte_io.specs.Line.{piece_text}
use Rattle.script.specs.Faults.{word_text}
use Rattle.jobs.proofs.fault_line.push_place.Given as goal

abbrev pub invariant-loop-word : goal.invariant-loop-word
invariant-loop-word l = record {
  words : map piece_text l.pieces.items ++ filter_map (option_map word_text) (drop l.word-index l.word-items)
      ≡ map piece_text l.initial.pieces.items ++ filter_map (option_map word_text) l.word-items;
  count : array_vec_len l.pieces ≤ 3 + l.word-index;
}
