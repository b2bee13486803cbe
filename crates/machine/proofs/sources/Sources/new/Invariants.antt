use Rattle.std.proofs.Common.{◌≡◌, ◌+◌, ℕ, length, take, map, get_or}
use Rattle.model.specs.State.{no_source}
use Rattle.model.specs.Step.{source_at_reset}
use Rattle.machine.specs.Sources.{source_in}
use Rattle.machine.proofs.sources.Sources.new.Given as goal

abbrev pub invariant-loop-index : goal.invariant-loop-index
invariant-loop-index l = record {
  number : l.sources.number ≡ length l.handlers + 1;
  each : (source : ℕ) → source_in l.sources source ≡ get_or (map source_at_reset (take l.index l.handlers)) source no_source;
  full : (length l.sources.pending ≡ 17) × (length l.sources.arrivals ≡ 17);
}
