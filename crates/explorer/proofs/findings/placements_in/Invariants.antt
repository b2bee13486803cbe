use Rattle.std.proofs.Common.{◌≡◌, take}
use Rattle.explorer.specs.Totals.{placements_in}
use Rattle.explorer.proofs.findings.placements_in.Given as goal

abbrev pub invariant-loop-one : goal.invariant-loop-one
invariant-loop-one l = l.placements ≡ placements_in (take l.one-index l.found)
