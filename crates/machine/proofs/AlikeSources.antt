-- The same sources at a later tick, and sources that are the same from a tick on.
use Rattle.std.proofs.Common.{◌≡◌, ◌∙◌, ◌≤◌, ◌-◌, ℕ, Bool, false, List, get_or, length, ap, ap₂, arith, sym}
use Rattle.model.specs.State.{Source, no_source}
use Rattle.machine.specs.declared.arrivals.Arrival.{Arrival}
use Rattle.machine.specs.Arrivals.{arrival_from, arrival_in}
use Rattle.machine.specs.Sources.{Sources, source_from, source_in, source_of}
use Rattle.machine.specs.StandsFor.{AreSources}

-- Sources that are the same from a tick on are the same from a later one on.
pub later_same : (now later : ℕ) (x y : Source) → now ≤ later → source_from now x ≡ source_from now y
    → source_from later x ≡ source_from later y
later_same now later x y l same =
    let free : x.free_from - now ≡ y.free_from - now = ap (λ (z : Source). z.free_from) same in
    let left : x.free_from - later ≡ y.free_from - later = omega (arith, l, free) in
    ap₂ (λ (z : Source) (n : ℕ). record z { free_from = n }) same left

pub are_later : (now later : ℕ) (v : Sources) (xs : List Source) → now ≤ later → AreSources now v xs → AreSources later v xs
are_later now later v xs l are = record {
  number = are.number;
  same = λ source. later_same now later (source_in v source) (get_or xs source no_source) l (are.same source);
  full = are.full;
  few = are.few;
}

-- Other sources that are the same from a tick on are the same ones.
pub are_too : (now : ℕ) (v w : Sources) (xs : List Source) → v.number ≡ w.number → v.pending ≡ w.pending
    → ((source : ℕ) → arrival_from now (arrival_in v.arrivals source) ≡ arrival_from now (arrival_in w.arrivals source))
    → length w.arrivals ≡ 17 → AreSources now v xs → AreSources now w xs
are_too now v w xs number pending same full are = record {
  number = sym number ∙ are.number;
  same = λ source.
      ap₂ (λ (ps : List Bool) (a : Arrival). source_of (get_or ps source false) a) (sym pending) (sym (same source))
      ∙ are.same source;
  full = (ap (λ (ps : List Bool). length ps) (sym pending) ∙ are.full.0, full);
  few = are.few;
}
