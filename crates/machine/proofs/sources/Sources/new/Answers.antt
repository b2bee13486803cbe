use Rattle.std.proofs.Common.{◌≡◌, ◌≢◌, ◌∙◌, ◌<◌, ◌+◌, ℕ, Bool, true, false, eqb, List, [], ◌∷◌, ◌++◌, length, map, take}
use Rattle.std.proofs.Common.{get_or, set, ap, refl, sym, arith, get_or-set_same, get_or-set_other}
use Rattle.std.proofs.lemmas.List.{take_more, map-append, length-map, get_or_past}
use Rattle.std.proofs.Math.ListN.{length-set, length-take}
use Rattle.model.proofs.Sorting.{by_test}
use Rattle.model.proofs.Lists.{eqb-same, eqb-refl}
use Rattle.model.specs.Application.{Handler}
use Rattle.model.specs.State.{Source, no_source}
use Rattle.model.specs.Step.{source_at_reset}
use Rattle.machine.specs.declared.arrivals.Arrival.{Arrival}
use Rattle.machine.specs.Arrivals.{at_any_time}
use Rattle.machine.specs.Sources.{Sources, is_pending, source_in, source_of}
use Rattle.machine.proofs.Arriving.{last_is, not_last, with_last}
use Rattle.machine.proofs.sources.Sources.new.Goals.{then-not-armed, else-not-armed}
use Rattle.machine.proofs.sources.Sources.new.Goals as goal

-- One handler more has what it has at reset.
module _ (hs : List Handler) (h : Handler) (i : ℕ) (l : i < length hs) (is : h ≡ get_or hs i h) (v : Sources)
    (each : (source : ℕ) → source_in v source ≡ get_or (map source_at_reset (take i hs)) source no_source) where
  abbrev before : List Source
  before = map source_at_reset (take i hs)

  many : length before ≡ i
  many = length-map (take i hs) source_at_reset ∙ (let n = length-take i hs in omega (arith, n, l))

  more : map source_at_reset (take (i + 1) hs) ≡ before ++ source_at_reset h ∷ []
  more =
      ap (map source_at_reset) (take_more hs i h l)
      ∙ map-append source_at_reset (take i hs) (get_or hs i h ∷ [])
      ∙ ap (λ (x : Handler). before ++ source_at_reset x ∷ []) (sym is)

  -- it is armed
  armed_more : true ≡ h.armed → (source : ℕ)
      → source_in v source ≡ get_or (map source_at_reset (take (i + 1) hs)) source no_source
  armed_more on source =
      each source ∙ with_last before no_source source
      ∙ ap (λ (b : Bool). get_or (before ++ record no_source { armed = b } ∷ []) source no_source) on
      ∙ sym (ap (λ (xs : List Source). get_or xs source no_source) more)

  -- or it isn't
  disarmed_more : (a : Arrival) → a ≡ record at_any_time { armed = false } → false ≡ h.armed → length v.arrivals ≡ 17 → i < 17
      → (source : ℕ) → source_in (record v { arrivals = set v.arrivals i a }) source
      ≡ get_or (map source_at_reset (take (i + 1) hs)) source no_source
  disarmed_more a made off full low source = by_test (eqb source i)
      (λ t.
      rw (eqb-same source i t)
      (ap (source_of (is_pending v i)) (get_or-set_same v.arrivals i a at_any_time (omega arith) ∙ made)
      ∙ ap (λ (x : Source). record no_source { pending = x.pending; armed = false })
      (each i ∙ get_or_past before i no_source (omega (arith, many)))
      ∙ ap (λ (b : Bool). record no_source { armed = b }) off
      ∙ sym (last_is before (source_at_reset h) no_source i (sym many))
      ∙ sym (ap (λ (xs : List Source). get_or xs i no_source) more)))
      (λ t.
      let apart : source ≢ i = (λ e. let u : eqb source i ≡ true = ap (λ (k : ℕ). eqb k i) e ∙ eqb-refl i in absurd (cc)) in
      ap (source_of (is_pending v source)) (get_or-set_other v.arrivals i source a at_any_time apart)
      ∙ each source
      ∙ sym (not_last before (source_at_reset h) no_source source (λ e. apart (e ∙ many)))
      ∙ sym (ap (λ (xs : List Source). get_or xs source no_source) more))

pub loop-index-preserved : goal.loop-index-preserved
loop-index-preserved c =
    let hs : List Handler = c.args.handlers.now in
    let h : Handler = c.index-handlers-index.result in
    let i : ℕ = c.loop-index.index in
    let v : Sources = c.loop-index.sources in
    let l : i < length hs = c.loop-index-test.true in
    let kept = c.loop-index.invariant in
    elim c.if-not-armed.branch [
      | then-not-armed w ↦
          let off : false ≡ h.armed = sym w.if-not-armed.true ∙ c.armed.ensures in
          let few = c.requires in
          let number = kept.number in
          let is : c.if-not-armed.sources ≡ record v { arrivals = set v.arrivals i (record at_any_time { armed = false }) } =
          w.sources-is ∙ w.set_arrival.ensures.set (omega arith) in
          record {
            number = ap (λ (x : Sources). x.number) is ∙ number;
            each = λ source.
                ap (λ (x : Sources). source_in x source) is
                ∙ disarmed_more hs h i l c.index-handlers-index.is v kept.each (record at_any_time { armed = false }) refl off
                kept.full.1 (omega arith) source;
            full = (
              ap (λ (x : Sources). length x.pending) is ∙ kept.full.0,
              ap (λ (x : Sources). length x.arrivals) is
                  ∙ length-set v.arrivals i (record at_any_time { armed = false }) ∙ kept.full.1,
            );
          }
      | else-not-armed w ↦
          let on : true ≡ h.armed = sym w.if-not-armed.false ∙ c.armed.ensures in
          record {
            number = ap (λ (x : Sources). x.number) w.sources-is ∙ kept.number;
            each = λ source.
                ap (λ (x : Sources). source_in x source) w.sources-is
                ∙ armed_more hs h i l c.index-handlers-index.is v kept.each on source;
            full = (
              ap (λ (x : Sources). length x.pending) w.sources-is ∙ kept.full.0,
              ap (λ (x : Sources). length x.arrivals) w.sources-is ∙ kept.full.1,
            );
          }
    ]
