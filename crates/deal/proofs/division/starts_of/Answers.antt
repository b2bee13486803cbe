use Rattle.std.proofs.Common.{◌≡◌, ◌<◌, ◌+◌, ℕ, List, [], ◌∷◌, ◌++◌, length, sum, take, slice_index, ap, sym, subst, ◌∙◌, arith}
use Rattle.std.proofs.Common.{below_more}
use Rattle.std.proofs.lemmas.List.{get_or_append_left}
use Rattle.std.proofs.lemmas.List.Sums.{fold_more, sum_by_more_le}
use Rattle.std.proofs.Math.Seq.{get_or-append_seam}
use Rattle.deal.proofs.division.starts_of.Goals as goal

-- one more start
starts_more : (xs ys : List ℕ) (first n : ℕ) → length ys ≡ n → first ≡ sum (take n xs)
    → ((i : ℕ) → i < n → slice_index ys i ≡ sum (take i xs)) → (i : ℕ) → i < n + 1
    → slice_index (ys ++ first ∷ []) i ≡ sum (take i xs)
starts_more xs ys first n many e before =
    let zs : List ℕ = ys ++ first ∷ [] in
    let last : slice_index zs n ≡ first = subst (λ k. slice_index zs k ≡ first) many (get_or-append_seam ys first [] 0) in
    below_more (λ k. slice_index zs k ≡ sum (take k xs)) n
    (λ k below. get_or_append_left ys (first ∷ []) 0 k (omega (arith, many, below)) ∙ before k below) (last ∙ e)

pub overflow_add-first : goal.overflow_add-first
overflow_add-first c =
    omega (
      arith,
      sum_by_more_le (λ x. x) c.args.lengths.now c.loop-length.length-index 0 c.loop-length-test.true,
      c.loop-length.invariant.1,
      c.requires,
    )

pub loop-length-preserved : goal.loop-length-preserved
loop-length-preserved c =
    let i = c.loop-length.invariant in
    let n = c.loop-length.length-index in
    let xs = c.args.lengths.now in (
      omega (arith, c.in_ok-push.ensures.len, i.0),
      ap (λ m. m + slice_index xs n) i.1 ∙ sym (fold_more (λ a b. a + b) 0 xs n 0 c.loop-length-test.true),
      subst (λ (ys : List ℕ). (k : ℕ) → k < n + 1 → slice_index ys k ≡ sum (take k xs)) (sym c.in_ok-push.ensures.items)
          (starts_more xs c.loop-length.starts.items c.loop-length.first n (omega (arith, i.0, c.loop-length.starts.ok)) i.1 i.2),
    )

pub returns : goal.returns
returns c =
    let i = c.loop-length.invariant in (
      omega (arith, i.0, c.loop-length.starts.ok, c.loop-length-test.false, c.loop-length.auto.length-index-end),
      λ k below. i.2 k (omega (arith, below, c.loop-length-test.false)),
    )
