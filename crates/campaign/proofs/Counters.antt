-- Points cut into even blocks, and the seats of a new tally.
use Rattle.std.proofs.Common.{◌≡◌, ◌≤◌, ◌^◌, ℕ, zero, suc, List, replicate, slice_index, refl, arith}
use Rattle.deal.specs.Parts.{zeros}
use Rattle.deal.specs.Tallies.{Sheet, Tallied, fresh_seat}
use Rattle.campaign.specs.Working.{AreReady}

-- a seat that has added nothing has added nothing of a kind
pub none_added : (kind : ℕ) → slice_index zeros kind ≡ 0
none_added zero = refl
none_added (suc zero) = refl
none_added (suc (suc zero)) = refl
none_added (suc (suc (suc zero))) = refl
none_added (suc (suc (suc (suc zero)))) = refl
none_added (suc (suc (suc (suc (suc zero))))) = refl
none_added (suc (suc (suc (suc (suc (suc zero)))))) = refl
none_added (suc (suc (suc (suc (suc (suc (suc kind))))))) = refl

ready : (tally : Sheet) (count n : ℕ) → count ≤ 2 ^ 40 → AreReady tally count (replicate n (fresh_seat tally))
ready tally count zero few = tt
ready tally count (suc n) few = ((refl, λ kind l. let none = none_added kind in omega arith), ready tally count n few)

pub ready_seats : (tally : Sheet) (count n : ℕ) (seats : List Tallied) → count ≤ 2 ^ 40
    → seats ≡ replicate n (fresh_seat tally) → AreReady tally count seats
ready_seats tally count n seats few is = rw is (ready tally count n few)
