-- Jobs of lanes and seats.
use Rattle.std.proofs.Common.{◌≡◌, ◌+◌, ℕ, List, [], ◌∷◌, ◌++◌, slice_index, ap, subst, ◌∙◌, arith}
use Rattle.std.proofs.lemmas.List.{map_push}
use Rattle.deal.specs.Sharing.{Game, Sight}
use Rattle.deal.specs.Tallies.{Sheet, Tallied, added_in}
use Rattle.deal.proofs.Members.{each_left, each_middle, each_last}
use Rattle.deal.proofs.Sums.{total_append}
use Rattle.campaign.specs.declared.worker.Job.{Job}
use Rattle.rows.specs.declared.rows.KeptRow.{KeptRow}
use Rattle.campaign.specs.Working.{AreIdle, AreJobs, AreReady, seats_of}

-- the last lane and the last seat get a job, without rows
pub jobs_more : (deal : Game) (tally : Sheet) (count : ℕ) (lanes others : List Sight) (seats rest : List Tallied)
    (lane : Sight) (seat : Tallied) (jobs new : List Job) (number : ℕ) (kept : List KeptRow)
    → kept ≡ []
    → lanes ≡ others ++ lane ∷ [] → seats ≡ rest ++ seat ∷ []
    → new ≡ jobs ++ record { number = number; lane = lane; seat = seat; kept = kept } ∷ []
    → AreIdle deal lanes × AreReady tally count seats × AreJobs deal tally count jobs
    → AreIdle deal others × AreReady tally count rest × AreJobs deal tally count new
jobs_more deal tally count lanes others seats rest lane seat jobs new number kept none e f g all =
    let idle : AreIdle deal (others ++ lane ∷ []) = subst (AreIdle deal) e all.0 in
    let ready : AreReady tally count (rest ++ seat ∷ []) = subst (AreReady tally count) f all.1 in
    let mine = each_middle _ others lane [] idle in
    let its = each_middle _ rest seat [] ready in (
      each_left _ others (lane ∷ []) idle,
      each_left _ rest (seat ∷ []) ready,
      rw g (each_last _ jobs (record { number = number; lane = lane; seat = seat; kept = kept })
          all.2 (record { lane = mine.0; fresh = mine.1; seat = its.0; room = its.1; none = none })),
    )

-- and the seat's counts go with it
pub added_more : (kind : ℕ) (seats rest : List Tallied) (lane : Sight)
    (seat : Tallied) (jobs new : List Job) (number whole : ℕ) (kept : List KeptRow)
    → seats ≡ rest ++ seat ∷ [] → new ≡ jobs ++ record { number = number; lane = lane; seat = seat; kept = kept } ∷ []
    → added_in kind (seats_of jobs) + added_in kind seats ≡ whole → added_in kind (seats_of new) + added_in kind rest ≡ whole
added_more kind seats rest lane seat jobs new number whole kept f g sum =
    let at : Tallied → ℕ = λ s. slice_index s.added kind in
    let job : Job = record { number = number; lane = lane; seat = seat; kept = kept } in
    let first = ap (added_in kind) f ∙ total_append at rest (seat ∷ []) in
    let then =
    ap (λ (js : List Job). added_in kind (seats_of js)) g
    ∙ ap (added_in kind) (map_push (λ (j : Job). j.seat) jobs job) ∙ total_append at (seats_of jobs) (seat ∷ []) in
    omega arith
