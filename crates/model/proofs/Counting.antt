-- How many elements of a list pass a test.
use Rattle.std.proofs.Common.{◌≤◌, Bool, List, length, arith, filter}
use Rattle.std.proofs.lemmas.List.Sums.{length-filter, count_by-le-length}

-- No more than it has.
pub passed_few : {X : Type 0} (p : X → Bool) (xs : List X) → length (filter p xs) ≤ length xs
passed_few p xs = omega (arith, length-filter p xs, count_by-le-length p xs)
