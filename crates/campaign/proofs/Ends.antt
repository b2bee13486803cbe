-- How many rows are of a kind.
use Rattle.std.proofs.Common.{◌≡◌, ◌≤◌, ◌<◌, ◌+◌, ℕ, zero, suc, Bool, true, false, cond, not, eqb, List, [], ◌∷◌, ◌++◌, length}
use Rattle.std.proofs.Common.{filter, refl, sym, ap, ap₂, ◌∙◌, arith}
use Rattle.model.specs.declared.event.End.{End}
use Rattle.model.specs.declared.event.End.TheVariants.{Pass}
use Rattle.model.specs.Campaign.{Row, is_pass, is_check, is_misuse, is_ticks, is_steps, is_stuck_end}
use Rattle.model.proofs.Counting.{passed_few}
use Rattle.campaign.specs.Kinds.{kind_of, kind_in}

-- ---- one after the other

module _ {X : Type 0} (p : X → Bool) where
  one_more : (b : Bool) (x : X) (ws bs cs : List X) → length ws ≡ length bs + length cs
      → length (cond b (x ∷ ws) ws) ≡ length (cond b (x ∷ bs) bs) + length cs
  one_more true x ws bs cs h = omega arith
  one_more false x ws bs cs h = h

  pub passed-append : (xs ys : List X) → length (filter p (xs ++ ys)) ≡ length (filter p xs) + length (filter p ys)
  passed-append [] ys = omega arith
  passed-append (x ∷ xs) ys = one_more (p x) x (filter p (xs ++ ys)) (filter p xs) (filter p ys) (passed-append xs ys)

pub kind_in-append : (xs ys : List Row) (kind : ℕ) → kind_in (xs ++ ys) kind ≡ kind_in xs kind + kind_in ys kind
kind_in-append xs ys zero = passed-append (λ (row : Row). is_pass row.run.end) xs ys
kind_in-append xs ys (suc zero) = passed-append (λ (row : Row). is_check row.run.end) xs ys
kind_in-append xs ys (suc (suc zero)) = passed-append (λ (row : Row). is_misuse row.run.end) xs ys
kind_in-append xs ys (suc (suc (suc zero))) = passed-append (λ (row : Row). is_ticks row.run.end) xs ys
kind_in-append xs ys (suc (suc (suc (suc zero)))) = passed-append (λ (row : Row). is_steps row.run.end) xs ys
kind_in-append xs ys (suc (suc (suc (suc (suc zero))))) = passed-append (λ (row : Row). is_stuck_end row.run.end) xs ys
kind_in-append xs ys (suc (suc (suc (suc (suc (suc zero)))))) = passed-append (λ (row : Row). not row.reached) xs ys
kind_in-append xs ys (suc (suc (suc (suc (suc (suc (suc kind))))))) = omega arith

pub kind_in-few : (xs : List Row) (kind : ℕ) → kind_in xs kind ≤ length xs
kind_in-few xs zero = passed_few (λ (row : Row). is_pass row.run.end) xs
kind_in-few xs (suc zero) = passed_few (λ (row : Row). is_check row.run.end) xs
kind_in-few xs (suc (suc zero)) = passed_few (λ (row : Row). is_misuse row.run.end) xs
kind_in-few xs (suc (suc (suc zero))) = passed_few (λ (row : Row). is_ticks row.run.end) xs
kind_in-few xs (suc (suc (suc (suc zero)))) = passed_few (λ (row : Row). is_steps row.run.end) xs
kind_in-few xs (suc (suc (suc (suc (suc zero))))) = passed_few (λ (row : Row). is_stuck_end row.run.end) xs
kind_in-few xs (suc (suc (suc (suc (suc (suc zero)))))) = passed_few (λ (row : Row). not row.reached) xs
kind_in-few xs (suc (suc (suc (suc (suc (suc (suc kind))))))) = omega arith

-- ---- one row

passes : (e : End) → is_pass e ≡ eqb 0 (kind_of e)
passes Pass = refl
passes e = refl

checks : (e : End) → is_check e ≡ eqb 1 (kind_of e)
checks Pass = refl
checks e = refl

misuses : (e : End) → is_misuse e ≡ eqb 2 (kind_of e)
misuses Pass = refl
misuses e = refl

in_ticks : (e : End) → is_ticks e ≡ eqb 3 (kind_of e)
in_ticks Pass = refl
in_ticks e = refl

in_steps : (e : End) → is_steps e ≡ eqb 4 (kind_of e)
in_steps Pass = refl
in_steps e = refl

is_stuck : (e : End) → is_stuck_end e ≡ eqb 5 (kind_of e)
is_stuck Pass = refl
is_stuck e = refl

no_end : (e : End) → eqb 6 (kind_of e) ≡ false
no_end Pass = refl
no_end e = refl

one : {X : Type 0} (x : X) (b : Bool) (n : ℕ) → n ≡ 0 → length (cond b (x ∷ []) []) ≡ cond b 1 0 + n
one x true n e = omega arith
one x false n e = omega arith

late : {X : Type 0} (x : X) (b : Bool) → length (cond (not b) (x ∷ []) []) ≡ cond b 0 1
late x true = refl
late x false = refl

other : (b : Bool) → cond {A = ℕ} b 0 0 ≡ 0
other true = refl
other false = refl

-- a row counts for the kind of its end, and where its point is not reached, for that kind too
pub one_row : (row : Row) (kind : ℕ) → kind < 7
    → kind_in (row ∷ []) kind ≡ cond (eqb kind (kind_of row.run.end)) 1 0 + cond row.reached 0 (cond (eqb kind 6) 1 0)
one_row row zero l = rw (sym (passes row.run.end)) (one row (is_pass row.run.end) _ (other row.reached))
one_row row (suc zero) l = rw (sym (checks row.run.end)) (one row (is_check row.run.end) _ (other row.reached))
one_row row (suc (suc zero)) l = rw (sym (misuses row.run.end)) (one row (is_misuse row.run.end) _ (other row.reached))
one_row row (suc (suc (suc zero))) l = rw (sym (in_ticks row.run.end)) (one row (is_ticks row.run.end) _ (other row.reached))
one_row row (suc (suc (suc (suc zero)))) l = rw (sym (in_steps row.run.end)) (one row (is_steps row.run.end) _ (other row.reached))
one_row row (suc (suc (suc (suc (suc zero))))) l =
    rw (sym (is_stuck row.run.end)) (one row (is_stuck_end row.run.end) _ (other row.reached))
one_row row (suc (suc (suc (suc (suc (suc zero)))))) l = let e = late row row.reached in rw (no_end row.run.end) (omega arith)
one_row row (suc (suc (suc (suc (suc (suc (suc kind))))))) l = absurd (omega arith)

-- a row that a seat counted so
module _ (row : Row) (kind k : ℕ) (e : End) (l : kind < 7) (is_kind : k ≡ kind_of e) (is_end : row.run.end ≡ e) where
  counts : (b : Bool) → row.reached ≡ b → kind_in (row ∷ []) kind ≡ cond (eqb kind k) 1 0 + cond b 0 (cond (eqb kind 6) 1 0)
  counts b is =
      one_row row kind l
      ∙ ap₂ (λ (n : ℕ) (r : Bool). cond (eqb kind n) 1 0 + cond r 0 (cond (eqb kind 6) 1 0)) (ap kind_of is_end ∙ sym is_kind) is

  pub counts_reached : (old new : ℕ) → row.reached ≡ true → new ≡ old + cond (eqb kind k) 1 0 → new ≡ old + kind_in (row ∷ []) kind
  counts_reached old new is added = let one = counts true is in omega arith

  pub counts_missed : (old mid new : ℕ) → row.reached ≡ false → mid ≡ old + cond (eqb kind k) 1 0
      → new ≡ mid + cond (eqb kind 6) 1 0 → new ≡ old + kind_in (row ∷ []) kind
  counts_missed old mid new is added more = let one = counts false is in omega arith
