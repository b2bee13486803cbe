-- Texts that are cut at a character, and numbers that digits spell.
use Rattle.std.specs.Prelude.{MatchOption, Result, Ok, Err, IfSome, IsNone, IsSome, ◌↔◌, ◌^◌, ◌==◌, nat_le, nat_lt, slice_index}
use Rattle.std.specs.Prelude.{if◌then◌else◌}
use Rattle.std.specs.Result.{result_ok}
use Rattle.std.proofs.Common.{◌≡◌, ◌<◌, ◌&&◌, ℕ, Bool, true, false, eqb, List, [], ◌∷◌, length, Option, Some, None, refl, sym}
use Rattle.std.proofs.Common.{subst, ap, ap₂, ◌∙◌, arith}
use Rattle.std.specs.Borrow.{Bor}
use Rattle.std.specs.Char.{digit_value}
use Rattle.std.specs.List.{join_with_byte, list_all, onto_first, position_or_len, slice_split}
use Rattle.std.specs.Str.Parse.{AllDigits, IsNumeral, ParsesUnsigned, digits_value, without_leading_plus}
use Rattle.std.proofs.lemmas.Bool.Decides.{nat_tests}
use Rattle.std.proofs.lemmas.List.Splits.{join_with_byte-slice_split, length-slice_split, slice_split-cons_no, slice_split_first}
use Rattle.std.proofs.lemmas.Str.Parse.{digit_from_value}
use Rattle.std.proofs.lemmas.Str.Pattern.{IsSplitOnceResult, split_once_first}
use Rattle.model.specs.Scripts.{is_within}
use Rattle.report.specs.Shards.{IsShard, Shard, most_shards}
use Rattle.requests.specs.Shown.{is_numeral, shard_in, shard_named, shard_of, spelled}

-- ---- parts

-- a list in which nothing passes is one part
alone : (p : ℕ → Bool) (xs : List ℕ) → position_or_len p xs ≡ length xs → slice_split p xs ≡ xs ∷ []
alone p [] e = refl
alone p (x ∷ xs) e = by (p x) refl (alone p xs)
  where
    by : (b : Bool) → p x ≡ b → (position_or_len p xs ≡ length xs → slice_split p xs ≡ xs ∷ [])
        → slice_split p (x ∷ xs) ≡ (x ∷ xs) ∷ []
    by true passes rest = absurd (grind (arith, e, passes))
    by false fails rest =
        let left : position_or_len p xs ≡ length xs = grind (arith, e, fails) in
        slice_split-cons_no p x xs fails ∙ ap (onto_first x) (rest left)

-- what `split_once` finds are the first part and the others
pub cut_parts : (c : ℕ) (bs : List ℕ) (r : Option (Bor (List ℕ) × Bor (List ℕ))) → IsSplitOnceResult c bs r → c < 128
    → MatchOption r (slice_split (λ b. eqb b c) bs ≡ bs ∷ [])
    (λ x. slice_split (λ b. eqb b c) bs ≡ x.0.now ∷ slice_split (λ b. eqb b c) x.1.now)
cut_parts c bs None is ascii = alone (λ b. eqb b c) bs (split_once_first c bs None is ascii)
cut_parts c bs (Some x) is ascii =
    let found = split_once_first c bs (Some x) is ascii in
    slice_split_first (λ b. eqb b c) bs 0 found.0
    ∙ ap₂ (λ (first others : List ℕ). first ∷ slice_split (λ b. eqb b c) others) (sym found.1) (sym found.2)

-- a text that is one part is that part
pub one_part : (c : ℕ) (bs part : List ℕ) → slice_split (λ b. eqb b c) bs ≡ part ∷ [] → bs ≡ part
one_part c bs part is = sym (join_with_byte-slice_split c bs) ∙ ap (join_with_byte c) is

-- there is a first part
pub some_part : (c : ℕ) (bs : List ℕ)
    → (first : List ℕ) × (others : List (List ℕ)) × (slice_split (λ b. eqb b c) bs ≡ first ∷ others)
some_part c bs = by (slice_split (λ b. eqb b c) bs) refl
  where
    by : (parts : List (List ℕ)) → slice_split (λ b. eqb b c) bs ≡ parts
        → (first : List ℕ) × (others : List (List ℕ)) × (slice_split (λ b. eqb b c) bs ≡ first ∷ others)
    by [] is = absurd (let long = length-slice_split (λ b. eqb b c) bs in let none = ap length is in omega (arith, long, none))
    by (part ∷ parts) is = (part, parts, is)

-- ---- numbers

digits_tested : (text : List ℕ) → AllDigits 10 text → list_all (λ digit. nat_lt (digit_value digit) 10) text ≡ true
digits_tested [] all = refl
digits_tested (c ∷ cs) all =
    let first : nat_lt (digit_value c) 10 ≡ true = grind (arith, nat_tests, all.0) in
    rw (first, digits_tested cs all.1) refl

both_of : (a b : Bool) → (a && b) ≡ true → (a ≡ true) × (b ≡ true)
both_of true b e = (refl, e)
both_of false b e = absurd (cc)

digits_passed : (text : List ℕ) → list_all (λ digit. nat_lt (digit_value digit) 10) text ≡ true → AllDigits 10 text
digits_passed [] passed = tt
digits_passed (c ∷ cs) passed =
    let both = both_of (nat_lt (digit_value c) 10) (list_all (λ digit. nat_lt (digit_value digit) 10) cs) passed in
    let first : digit_value c < 10 = grind (arith, nat_tests, both.0) in
    (first, digits_passed cs both.1)

pub numeral_spelled : (text : List ℕ) → IsNumeral 10 text → spelled text ≡ Some (digits_value 10 text)
numeral_spelled text is =
    let some : nat_lt 0 (length text) ≡ true = grind (arith, nat_tests, is.0) in
    rw (some, digits_tested text is.1) refl

abbrev nothing : Option ℕ
nothing = None

pub spelled_numeral : (text : List ℕ) (number : ℕ) → spelled text ≡ Some number
    → IsNumeral 10 text × (digits_value 10 text ≡ number)
spelled_numeral text number is = by (is_numeral text) refl
  where
    by : (b : Bool) → is_numeral text ≡ b → IsNumeral 10 text × (digits_value 10 text ≡ number)
    by true passed =
        let both = both_of (nat_lt 0 (length text)) (list_all (λ digit. nat_lt (digit_value digit) 10) text) passed in
        let some : 0 < length text = grind (arith, nat_tests, both.0) in
        let same : Some (digits_value 10 text) ≡ Some number = rw passed at is in
        ((some, digits_passed text both.1), cc same)
    by false failed =
        let same : nothing ≡ Some number = rw failed at is in
        absurd (cc same)

-- what `parse` reads, where no plus comes first
without_plus : (text : List ℕ) → (slice_index text 0 == 43) ≡ false → without_leading_plus text ≡ text
without_plus text e = rw e refl

pub parsed_some : {E : Type 0} (text : List ℕ) (r : Result ℕ E) → (slice_index text 0 == 43) ≡ false → ParsesUnsigned 32 10 text r
    → IfSome (result_ok r) (λ number. spelled text ≡ Some number)
parsed_some text (Ok number) e is =
    let same = without_plus text e in
    let numeral : IsNumeral 10 text = subst (IsNumeral 10) same is.0.0 in
    numeral_spelled text numeral ∙ ap Some (ap (digits_value 10) (sym same) ∙ sym is.1)
parsed_some text (Err error) e is = tt

pub parsed_none : {E : Type 0} (text : List ℕ) (r : Result ℕ E) → (slice_index text 0 == 43) ≡ false → ParsesUnsigned 32 10 text r
    → IsNone (result_ok r) → (number : ℕ) → spelled text ≡ Some number → number < 2 ^ 32 → ⊥
parsed_none text (Ok number) e is none n spells few = absurd (cc none)
parsed_none text (Err error) e is none n spells few =
    let same = without_plus text e in
    let numeral = spelled_numeral text n spells in
    is (subst (IsNumeral 10) (sym same) numeral.0, (let value = ap (digits_value 10) same ∙ numeral.1 in omega (arith, value, few)))

-- ---- shards

digits_one_part : (bs : List ℕ) → AllDigits 10 bs → slice_split (λ b. eqb b 47) bs ≡ bs ∷ []
digits_one_part [] all = refl
digits_one_part (c ∷ cs) all =
    let range = digit_from_value c all.0 in
    let other : eqb c 47 ≡ false = grind (arith, nat_tests, range) in
    slice_split-cons_no (λ b. eqb b 47) c cs other ∙ ap (onto_first c) (digits_one_part cs all.1)

parts_of_digits : (text : List ℕ) (number : ℕ) → spelled text ≡ Some number → slice_split (λ b. eqb b 47) text ≡ text ∷ []
parts_of_digits text number is = digits_one_part text (spelled_numeral text number is).0.1

no_more : (o : Option ℕ) (a : Option ℕ) → ((number : ℕ) → o ≡ Some number → ⊥) → shard_of a o ≡ None
no_more None None none_such = refl
no_more None (Some number) none_such = refl
no_more (Some number) a none_such = absurd (none_such number refl)

-- a number, and what is behind the first slash
pub of_two : (number count : List ℕ)
    → shard_in (number ∷ slice_split (λ b. eqb b 47) count) ≡ shard_of (spelled number) (spelled count)
of_two number count = by (slice_split (λ b. eqb b 47) count) refl
  where
    by : (parts : List (List ℕ)) → slice_split (λ b. eqb b 47) count ≡ parts
        → shard_in (number ∷ parts) ≡ shard_of (spelled number) (spelled count)
    by [] is = absurd (let long = length-slice_split (λ b. eqb b 47) count in let none = ap length is in omega (arith, long, none))
    by (part ∷ []) is = ap (λ (text : List ℕ). shard_of (spelled number) (spelled text)) (sym (one_part 47 count part is))
    by (part ∷ next ∷ others) is = sym (no_more (spelled count) (spelled number) (λ n spells. (
        let one = ap length (sym (parts_of_digits count n spells) ∙ is) in
        omega (arith, one))))

both_tests : (a b : Bool) → (a && b) ≡ true → (a ≡ true) × (b ≡ true)
both_tests true b e = (refl, e)
both_tests false b e = absurd (cc)

within_tests : (number count : ℕ) → (is_within 1 count number && is_within 1 most_shards count) ≡ true → IsShard number count
within_tests number count e =
    let both = both_tests (is_within 1 count number) (is_within 1 most_shards count) e in
    let its = both_tests (nat_le 1 number) (nat_le number count) both.0 in
    let all = both_tests (nat_le 1 count) (nat_le count most_shards) both.1 in
    record {
      some = grind (arith, nat_tests, its.0);
      within = grind (arith, nat_tests, its.1);
      few = grind (arith, nat_tests, all.1);
    }

tests_within : (number count : ℕ) → IsShard number count → (is_within 1 count number && is_within 1 most_shards count) ≡ true
tests_within number count is =
    let a : nat_le 1 number ≡ true = grind (arith, nat_tests, is.some) in
    let b : nat_le number count ≡ true = grind (arith, nat_tests, is.within) in
    let c : nat_le 1 count ≡ true = grind (arith, nat_tests, is.some, is.within) in
    let d : nat_le count most_shards ≡ true = grind (arith, nat_tests, is.few) in
    rw (a, b, c, d) refl

of_tests : (number count : ℕ) (b : Bool) → (is_within 1 count number && is_within 1 most_shards count) ≡ b
    → shard_of (Some number) (Some count) ≡ (if b then Some (record { number = number; count = count }) else None)
of_tests number count b e = rw e refl

pub new_shard : (number count : ℕ) (r : Option Shard) → (IsSome r ↔ IsShard number count)
    → IfSome r (λ shard. shard ≡ record { number = number; count = count })
    → r ≡ shard_of (Some number) (Some count)
new_shard number count (Some shard) known value =
    ap Some value ∙ sym (of_tests number count true (tests_within number count (known.0 refl)))
new_shard number count None known value = by (is_within 1 count number && is_within 1 most_shards count) refl
  where
    by : (b : Bool) → (is_within 1 count number && is_within 1 most_shards count) ≡ b → None ≡ shard_of (Some number) (Some count)
    by true e = absurd (cc (known.1 (within_tests number count e)))
    by false e = sym (of_tests number count false e)

-- numbers that are none of 32 bits are those of no shard
pub no_number : (a b : Option ℕ) → ((number : ℕ) → a ≡ Some number → number < 2 ^ 32 → ⊥) → shard_of a b ≡ None
no_number None None none_such = refl
no_number None (Some count) none_such = refl
no_number (Some number) None none_such = refl
no_number (Some number) (Some count) none_such = by (is_within 1 count number && is_within 1 most_shards count) refl
  where
    by : (b : Bool) → (is_within 1 count number && is_within 1 most_shards count) ≡ b → shard_of (Some number) (Some count) ≡ None
    by true e = let is = within_tests number count e in absurd (none_such number refl (omega (arith, is.within, is.few)))
    by false e = of_tests number count false e

pub no_count : (a b : Option ℕ) → ((count : ℕ) → b ≡ Some count → count < 2 ^ 32 → ⊥) → shard_of a b ≡ None
no_count None None none_such = refl
no_count None (Some count) none_such = refl
no_count (Some number) None none_such = refl
no_count (Some number) (Some count) none_such = by (is_within 1 count number && is_within 1 most_shards count) refl
  where
    by : (b : Bool) → (is_within 1 count number && is_within 1 most_shards count) ≡ b → shard_of (Some number) (Some count) ≡ None
    by true e = let is = within_tests number count e in absurd (none_such count refl (omega (arith, is.few)))
    by false e = of_tests number count false e

-- ---- of a text

-- where it has no stroke it is that of no shard
pub without_stroke : (text : List ℕ) → IsSplitOnceResult 47 text None → shard_named text ≡ None
without_stroke text is = ap shard_in (cut_parts 47 text None is (omega arith))

pub at_stroke : (text : List ℕ) (parts : Bor (List ℕ) × Bor (List ℕ)) → IsSplitOnceResult 47 text (Some parts)
    → shard_named text ≡ shard_of (spelled parts.0.now) (spelled parts.1.now)
at_stroke text parts is = ap shard_in (cut_parts 47 text (Some parts) is (omega arith)) ∙ of_two parts.0.now parts.1.now
