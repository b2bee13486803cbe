-- The digits of a number, by all but the last.
use Rattle.std.proofs.Common.{◌≡◌, ℕ, ◌+◌, ◌-◌, ◌*◌, ◌/◌, ◌%◌, ◌^◌, ◌<◌, ◌≤◌, List, [], ◌∷◌, ◌++◌, length, take, drop, get_or, inl}
use Rattle.std.proofs.Common.{inr, arith, eq-zero-or-pos, refl, sym, ap, ◌∙◌, take-append-drop, append_assoc, length-append}
use Rattle.std.proofs.Math.ListN.{set}
use Rattle.std.proofs.Math.Seq.{get_or-append_seam, set-append_seam, take-append-add}
use Rattle.std.proofs.lemmas.Bool.{cases_lt}
use Rattle.std.proofs.lemmas.List.{length-take}
use Rattle.std.proofs.lemmas.Fmt.{decimal_digit, decimal_step}
use Rattle.std.specs.Fmt.{decimal}
use Rattle.report.specs.Tens.{AreTens}

-- The digits of the tens, and the last digit, are those of the number.
pub decimal_of_tens : (number first len : ℕ) (text : List ℕ) → number < 2 ^ 32 → first ≡ 10 * (number / 10) → AreTens first len text
    → take len text ++ (48 + (number - first)) ∷ [] ≡ decimal number
decimal_of_tens number first len text fits is tens =
    elim (eq-zero-or-pos first) [
      | inl z ↦
          let last : number - first ≡ number = omega (arith, z) in
          rw (tens.none z, last, decimal_digit number (omega (arith, is, z))) refl
      | inr p ↦
          let last : number - first ≡ number % 10 = omega (arith, is) in
          let ten : first / 10 ≡ number / 10 = omega (arith, is) in
          rw (tens.some p, last, ten, decimal_step number (omega (arith, is, p)) (omega (arith, fits))) refl
    ]

-- the digits of a number and of the next one, which differ in the last digit where it is no 9
record Next (number : ℕ) : Type 0 where
  front : List ℕ
  here : decimal number ≡ front ++ (48 + number % 10) ∷ []
  next : number % 10 < 9 → decimal (number + 1) ≡ front ++ (48 + number % 10 + 1) ∷ []

next_of : (number : ℕ) → number + 1 < 2 ^ 64 → Next number
next_of number fits =
    elim (cases_lt number 10) [
      | inl small ↦
          let last : number % 10 ≡ number = omega (arith, small) in
          record {
            front = [];
            here = rw last (decimal_digit number small);
            next = λ h.
                let more : number + 1 < 10 = omega (arith, h, last) in
                rw (last, decimal_digit (number + 1) more) (ap (λ d. d ∷ []) (omega arith));
          }
      | inr large ↦
          record {
            front = decimal (number / 10);
            here = decimal_step number large (omega (arith, fits));
            next = λ h.
                let tens : (number + 1) / 10 ≡ number / 10 = omega (arith, h) in
                let last : 48 + (number + 1) % 10 ≡ 48 + number % 10 + 1 = omega (arith, h) in
                decimal_step (number + 1) (omega (arith, large)) fits ∙ rw (tens, last) refl;
          }
    ]

-- One digit is changed where nothing is carried.
pub next_ten : (tens len : ℕ) (text : List ℕ) → tens + 1 < 2 ^ 64 → 0 < len
    → len ≤ length text → take len text ≡ decimal tens → get_or text (len - 1) 0 < 57
    → take len (set text (len - 1) (get_or text (len - 1) 0 + 1)) ≡ decimal (tens + 1)
next_ten tens len text fits some within is low =
    let n = next_of tens fits in
    let whole : text ≡ n.front ++ (48 + tens % 10) ∷ drop len text =
    sym (take-append-drop len text) ∙ ap (λ t. t ++ drop len text) (is ∙ n.here)
    ∙ append_assoc n.front ((48 + tens % 10) ∷ []) (drop len text) in
    let size : len ≡ length n.front + 1 =
    omega (arith, within, length-take len text, ap length (is ∙ n.here), length-append n.front ((48 + tens % 10) ∷ [])) in
    let at : len - 1 ≡ length n.front = omega (arith, size) in
    let digit : get_or text (len - 1) 0 ≡ 48 + tens % 10 =
    rw (at, whole) (get_or-append_seam n.front (48 + tens % 10) (drop len text) 0) in
    let small : tens % 10 < 9 = omega (arith, digit, low) in
    rw (digit, at, n.next small, size, whole, set-append_seam n.front (48 + tens % 10) (drop len text) (48 + tens % 10 + 1))
    (take-append-add n.front ((48 + tens % 10 + 1) ∷ drop len text) 1)

-- The tens go on by one.
pub counted_up : (first len : ℕ) (text : List ℕ) → first + 10 < 2 ^ 32 → 0 < len
    → length text ≡ 16 → get_or text (len - 1) 0 < 57 → AreTens first len text
    → AreTens (first + 10) len (set text (len - 1) (get_or text (len - 1) 0 + 1))
counted_up first len text fits some size low tens =
    let within : len ≤ length text = omega (arith, size, tens.few) in
    let more : 0 < first =
    elim (eq-zero-or-pos first) [
      | inl z ↦ absurd (omega (arith, length-take len text, ap length (tens.none z), some, within))
      | inr p ↦ p
    ] in
    let next : (first + 10) / 10 ≡ first / 10 + 1 = omega arith in
    record {
      none = λ z. absurd (omega (arith, z));
      some = λ _. next_ten (first / 10) len text (omega (arith, fits)) some within (tens.some more) low ∙ ap decimal (sym next);
      few = tens.few;
      ends = omega (arith, tens.ends, next);
      fits = fits;
    }
