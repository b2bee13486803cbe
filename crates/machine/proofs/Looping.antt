-- The open loops, as the cells hold them.
use Rattle.std.proofs.Common.{◌≡◌, ◌≢◌, ◌<◌, ◌≤◌, ◌-◌, ℕ, zero, suc, leb, true, List, ◌∷◌, length, drop, get_or, set, refl, ap, sym}
use Rattle.std.proofs.Common.{subst, ◌∙◌, arith, get_or-set_same, get_or-set_other}
use Rattle.std.proofs.lemmas.Bool.Decides.{nat_tests}
use Rattle.std.specs.Prelude.{false, Option, Some, option_map, if◌then◌else◌}
use Rattle.model.specs.declared.loops.Loop.{Loop}
use Rattle.machine.specs.Loops.{no_loop, open_in, is_last, after_turn}

-- a cell above those of the open loops
open_in-set : (cells : List Loop) (n m : ℕ) (l : Loop) → n ≤ m → open_in (set cells m l) n ≡ open_in cells n
open_in-set cells zero m l le = refl
open_in-set cells (suc n) m l le =
    let ne : n ≢ m = omega arith in
    rw (get_or-set_other cells m n l no_loop ne) (ap (λ ls. get_or cells n no_loop ∷ ls) (open_in-set cells n m l (omega arith)))

leb-no : (a b : ℕ) → b < a → leb a b ≡ false
leb-no a b e = grind (arith, nat_tests)

-- the innermost loop is another
turned_in : (cells : List Loop) (m : ℕ) (l : Loop) → m < length cells → open_in (set cells m l) (suc m) ≡ l ∷ open_in cells m
turned_in cells m l less =
    ap (λ (x : Loop). x ∷ open_in (set cells m l) m) (get_or-set_same cells m l no_loop less)
    ∙ ap (λ (ls : List Loop). l ∷ ls) (open_in-set cells m m l (omega arith))

-- what a turn of the innermost loop makes of the loops, by how many it has left
by_left : Loop → List Loop → Option ℕ → List Loop
by_left l ls left = if is_last left then ls else record l { left = option_map (λ left. left - 1) left } ∷ ls

after_more : (l : Loop) (ls : List Loop) (left : ℕ) → l.left ≡ Some left
    → 1 < left → after_turn (l ∷ ls) ≡ record l { left = Some (left - 1) } ∷ ls
unfolding by_left
after_more l ls left e more =
    let last : leb left 1 ≡ false = leb-no left 1 more in
    let told : by_left l ls (Some left) ≡ record l { left = Some (left - 1) } ∷ ls = rw last refl in
    ap (by_left l ls) e ∙ told

-- the innermost loop has one turn less
pub one_turn_less : (cells : List Loop) (n left : ℕ) (old : List Loop) → open_in cells n ≡ old → (n ≡ 0 → ⊥) → n ≤ length cells
    → (get_or cells (n - 1) no_loop).left ≡ Some left → 1 < left
    → open_in (set cells (n - 1) (record (get_or cells (n - 1) no_loop) { left = Some (left - 1) })) n ≡ after_turn old
one_turn_less cells zero left old is some fits here more = absurd (some refl)
one_turn_less cells (suc m) left old is some fits here more =
    let e : suc m - 1 ≡ m = omega arith in
    let L : ℕ → Loop = λ k. get_or cells k no_loop in
    let P : ℕ → Type 0 = λ k. open_in (set cells k (record (L k) { left = Some (left - 1) })) (suc m) ≡ after_turn old in
    let Q : ℕ → Type 0 = λ k. (L k).left ≡ Some left in
    subst P (sym e)
    (turned_in cells m (record (L m) { left = Some (left - 1) }) (omega arith)
    ∙ sym (after_more (L m) (open_in cells m) left (subst Q e here) more)
    ∙ ap after_turn is)

-- without the innermost loop, whose cell is cleared
cleared : (cells : List Loop) (m n : ℕ) → n ≡ m → open_in (set cells n no_loop) n ≡ open_in cells m
cleared cells m n e = open_in-set cells n n no_loop (omega arith) ∙ ap (open_in cells) e

pub without_innermost : (cells : List Loop) (n : ℕ) (old : List Loop) → open_in cells n ≡ old
    → 0 < n → open_in (set cells (n - 1) no_loop) (n - 1) ≡ drop 1 old
without_innermost cells zero old is some = absurd (omega (arith, some))
without_innermost cells (suc m) old is some = cleared cells m (suc m - 1) (omega arith) ∙ ap (drop 1) is

leb-yes : (a b : ℕ) → a ≤ b → leb a b ≡ true
leb-yes a b e = grind (arith, nat_tests)

after_last : (l : Loop) (ls : List Loop) (left : ℕ) → l.left ≡ Some left → left ≤ 1 → after_turn (l ∷ ls) ≡ ls
unfolding by_left
after_last l ls left e less =
    let last : leb left 1 ≡ true = leb-yes left 1 less in
    let told : by_left l ls (Some left) ≡ ls = rw last refl in
    ap (by_left l ls) e ∙ told

-- the innermost loop's last turn is over
pub last_turn : (cells : List Loop) (n left : ℕ) (old : List Loop) → open_in cells n ≡ old → (n ≡ 0 → ⊥)
    → (get_or cells (n - 1) no_loop).left ≡ Some left → left ≤ 1 → drop 1 old ≡ after_turn old
last_turn cells zero left old is some here less = absurd (some refl)
last_turn cells (suc m) left old is some here less =
    let e : suc m - 1 ≡ m = omega arith in
    let L : ℕ → Loop = λ k. get_or cells k no_loop in
    let Q : ℕ → Type 0 = λ k. (L k).left ≡ Some left in
    ap (drop 1) (sym is) ∙ sym (after_last (L m) (open_in cells m) left (subst Q e here) less) ∙ ap after_turn is
