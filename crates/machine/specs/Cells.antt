-- The cells of open loops are known by the loops.
use Rattle.std.proofs.Common.{◌≡◌, ℕ, zero, suc, ◌<◌, ◌≤◌, inl, inr, List, [], ◌∷◌, length, get_or, set, refl, ap, sym}
use Rattle.std.proofs.Common.{◌∙◌, arith, get_or-set_same, get_or-set_other}
use Rattle.std.proofs.lemmas.Bool.{cases_eq, cases_lt}
use Rattle.std.proofs.lemmas.List.{ext_get_or, get_or-replicate, length-set}
use Rattle.model.specs.declared.loops.Loop.{Loop}
use Rattle.machine.specs.Loops.{no_loop, cells_of, open_in, AreCells}

length_open : (cells : List Loop) (n : ℕ) → length (open_in cells n) ≡ n
length_open cells zero = refl
length_open cells (suc n) = ap suc (length_open cells n)

length_cells : (ls : List Loop) → length (cells_of ls) ≡ 4
length_cells [] = refl
length_cells (l ∷ ls) = length-set _ _ _ ∙ length_cells ls

-- a cell of an open loop
below : (cells : List Loop) (n level : ℕ) → n ≤ 4 → level < n
    → get_or (cells_of (open_in cells n)) level no_loop ≡ get_or cells level no_loop
below cells zero level few less = absurd (omega (arith, less))
below cells (suc n) level few less =
    let rest = cells_of (open_in cells n) in
    let at = ap (λ (k : ℕ). get_or (set rest k (get_or cells n no_loop)) level no_loop) (length_open cells n) in
    elim (cases_eq level n) [
      | inl same ↦
          let long = length_cells (open_in cells n) in
          at
          ∙ ap (λ (k : ℕ). get_or (set rest n (get_or cells n no_loop)) k no_loop) same
          ∙ get_or-set_same rest n (get_or cells n no_loop) no_loop (omega (arith, few, long))
          ∙ ap (λ (k : ℕ). get_or cells k no_loop) (sym same)
      | inr other ↦
          at ∙ get_or-set_other rest n level (get_or cells n no_loop) no_loop other
          ∙ below cells n level (omega (arith, few)) (omega (arith, less, other))
    ]

-- a cell of none
above : (cells : List Loop) (n level : ℕ) → n ≤ level → level < 4 → get_or (cells_of (open_in cells n)) level no_loop ≡ no_loop
above cells zero level more known = get_or-replicate 4 level no_loop no_loop known
above cells (suc n) level more known =
    let rest = cells_of (open_in cells n) in
    ap (λ (k : ℕ). get_or (set rest k (get_or cells n no_loop)) level no_loop) (length_open cells n)
    ∙ get_or-set_other rest n level (get_or cells n no_loop) no_loop (omega (arith, more))
    ∙ above cells n level (omega (arith, more)) known

pub same_loops : (cells : List Loop) (n : ℕ) → AreCells cells n
    → (cells_of (open_in cells n) ≡ cells) × (length (open_in cells n) ≡ n)
same_loops cells n h = (
  ext_get_or no_loop (cells_of (open_in cells n)) cells (length_cells (open_in cells n) ∙ sym h.full) (λ level known.
      let long = length_cells (open_in cells n) in
      elim (cases_lt level n) [
        | inl less ↦ below cells n level h.few less
        | inr more ↦ above cells n level more (omega (arith, known, long)) ∙ sym (h.blank level more)
      ]),
  length_open cells n,
)
