-- Where a jump in a script goes, as many loops are open as the op that jumps says.
use Rattle.std.proofs.Common.{◌≡◌, ◌<◌, ◌+◌, ◌-◌, ℕ, suc, eqb, true, false, List, [], ◌∷◌, ◌++◌, drop, Some, refl, ap, subst, ◌∙◌}
use Rattle.std.proofs.Common.{arith, add-one, ltb}
use Rattle.std.proofs.Math.Seq.{drop-drop}
use Rattle.std.specs.Prelude.{if◌then◌else◌}
use Rattle.std.specs.List.{slice_get}
use Rattle.std.proofs.lemmas.Bool.{ltb-true}
use Rattle.model.specs.declared.block.Block.{Block}
use Rattle.model.specs.declared.block.Block.TheVariants.{Loop, If, Else}
use Rattle.model.specs.declared.block.Edge.{Edge}
use Rattle.model.specs.declared.block.Edge.TheVariants.{OpensLoop, EndsLoop, OpensIf, OpensElse, EndsIf, Breaks, Inside}
use Rattle.model.specs.declared.op.Op.{Op}
use Rattle.model.specs.Blocks.{edge_of, edges_of, is_loop, is_if, is_innermost, loops_in, blocks_past, may_stand, Nests}
use Rattle.model.specs.Blocks.{past_branch, past_loop, jumped_over, jump_from}
use Rattle.model.specs.Invariant.{AreOpen, AreOpenAt}
use Rattle.model.proofs.Sorting.{by_test}
use Rattle.model.proofs.Lists.{eqb-same}
use Rattle.soundness.proofs.InScripts.{Stands, edges_at, stands_at}

-- how many of these blocks are branches
abbrev pub branches_in : List Block → ℕ
branches_in [] = 0
branches_in (Loop ∷ bs) = branches_in bs
branches_in (If ∷ bs) = suc (branches_in bs)
branches_in (Else ∷ bs) = suc (branches_in bs)

-- an `end` or an `else` inside is not that of the branch
not_last : {X : Type 0} (n : ℕ) (x y : X) → (if eqb (suc n) 0 then x else y) ≡ y
not_last n x y = by_test (eqb (suc n) 0)
    (λ t. let same : suc n ≡ 0 = eqb-same (suc n) 0 t in absurd (omega arith))
    (λ f. rw f refl)

-- behind one more op
behind : {loops : ℕ} (n : ℕ) (e : Edge) (es : List Edge) → AreOpen loops (drop n es) → AreOpen loops (drop (n + 1) (e ∷ es))
behind n e es h = rw add-one h

behind_inner : {loops : ℕ} (n x : ℕ) (e : Edge) (es : List Edge) → AreOpen loops (drop n es)
    → AreOpen loops (drop (if eqb (suc x) 0 then 1 else n + 1) (e ∷ es))
behind_inner n x e es h = rw (not_last x 1 (n + 1)) (behind n e es h)

behind_end : {loops : ℕ} (past : ℕ → ℕ) (x : ℕ) (e : Edge) (es : List Edge) → AreOpen loops (drop (past x) es)
    → AreOpen loops (drop (if eqb (suc x) 0 then 1 else past (suc x - 1) + 1) (e ∷ es))
behind_end past x e es h =
    let less : suc x - 1 ≡ x = omega arith in
    rw (not_last x 1 (past (suc x - 1) + 1), less) (behind (past x) e es h)

-- Behind the branch there are as many loops open as around it.
pub past_a_branch : (inner : List Block) (b : Block) (bs : List Block) (es : List Edge)
    → is_loop b ≡ false → Nests (inner ++ b ∷ bs) es
    → AreOpen (loops_in bs) (drop (past_branch (branches_in inner) es) es)
past_a_branch [] b bs [] is n = absurd (cc)
past_a_branch (x ∷ inner) b bs [] is n = absurd (cc)
past_a_branch inner b bs (OpensLoop ∷ es) is n = behind _ OpensLoop es (past_a_branch (Loop ∷ inner) b bs es is n.1)
past_a_branch [] b bs (EndsLoop ∷ es) is n = absurd (cc)
past_a_branch (Loop ∷ inner) b bs (EndsLoop ∷ es) is n = behind _ EndsLoop es (past_a_branch inner b bs es is n.1)
past_a_branch (If ∷ inner) b bs (EndsLoop ∷ es) is n = absurd (cc)
past_a_branch (Else ∷ inner) b bs (EndsLoop ∷ es) is n = absurd (cc)
past_a_branch inner b bs (OpensIf ∷ es) is n =
    let h : AreOpen (loops_in bs) (drop (past_branch (suc (branches_in inner)) es) es) =
    past_a_branch (If ∷ inner) b bs es is n.1 in
    let same : suc (branches_in inner) ≡ branches_in inner + 1 = omega arith in
    behind _ OpensIf es (subst (λ k. AreOpen (loops_in bs) (drop (past_branch k es) es)) same h)
past_a_branch [] b bs (OpensElse ∷ es) is n = record { blocks = Else ∷ bs; count = refl; nests = n.1 }
past_a_branch (Loop ∷ inner) b bs (OpensElse ∷ es) is n = absurd (cc)
past_a_branch (If ∷ inner) b bs (OpensElse ∷ es) is n =
    behind_inner _ (branches_in inner) OpensElse es (past_a_branch (Else ∷ inner) b bs es is n.1)
past_a_branch (Else ∷ inner) b bs (OpensElse ∷ es) is n = absurd (cc)
past_a_branch [] b bs (EndsIf ∷ es) is n = record { blocks = bs; count = refl; nests = n.1 }
past_a_branch (Loop ∷ inner) b bs (EndsIf ∷ es) is n = absurd (cc)
past_a_branch (If ∷ inner) b bs (EndsIf ∷ es) is n =
    behind_end (λ k. past_branch k es) (branches_in inner) EndsIf es (past_a_branch inner b bs es is n.1)
past_a_branch (Else ∷ inner) b bs (EndsIf ∷ es) is n =
    behind_end (λ k. past_branch k es) (branches_in inner) EndsIf es (past_a_branch inner b bs es is n.1)
past_a_branch inner b bs (Breaks ∷ es) is n = behind _ Breaks es (past_a_branch inner b bs es is n.1)
past_a_branch inner b bs (Inside ∷ es) is n = behind _ Inside es (past_a_branch inner b bs es is n.1)

-- Behind the loop there is one loop less open.
pub past_a_loop : (inner : List Block) (bs : List Block) (es : List Edge) → Nests (inner ++ Loop ∷ bs) es
    → AreOpen (loops_in bs) (drop (past_loop (loops_in inner) es) es)
past_a_loop [] bs [] n = absurd (cc)
past_a_loop (x ∷ inner) bs [] n = absurd (cc)
past_a_loop inner bs (OpensLoop ∷ es) n =
    let h : AreOpen (loops_in bs) (drop (past_loop (suc (loops_in inner)) es) es) = past_a_loop (Loop ∷ inner) bs es n.1 in
    let same : suc (loops_in inner) ≡ loops_in inner + 1 = omega arith in
    behind _ OpensLoop es (subst (λ k. AreOpen (loops_in bs) (drop (past_loop k es) es)) same h)
past_a_loop [] bs (EndsLoop ∷ es) n = record { blocks = bs; count = refl; nests = n.1 }
past_a_loop (Loop ∷ inner) bs (EndsLoop ∷ es) n =
    behind_end (λ k. past_loop k es) (loops_in inner) EndsLoop es (past_a_loop inner bs es n.1)
past_a_loop (If ∷ inner) bs (EndsLoop ∷ es) n = absurd (cc)
past_a_loop (Else ∷ inner) bs (EndsLoop ∷ es) n = absurd (cc)
past_a_loop inner bs (OpensIf ∷ es) n = behind _ OpensIf es (past_a_loop (If ∷ inner) bs es n.1)
past_a_loop [] bs (OpensElse ∷ es) n = absurd (cc)
past_a_loop (Loop ∷ inner) bs (OpensElse ∷ es) n = absurd (cc)
past_a_loop (If ∷ inner) bs (OpensElse ∷ es) n = behind _ OpensElse es (past_a_loop (Else ∷ inner) bs es n.1)
past_a_loop (Else ∷ inner) bs (OpensElse ∷ es) n = absurd (cc)
past_a_loop [] bs (EndsIf ∷ es) n = absurd (cc)
past_a_loop (Loop ∷ inner) bs (EndsIf ∷ es) n = absurd (cc)
past_a_loop (If ∷ inner) bs (EndsIf ∷ es) n = behind _ EndsIf es (past_a_loop inner bs es n.1)
past_a_loop (Else ∷ inner) bs (EndsIf ∷ es) n = behind _ EndsIf es (past_a_loop inner bs es n.1)
past_a_loop inner bs (Breaks ∷ es) n = behind _ Breaks es (past_a_loop inner bs es n.1)
past_a_loop inner bs (Inside ∷ es) n = behind _ Inside es (past_a_loop inner bs es n.1)

-- the innermost loop of some blocks: what is inside it, and what is around it
record Innermost (blocks : List Block) : Type 0 where
  inner : List Block
  outer : List Block
  parts : blocks ≡ inner ++ Loop ∷ outer
  none : loops_in inner ≡ 0
  count : loops_in blocks ≡ suc (loops_in outer)

innermost : (bs : List Block) → 0 < loops_in bs → Innermost bs
innermost [] l = absurd (omega arith)
innermost (Loop ∷ bs) l = record { inner = []; outer = bs; parts = refl; none = refl; count = refl }
innermost (If ∷ bs) l =
    let h = innermost bs l in
    record { inner = If ∷ h.inner; outer = h.outer; parts = ap (λ xs. If ∷ xs) h.parts; none = h.none; count = h.count }
innermost (Else ∷ bs) l =
    let h = innermost bs l in
    record { inner = Else ∷ h.inner; outer = h.outer; parts = ap (λ xs. Else ∷ xs) h.parts; none = h.none; count = h.count }

-- ---- the jumps of a script

if_first : (bs : List Block) → is_innermost is_if bs ≡ true → loops_in (drop 1 bs) ≡ loops_in bs
if_first [] m = absurd (cc)
if_first (Loop ∷ bs) m = absurd (cc)
if_first (If ∷ bs) m = refl
if_first (Else ∷ bs) m = absurd (cc)

module _ (loops i : ℕ) (ops : List Op) (op : Op) (h : AreOpenAt ops i loops) (is : slice_get ops i ≡ Some op) where
  abbrev pub rest : List Edge
  rest = drop (i + 1) (edges_of ops)

  -- the jump of an op with this edge
  jump_is : (e : Edge) → edge_of op ≡ e → jump_from ops i ≡ i + 1 + jumped_over (e ∷ rest)
  jump_is e same =
      let next : drop (suc i) (edges_of ops) ≡ rest = rw add-one refl in
      ap (λ es. i + 1 + jumped_over es) (edges_at i ops op is)
      ∙ ap (λ es. i + 1 + jumped_over (edge_of op ∷ es)) next
      ∙ ap (λ x. i + 1 + jumped_over (x ∷ rest)) same

  -- This many are open behind this many more ops.
  lands : (k n : ℕ) → jump_from ops i ≡ i + 1 + n → AreOpen k (drop n rest) → AreOpenAt ops (jump_from ops i) k
  lands k n at l =
      let there : drop n rest ≡ drop (i + 1 + n) (edges_of ops) = drop-drop n (i + 1) (edges_of ops) in
      rw at (subst (AreOpen k) there l)

  stands : Stands loops (edge_of op) rest
  stands = stands_at loops i ops op h is

  pub after_if : edge_of op ≡ OpensIf → AreOpenAt ops (jump_from ops i) loops
  after_if e =
      let n : Nests (If ∷ stands.blocks) rest = subst (λ x. Nests (blocks_past x stands.blocks) rest) e stands.nests in
      let l = past_a_branch [] If stands.blocks rest refl n in
      lands loops (past_branch 0 rest) (jump_is OpensIf e)
      (record { blocks = l.blocks; count = l.count ∙ stands.count; nests = l.nests })

  pub after_else : edge_of op ≡ OpensElse → AreOpenAt ops (jump_from ops i) loops
  after_else e =
      let n : Nests (Else ∷ drop 1 stands.blocks) rest = subst (λ x. Nests (blocks_past x stands.blocks) rest) e stands.nests in
      let may : is_innermost is_if stands.blocks ≡ true = subst (λ x. may_stand x stands.blocks ≡ true) e stands.may in
      let l = past_a_branch [] Else (drop 1 stands.blocks) rest refl n in
      lands loops (past_branch 0 rest) (jump_is OpensElse e)
      (record { blocks = l.blocks; count = l.count ∙ if_first stands.blocks may ∙ stands.count; nests = l.nests })

  pub after_break : edge_of op ≡ Breaks → (0 < loops) × AreOpenAt ops (jump_from ops i) (loops - 1)
  after_break e =
      let n : Nests stands.blocks rest = subst (λ x. Nests (blocks_past x stands.blocks) rest) e stands.nests in
      let may : ltb 0 (loops_in stands.blocks) ≡ true = subst (λ x. may_stand x stands.blocks ≡ true) e stands.may in
      let some : 0 < loops_in stands.blocks = ltb-true 0 (loops_in stands.blocks) may in
      let split = innermost stands.blocks some in
      let l = past_a_loop split.inner split.outer rest (subst (λ bs. Nests bs rest) split.parts n) in
      let none : loops_in split.inner ≡ 0 = split.none in
      let from : AreOpen (loops_in split.outer) (drop (past_loop 0 rest) rest) =
      subst (λ k. AreOpen (loops_in split.outer) (drop (past_loop k rest) rest)) none l in
      let count = stands.count in
      let whole = split.count in
      let less : loops_in split.outer ≡ loops - 1 = omega arith in (
        omega arith,
        lands (loops - 1) (past_loop 0 rest) (jump_is Breaks e) (subst (λ k. AreOpen k (drop (past_loop 0 rest) rest)) less from),
      )
