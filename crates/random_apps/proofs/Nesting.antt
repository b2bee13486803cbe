-- A handler that is built op by op nests as a whole.
use Rattle.std.proofs.Common.{◌≡◌, true, List, [], ◌∷◌, ◌++◌, ◌+◌, length, refl, ap, sym, subst, ◌∙◌}
use Rattle.std.specs.Prelude.{nat_lt, not}
use Rattle.model.specs.declared.op.IsrOp.{IsrOp}
use Rattle.model.specs.declared.block.Block.{Block}
use Rattle.model.specs.declared.block.Edge.{Edge}
use Rattle.model.specs.Blocks.{edge_of_isr, isr_edges_of, blocks_past, may_stand, Nests, NestsSoFar, blocks_after}
use Rattle.model.proofs.Nesting.{nothing_open}

isr_edges-append : (ops : List IsrOp) (op : IsrOp) → isr_edges_of (ops ++ op ∷ []) ≡ isr_edges_of ops ++ edge_of_isr op ∷ []
isr_edges-append [] op = refl
isr_edges-append (o ∷ ops) op = ap (λ es. edge_of_isr o ∷ es) (isr_edges-append ops op)

blocks_behind : (bs : List Block) (es : List Edge) (e : Edge) → blocks_after bs (es ++ e ∷ []) ≡ blocks_past e (blocks_after bs es)
blocks_behind bs [] e = refl
blocks_behind bs (o ∷ es) e = blocks_behind (blocks_past o bs) es e

nests_on : (bs : List Block) (es : List Edge) (e : Edge) → NestsSoFar bs es
    → may_stand e (blocks_after bs es) ≡ true → NestsSoFar bs (es ++ e ∷ [])
nests_on bs [] e nests may = (may, tt)
nests_on bs (o ∷ es) e nests may = (nests.0, nests_on (blocks_past o bs) es e nests.1 may)

nests_whole : (bs : List Block) (es : List Edge) → NestsSoFar bs es → blocks_after bs es ≡ [] → Nests bs es
nests_whole bs [] nests closed = closed
nests_whole bs (o ∷ es) nests closed = (nests.0, nests_whole (blocks_past o bs) es nests.1 closed)

-- the blocks that are open after these ops, which nest so far
abbrev pub NestWith : List Block → List IsrOp → Type 0
NestWith bs ops = (bs ≡ blocks_after [] (isr_edges_of ops)) × NestsSoFar [] (isr_edges_of ops)

-- one more op, which is allowed there
pub nest_on : (bs : List Block) (ops : List IsrOp) (op : IsrOp) → NestWith bs ops → may_stand (edge_of_isr op) bs ≡ true
    → NestWith (blocks_past (edge_of_isr op) bs) (ops ++ op ∷ [])
nest_on bs ops op h may =
    let edges = isr_edges-append ops op in
    let stands : may_stand (edge_of_isr op) (blocks_after [] (isr_edges_of ops)) ≡ true =
    subst (λ b. may_stand (edge_of_isr op) b ≡ true) h.0 may in
    let behind : blocks_past (edge_of_isr op) bs ≡ blocks_after [] (isr_edges_of (ops ++ op ∷ [])) =
    ap (blocks_past (edge_of_isr op)) h.0 ∙ sym (blocks_behind [] (isr_edges_of ops) (edge_of_isr op))
    ∙ ap (blocks_after []) (sym edges) in
    (behind, subst (NestsSoFar []) (sym edges) (nests_on [] (isr_edges_of ops) (edge_of_isr op) h.1 stands))

-- no block is open
pub nest_whole : (bs : List Block) (ops : List IsrOp) → NestWith bs ops
    → true ≡ not (nat_lt 0 (length bs)) → Nests [] (isr_edges_of ops)
nest_whole bs ops h none = nests_whole [] (isr_edges_of ops) h.1 (sym h.0 ∙ nothing_open bs none)

-- ---- ops that share a property, and how many there are
