-- Scripts that are built op by op nest as a whole.
use Rattle.std.proofs.Common.{◌≡◌, ◌<◌, ◌≤◌, ℕ, Bool, true, false, List, [], ◌∷◌, ◌++◌, ◌+◌, zero, suc, drop, length}
use Rattle.std.proofs.Common.{slice_index_or, refl, ap, sym, ◌∙◌, arith, length-append}
use Rattle.std.specs.Prelude.{◌&&◌, nat_le, nat_lt, not, if◌then◌else◌}
use Rattle.std.specs.List.{AllByRecursion}
use Rattle.std.proofs.lemmas.Bool.{and_parts, leb-true, lt-ltb}
use Rattle.std.proofs.lemmas.List.{drop_all}
use Rattle.model.specs.declared.op.Op.{Op}
use Rattle.model.specs.declared.op.Op.TheVariants.{Work, EndIf}
use Rattle.model.specs.declared.block.Block.{Block}
use Rattle.model.specs.declared.block.Edge.{Edge}
use Rattle.model.specs.Blocks.{edge_of, edges_of, ends_loop, ending, is_innermost, is_loop, blocks_past, may_stand, Nests}
use Rattle.model.specs.Blocks.{NestsSoFar, blocks_after, open_behind, jump_from, jumped_over, jumps_from}
use Rattle.model.specs.Scripts.{InRange, IsScript, IsPrefix}

-- a `work` takes a tick at least
pub least_work : (n : ℕ) → InRange (Work n) → 1 ≤ n
least_work n range = leb-true 1 n (and_parts (nat_le 1 n) (nat_le n 1000000) range).0

pub edges-append : (ops : List Op) (op : Op) → edges_of (ops ++ op ∷ []) ≡ edges_of ops ++ edge_of op ∷ []
edges-append [] op = refl
edges-append (o ∷ ops) op = ap (λ es. edge_of o ∷ es) (edges-append ops op)

blocks_after-append : (bs : List Block) (es : List Edge) (e : Edge)
    → blocks_after bs (es ++ e ∷ []) ≡ blocks_past e (blocks_after bs es)
blocks_after-append bs [] e = refl
blocks_after-append bs (o ∷ es) e = blocks_after-append (blocks_past o bs) es e

-- the blocks that are open after one more op
pub open_behind-append : (ops : List Op) (op : Op) → open_behind (ops ++ op ∷ []) ≡ blocks_past (edge_of op) (open_behind ops)
open_behind-append ops op = ap (blocks_after []) (edges-append ops op) ∙ blocks_after-append [] (edges_of ops) (edge_of op)

nests-append : (bs : List Block) (es : List Edge) (e : Edge)
    → NestsSoFar bs es → may_stand e (blocks_after bs es) ≡ true → NestsSoFar bs (es ++ e ∷ [])
nests-append bs [] e nests may = (may, tt)
nests-append bs (o ∷ es) e nests may = (nests.0, nests-append (blocks_past o bs) es e nests.1 may)

nests-closed : (bs : List Block) (es : List Edge) → NestsSoFar bs es → blocks_after bs es ≡ [] → Nests bs es
nests-closed bs [] nests closed = closed
nests-closed bs (o ∷ es) nests closed = (nests.0, nests-closed (blocks_past o bs) es nests.1 closed)

-- one more, for which it is true
pub all-append : {X : Type 0} (P : X → Type 0) (xs : List X) (x : X) → AllByRecursion P xs → P x → AllByRecursion P (xs ++ x ∷ [])
all-append P [] x all one = (one, tt)
all-append P (y ∷ ys) x all one = (all.0, all-append P ys x all.1 one)

-- one more op
prefix-append : (ops : List Op) (op : Op) → IsPrefix ops → InRange op → length ops < 256
    → may_stand (edge_of op) (open_behind ops) ≡ true → IsPrefix (ops ++ op ∷ [])
prefix-append ops op p range room may = record {
  ranges = all-append InRange ops op p.ranges range;
  nests = rw (edges-append ops op) (nests-append [] (edges_of ops) (edge_of op) p.nests may);
  few = omega (arith, length-append ops (op ∷ []));
}

-- every block is closed
pub script-closed : (ops : List Op) → IsPrefix ops → open_behind ops ≡ [] → IsScript ops
script-closed ops p closed = record { ranges = p.ranges; nests = nests-closed [] (edges_of ops) p.nests closed; few = p.few }

-- which blocks are open, and the beginning, after one more op
pub pushed : (bs : List Block) (ops : List Op) (op : Op) → (bs ≡ open_behind ops) × IsPrefix ops → InRange op
    → length ops < 256 → may_stand (edge_of op) bs ≡ true
    → (blocks_past (edge_of op) bs ≡ open_behind (ops ++ op ∷ [])) × IsPrefix (ops ++ op ∷ [])
pushed bs ops op p range room may =
    let stands : may_stand (edge_of op) (open_behind ops) ≡ true = rw (← p.0) may in
    let same : blocks_past (edge_of op) bs ≡ open_behind (ops ++ op ∷ []) = rw (open_behind-append ops op, p.0) refl in
    (same, prefix-append ops op p.1 range room stands)

-- its numbers stay in their ranges
pub ending_in_range : (bs : List Block) (op : Op) → InRange op → InRange (ending bs op)
ending_in_range bs op range = by_end (ends_loop (edge_of op) && is_innermost (λ b. not (is_loop b)) bs) where
  by_end : (is : Bool) → InRange (if is then EndIf else op)
  by_end true = refl
  by_end false = range

-- ---- the op that an op jumps to

-- the entry of an op of this index among those from another one on
jump_at : (i k d : ℕ) (es : List Edge) → k < length es → slice_index_or (jumps_from i es) k d ≡ i + k + 1 + jumped_over (drop k es)
jump_at i k d [] l = absurd (omega arith)
jump_at i zero d (e ∷ es) l = ap (λ n. n + 1 + jumped_over (e ∷ es)) (omega arith)
jump_at i (suc k) d (e ∷ es) l =
    let shift : i + 1 + k ≡ i + suc k = omega arith in
    jump_at (i + 1) k d es (omega arith) ∙ ap (λ n. n + 1 + jumped_over (drop k es)) shift

jumps-length : (i : ℕ) (es : List Edge) → length (jumps_from i es) ≡ length es
jumps-length i [] = refl
jumps-length i (e ∷ es) = ap suc (jumps-length (i + 1) es)

-- The table of jumps has the entry of each op,
pub jump_told : (ops : List Op) (jumps : List ℕ) (i d : ℕ) → jumps ≡ jumps_from 0 (edges_of ops) → i < length jumps
    → slice_index_or jumps i d ≡ jump_from ops i
jump_told ops jumps i d is l =
    let same : 0 + i ≡ i = omega arith in
    let many : length jumps ≡ length (edges_of ops) = ap length is ∙ jumps-length 0 (edges_of ops) in
    ap (λ js. slice_index_or js i d) is
    ∙ jump_at 0 i d (edges_of ops) (omega arith)
    ∙ ap (λ n. n + 1 + jumped_over (drop i (edges_of ops))) same

-- and no other.
pub none_jumps : (ops : List Op) (jumps : List ℕ) (i : ℕ)
    → jumps ≡ jumps_from 0 (edges_of ops) → length jumps ≤ i → i + 1 ≡ jump_from ops i
none_jumps ops jumps i is l =
    let many : length jumps ≡ length (edges_of ops) = ap length is ∙ jumps-length 0 (edges_of ops) in
    let none : drop i (edges_of ops) ≡ [] = drop_all i (edges_of ops) (omega arith) in
    let same : i + 1 ≡ i + 1 + 0 = omega arith in
    same ∙ ap (λ es. i + 1 + jumped_over es) (sym none)

pub nothing_open : (blocks : List Block) → true ≡ not (nat_lt 0 (length blocks)) → blocks ≡ []
nothing_open [] e = refl
nothing_open (b ∷ blocks) e =
    let some : nat_lt 0 (length (b ∷ blocks)) ≡ true = lt-ltb 0 (length (b ∷ blocks)) (omega arith) in
    let none : true ≡ false = e ∙ ap not some in absurd (cc)
