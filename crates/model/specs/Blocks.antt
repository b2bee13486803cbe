-- The blocks of a script, loops and branches: which op opens and ends which, and the op that an op jumps to
-- (profile).
use Rattle.std.specs.Prelude.{◌≡◌, ℕ, ◌+◌, ◌-◌, ◌==◌, ◌&&◌, Bool, true, false, not, nat_lt, List, [], ◌∷◌, length, map, filter}
use Rattle.std.specs.Prelude.{drop, if◌then◌else◌}
use Rattle.model.specs.declared.block.Block.{Block}
use Rattle.model.specs.declared.block.Block.TheVariants as block
use Rattle.model.specs.declared.block.Edge.{Edge}
use Rattle.model.specs.declared.block.Edge.TheVariants.{OpensLoop, EndsLoop, OpensIf, OpensElse, EndsIf, Breaks, Inside}
use Rattle.model.specs.declared.op.Op.{Op}
use Rattle.model.specs.declared.op.Op.TheVariants.{Repeat, End, If, Else, EndIf, Break}
use Rattle.model.specs.declared.op.IsrOp.{IsrOp}
use Rattle.model.specs.declared.op.IsrOp.TheVariants as isr

-- of loops that are open at once
abbrev pub most_loops : ℕ
most_loops = 4

-- of blocks that are open at once, of all kinds together
abbrev pub most_blocks : ℕ
most_blocks = 8

-- ---- what opens and ends a block

-- what an op is to the blocks of its script
abbrev pub edge_of : Op → Edge
edge_of (Repeat turns) = OpensLoop
edge_of End = EndsLoop
edge_of (If condition) = OpensIf
edge_of Else = OpensElse
edge_of EndIf = EndsIf
edge_of Break = Breaks
edge_of _ = Inside

-- the same of an op of a handler, which has no loops
abbrev pub edge_of_isr : IsrOp → Edge
edge_of_isr (isr.If condition) = OpensIf
edge_of_isr isr.Else = OpensElse
edge_of_isr isr.EndIf = EndsIf
edge_of_isr _ = Inside

-- what the ops of a handler are to its blocks
abbrev pub isr_edges_of : List IsrOp → List Edge
isr_edges_of ops = map edge_of_isr ops

-- what the ops of a script are to its blocks
abbrev pub edges_of : List Op → List Edge
edges_of ops = map edge_of ops

abbrev pub is_loop : Block → Bool
is_loop block.Loop = true
is_loop _ = false

abbrev pub is_if : Block → Bool
is_if block.If = true
is_if _ = false

-- how many of these blocks are loops
abbrev pub loops_in : List Block → ℕ
loops_in blocks = length (filter is_loop blocks)

-- The innermost of these blocks, which is the first, is such a one.
abbrev pub is_innermost : (Block → Bool) → List Block → Bool
is_innermost is [] = false
is_innermost is (b ∷ blocks) = is b

-- the blocks that are open after an op, if these are open before it
abbrev pub blocks_past : Edge → List Block → List Block
blocks_past OpensLoop blocks = block.Loop ∷ blocks
blocks_past EndsLoop blocks = drop 1 blocks
blocks_past OpensIf blocks = block.If ∷ blocks
blocks_past OpensElse blocks = block.Else ∷ drop 1 blocks
blocks_past EndsIf blocks = drop 1 blocks
blocks_past Breaks blocks = blocks
blocks_past Inside blocks = blocks

-- An op is allowed while these blocks are open. No block may be opened past the most. The end of a loop has to be in a loop,
-- that of an `if` in an `if`, an `else` in the first branch of an `if`, and a `break` somewhere inside a loop.
abbrev pub may_stand : Edge → List Block → Bool
may_stand OpensLoop blocks = nat_lt (loops_in blocks) most_loops && nat_lt (length blocks) most_blocks
may_stand EndsLoop blocks = is_innermost is_loop blocks
may_stand OpensIf blocks = nat_lt (length blocks) most_blocks
may_stand OpensElse blocks = is_innermost is_if blocks
may_stand EndsIf blocks = is_innermost (λ b. not (is_loop b)) blocks
may_stand Breaks blocks = nat_lt 0 (loops_in blocks)
may_stand Inside blocks = true

-- Ops that begin while these blocks are open: each is allowed at its place, and at the end every block is
-- closed.
abbrev pub Nests : List Block → List Edge → Type 0
Nests blocks [] = blocks ≡ []
Nests blocks (edge ∷ edges) = (may_stand edge blocks ≡ true) × Nests (blocks_past edge blocks) edges

-- the same, but blocks may still be open at the end
abbrev pub NestsSoFar : List Block → List Edge → Type 0
NestsSoFar blocks [] = Unit {0}
NestsSoFar blocks (edge ∷ edges) = (may_stand edge blocks ≡ true) × NestsSoFar (blocks_past edge blocks) edges

-- the blocks that are open at the end
abbrev pub blocks_after : List Block → List Edge → List Block
blocks_after blocks [] = blocks
blocks_after blocks (edge ∷ edges) = blocks_after (blocks_past edge blocks) edges

-- ---- an `end` in a text

abbrev pub ends_loop : Edge → Bool
ends_loop EndsLoop = true
ends_loop _ = false

-- An `end` ends the innermost block, which is a loop or an `if`.
abbrev pub ending : List Block → Op → Op
ending blocks op = if ends_loop (edge_of op) && is_innermost (λ b. not (is_loop b)) blocks then EndIf else op

-- ops whose texts are these, each `end` that of the block that it ends
abbrev pub with_ends : List Block → List Op → List Op
with_ends blocks [] = []
with_ends blocks (op ∷ ops) = ending blocks op ∷ with_ends (blocks_past (edge_of (ending blocks op)) blocks) ops

-- the blocks that are open after the beginning of a script
abbrev pub open_behind : List Op → List Block
open_behind ops = blocks_after [] (edges_of ops)

-- The op whose text is this one's may come next, after the beginning of a script.
abbrev pub may_come : Op → List Op → Bool
may_come op ops = may_stand (edge_of (ending (open_behind ops) op)) (open_behind ops)

-- ---- the op that an op jumps to

-- how many ops there are to the end of the branch in which they begin, its `else` or `end` included, if this
-- many `if` are open in it
abbrev pub past_branch : ℕ → List Edge → ℕ
past_branch inner [] = 0
past_branch inner (OpensIf ∷ edges) = past_branch (inner + 1) edges + 1
past_branch inner (OpensElse ∷ edges) = if inner == 0 then 1 else past_branch inner edges + 1
past_branch inner (EndsIf ∷ edges) = if inner == 0 then 1 else past_branch (inner - 1) edges + 1
past_branch inner (edge ∷ edges) = past_branch inner edges + 1

-- how many there are to the end of the loop in which they begin, its `end` included, if this many loops are open in it
abbrev pub past_loop : ℕ → List Edge → ℕ
past_loop inner [] = 0
past_loop inner (OpensLoop ∷ edges) = past_loop (inner + 1) edges + 1
past_loop inner (EndsLoop ∷ edges) = if inner == 0 then 1 else past_loop (inner - 1) edges + 1
past_loop inner (edge ∷ edges) = past_loop inner edges + 1

-- over how many ops the first of these jumps: an `if` and an `else` over the branch that begins after them, and a `break` over
-- what is left of its loop
abbrev pub jumped_over : List Edge → ℕ
jumped_over [] = 0
jumped_over (OpensIf ∷ edges) = past_branch 0 edges
jumped_over (OpensElse ∷ edges) = past_branch 0 edges
jumped_over (Breaks ∷ edges) = past_loop 0 edges
jumped_over (edge ∷ edges) = 0

-- the op of a script that is next if that of this index jumps
abbrev pub jump_from : List Op → ℕ → ℕ
jump_from script op_index = op_index + 1 + jumped_over (drop op_index (edges_of script))

-- the op that each op of a script goes on at if it jumps, from the op of this index on
abbrev pub jumps_from : ℕ → List Edge → List ℕ
jumps_from op_index [] = []
jumps_from op_index (edge ∷ edges) = (op_index + 1 + jumped_over (edge ∷ edges)) ∷ jumps_from (op_index + 1) edges
