-- What the branches and loops of a script do, in plain terms.
use Rattle.std.specs.Prelude.{◌≡◌, ◌+◌, ℕ, Bool, true, false, not, List, [], ◌∷◌, ◌++◌, drop, filter, is_none}
use Rattle.model.specs.declared.block.Block.{Block}
use Rattle.model.specs.declared.block.Edge.{Edge}
use Rattle.model.specs.declared.block.Edge.TheVariants.{EndsLoop, OpensElse, EndsIf, Inside}
use Rattle.model.specs.declared.loops.Loop.{Loop}
use Rattle.model.specs.declared.op.Op.{Op}
use Rattle.model.specs.Blocks.{blocks_past, edges_of, is_if, is_innermost, is_loop}
use Rattle.model.specs.State.{State, progress_at}

-- The op opens, ends or leaves a branch or a loop.
abbrev pub is_of_blocks : Edge → Bool
is_of_blocks Inside = false
is_of_blocks _ = true

-- The op ends the first branch of an `if`: an `else`, or the `end` of an `if` without one.
abbrev pub ends_branch : Edge → Bool
ends_branch OpensElse = true
ends_branch EndsIf = true
ends_branch _ = false

-- If the op ends a branch or a loop, that is the innermost of these open blocks.
abbrev pub ends_one_of : List Block → Edge → Bool
ends_one_of blocks EndsLoop = is_innermost is_loop blocks
ends_one_of blocks EndsIf = is_innermost (λ b. not (is_loop b)) blocks
ends_one_of blocks OpensElse = is_innermost is_if blocks
ends_one_of blocks _ = true

-- These ops end exactly these blocks, which are open before the first of them, and those that they open themselves.
abbrev pub AreWhole : List Block → List Edge → Type 0
AreWhole blocks [] = blocks ≡ []
AreWhole blocks (edge ∷ edges) = (ends_one_of blocks edge ≡ true) × AreWhole (blocks_past edge blocks) edges

-- After the op of this index of a script come these ops. They end these blocks, which are open before the first of them. Then
-- comes the last op, which ends or leaves the block around them.
pub record Encloses (script : List Op) (op_index : ℕ) (blocks : List Block) (ops : List Op) (last : Op) : Type 0 where
  pub behind : List Op
  pub parts : drop (op_index + 1) script ≡ ops ++ last ∷ behind
  pub whole : AreWhole blocks (edges_of ops)

-- the endless ones among these loops
abbrev pub for_ever : List Loop → List Loop
for_ever loops = filter (λ (l : Loop). is_none l.left) loops

-- Each endless loop that was open is still open, in the same order. Others may have been opened inside them.
abbrev pub AllStay : List Loop → List Loop → Type 0
AllStay old new = (opened : List Loop) × (for_ever new ≡ opened ++ for_ever old)

-- What a task does takes no time, switches to no other task, writes nothing and leaves the task's last answer unchanged.
pub record IsQuiet (task : ℕ) (old new : State) : Type 0 where
  pub time : new.time ≡ old.time
  pub elapsed : new.elapsed ≡ old.elapsed
  pub current : new.current ≡ old.current
  pub log : new.log ≡ old.log
  pub answer : (progress_at new task).answer ≡ (progress_at old task).answer
