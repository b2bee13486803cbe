-- What the checks of a script give, where none finds a fault.
use Rattle.std.proofs.Common.{◌≡◌, ◌+◌, ℕ, true, false, Bool, List, [], ◌∷◌, length, map, Option, Some, None, refl, ap, sym, subst}
use Rattle.std.proofs.Common.{◌∙◌, ◌++◌, append_assoc}
use Rattle.std.specs.Prelude.{◌&&◌, not, is_none, nat_lt}
use Rattle.std.specs.List.{AllByRecursion, cons_option, fold}
use Rattle.std.specs.Option.{option_map_or, option_and_then}
use Rattle.toml.specs.Data.{Data}
use Rattle.model.specs.declared.op.Op.{Op}
use Rattle.model.specs.declared.op.IsrOp.{IsrOp}
use Rattle.model.specs.Application.{Definition}
use Rattle.model.specs.declared.block.Block.{Block}
use Rattle.model.specs.declared.block.Edge.{Edge}
use Rattle.model.specs.Blocks.{Nests, blocks_past, edge_of, edges_of, isr_edges_of, ending, may_come, may_stand, open_behind}
use Rattle.model.specs.Blocks.{with_ends}
use Rattle.model.specs.Scripts.{InRange}
use Rattle.model.proofs.Nesting.{nothing_open, open_behind-append}
use Rattle.script.specs.Arrays.{each_fault}
use Rattle.script.specs.declared.fault.FaultKind.TheVariants.{BadOp, UnknownName, NoDaemon, OverwriteLength, BadNesting}
use Rattle.script.specs.declared.place.Place.{Place}
use Rattle.script.specs.Faults.{fault_at, fails_if, need}
use Rattle.script.specs.Entries.{Raw, Entries}
use Rattle.grammar.specs.Grammar.{Word, Naming, Spells, words_of, op_of}
use Rattle.grammar.specs.Finding.{any_name}
use Rattle.script.specs.Finding.{among}
use Rattle.script.specs.Ops.{Ops, task_ops, handler_ops, op_in, edge_in, standing_fault, op_fault, op_elements, blocks_with}
use Rattle.script.specs.Ops.{script_fault, ops_named, script_named, task_scripts, scripts_fault, with_script}
use Rattle.grammar.proofs.Reading.{sound}
use Rattle.script.proofs.Checks.{none_fails, passes}

pub not_false : (b : Bool) → not b ≡ false → b ≡ true
not_false true e = refl
not_false false e = cc

-- an op that is taken is where it is allowed, on an object that allows it; there is a daemon for it
pub record Stands {O : Type 0} (ops : Ops O) (entries : Entries) (blocks : List Block) (op : O) : Type 0 where
  pub served : (ops.is_command op && is_none entries.daemon) ≡ false
  pub allowed : ops.is_allowed entries.objects op ≡ true
  pub stands : may_stand (edge_in ops blocks op) blocks ≡ true

module _ {O : Type 0} (ops : Ops O) (entries : Entries) where
  standing : (blocks : List Block) (p : Place) (op : O)
      → standing_fault ops entries blocks p op ≡ None → Stands ops entries blocks op
  standing blocks p op none =
      let first = none_fails (fails_if (ops.is_command op && is_none entries.daemon) (fault_at NoDaemon p)) _ none in
      let here = none_fails (fails_if (not (ops.is_allowed entries.objects op)) (fault_at OverwriteLength p)) _ first.1 in
      let last = none_fails (fails_if (not (may_stand (edge_in ops blocks op) blocks)) (fault_at BadNesting p)) [] here.1 in
      record {
        served = passes (ops.is_command op && is_none entries.daemon) (fault_at NoDaemon p) first.0;
        allowed = not_false (ops.is_allowed entries.objects op) (passes _ (fault_at OverwriteLength p) here.0);
        stands = not_false (may_stand (edge_in ops blocks op) blocks) (passes _ (fault_at BadNesting p) last.0);
      }

  pub taken_stands : (blocks : List Block) (p : Place) (d : Data) (op : O) → op_fault ops entries blocks p d ≡ None
      → op_in ops (among entries) d ≡ Some op → Stands ops entries blocks op
  taken_stands blocks p d op none is =
      let spelt = none_fails (fails_if (is_none (op_in ops any_name d)) (fault_at BadOp p)) _ none in
      let found =
      none_fails (need (fault_at UnknownName p) (op_in ops (among entries) d) (standing_fault ops entries blocks p)) [] spelt.1 in
      standing blocks p op
      (subst (λ (o : Option O). need (fault_at UnknownName p) o (standing_fault ops entries blocks p) ≡ None) is found.0)

-- ---- the blocks of scripts

module _ {O : Type 0} (ops : Ops O) where
  -- what ops whose texts are these are to the blocks of their script, where these blocks are open
  abbrev pub edges_in : List Block → List O → List Edge
  edges_in blocks [] = []
  edges_in blocks (op ∷ others) = edge_in ops blocks op ∷ edges_in (blocks_past (edge_in ops blocks op) blocks) others

  module _ (entries : Entries) where
    next_nests : (blocks : List Block) (p : Place) (d : Data) (o : Option O) (others : List O) → op_in ops (among entries) d ≡ o
        → op_fault ops entries blocks p d ≡ None
        → (let past = option_map_or (λ op. blocks_past (edge_in ops blocks op) blocks) o blocks in
        Nests past (edges_in past others))
        → Nests blocks (edges_in blocks (cons_option o others))
    next_nests blocks p d None others is none h = h
    next_nests blocks p d (Some op) others is none h = ((taken_stands ops entries blocks p d op none is).stands, h)

    each_nests : (p : Place) (blocks : List Block) (i : ℕ) (ds : List Data)
        → each_fault (op_elements ops entries p) blocks i ds ≡ None
        → fold (blocks_with ops entries) blocks ds ≡ [] → Nests blocks (edges_in blocks (ops_named ops entries ds))
    each_nests p blocks i [] none closed = closed
    each_nests p blocks i (d ∷ ds) none closed =
        let elements = op_elements ops entries p in
        let here = none_fails (op_fault ops entries blocks (elements.at i) d) _ none in
        next_nests blocks (elements.at i) d (op_in ops (among entries) d) (ops_named ops entries ds) refl here.0
        (each_nests p (blocks_with ops entries blocks d) (i + 1) ds (none_fails _ [] here.1).0 closed)

    script_nests : (p : Place) (ds : List Data) → script_fault ops entries p ds ≡ None
        → Nests [] (edges_in [] (ops_named ops entries ds))
    script_nests p ds none =
        let open_blocks = fold (blocks_with ops entries) [] ds in
        let here = none_fails (each_fault (op_elements ops entries p) [] 0 ds) _ none in
        let last = passes (nat_lt 0 (length open_blocks)) _ (none_fails _ [] here.1).0 in
        each_nests p [] 0 ds here.0 (nothing_open open_blocks (sym (ap not last)))

-- the edges of the script of these ops, where these blocks are open
abbrev edges_with : List Block → List Op → List Edge
edges_with blocks ops = edges_of (with_ends blocks ops)

task_edges : (blocks : List Block) (ops : List Op) → edges_in task_ops blocks ops ≡ edges_with blocks ops
task_edges blocks [] = refl
task_edges blocks (op ∷ ops) =
    let edge = edge_in task_ops blocks op in
    ap (λ edges. edge ∷ edges) (task_edges (blocks_past edge blocks) ops)

isr_edges : (blocks : List Block) (ops : List IsrOp) → edges_in handler_ops blocks ops ≡ isr_edges_of ops
isr_edges blocks [] = refl
isr_edges blocks (op ∷ ops) =
    let edge = edge_in handler_ops blocks op in
    ap (λ edges. edge ∷ edges) (isr_edges (blocks_past edge blocks) ops)

module _ (entries : Entries) where
  pub handler_nests : (p : Place) (ds : List Data) → script_fault handler_ops entries p ds ≡ None
      → Nests [] (isr_edges_of (ops_named handler_ops entries ds))
  handler_nests p ds none =
      subst (Nests []) (isr_edges [] (ops_named handler_ops entries ds)) (script_nests handler_ops entries p ds none)

  task_nests : (p : Place) (ds : List Data) → script_fault task_ops entries p ds ≡ None
      → Nests [] (edges_of (script_named entries ds))
  task_nests p ds none =
      subst (Nests []) (task_edges [] (ops_named task_ops entries ds)) (script_nests task_ops entries p ds none)

  scripts_nest : (i : ℕ) (ts : List Raw) → each_fault (task_scripts entries) tt i (map (λ (t : Raw). t.script) ts) ≡ None
      → AllByRecursion (λ (d : Definition). Nests [] (edges_of d.script)) (map (with_script entries) ts)
  scripts_nest i [] none = tt
  scripts_nest i (t ∷ ts) none =
      let elements = task_scripts entries in
      let here = none_fails (script_fault task_ops entries (elements.at i) t.script) _ none in
      (task_nests (elements.at i) t.script here.0, scripts_nest (i + 1) ts (none_fails _ [] here.1).0)

  pub tasks_nest : scripts_fault entries ≡ None
      → AllByRecursion (λ (d : Definition). Nests [] (edges_of d.script)) (map (with_script entries) entries.tasks)
  unfolding scripts_fault
  tasks_nest none = scripts_nest 0 entries.tasks none

-- ---- the ranges of ops

in_range : (named : Naming) (ws : List Word) (op : Op) → Spells named op ws → InRange op
in_range named [] op h = absurd h
in_range named (w ∷ ws) op h = h.2

pub spelled_in_range : (named : Naming) (text : Option (List ℕ)) (op : Op)
    → option_and_then (λ text. op_of named (words_of text)) text ≡ Some op → InRange op
spelled_in_range named None op e = cc
spelled_in_range named (Some text) op e = in_range named (words_of text) op (sound named (words_of text) op e)

-- ---- a script that is built op by op

-- One op more is named behind this beginning.
module _ (before after : List Op) (op : Op) (rest others : List Op) (is : rest ≡ op ∷ others) where
  -- It may come next,
  pub comes_next : Nests (open_behind before) (edges_with (open_behind before) rest) → may_come op before ≡ true
  comes_next nests = (subst (λ ops. Nests (open_behind before) (edges_with (open_behind before) ops)) is nests).0

  past : after ≡ before ++ ending (open_behind before) op ∷ []
      → open_behind after ≡ blocks_past (edge_of (ending (open_behind before) op)) (open_behind before)
  past new = ap open_behind new ∙ open_behind-append before (ending (open_behind before) op)

  -- the others nest behind it,
  pub others_nest : Nests (open_behind before) (edges_with (open_behind before) rest)
      → after ≡ before ++ ending (open_behind before) op ∷ [] → Nests (open_behind after) (edges_with (open_behind after) others)
  others_nest nests new =
      let here = subst (λ ops. Nests (open_behind before) (edges_with (open_behind before) ops)) is nests in
      subst (λ blocks. Nests blocks (edges_with blocks others)) (sym (past new)) here.1

  -- and they are what is left.
  pub others_left : (all : List Op) → all ≡ before ++ with_ends (open_behind before) rest
      → after ≡ before ++ ending (open_behind before) op ∷ [] → all ≡ after ++ with_ends (open_behind after) others
  others_left all so_far new =
      let made = ending (open_behind before) op in
      so_far
      ∙ ap (λ ops. before ++ with_ends (open_behind before) ops) is
      ∙ ap (λ blocks. before ++ made ∷ with_ends blocks others) (sym (past new))
      ∙ sym (append_assoc before (made ∷ []) (with_ends (open_behind after) others))
      ∙ ap (λ ops. ops ++ with_ends (open_behind after) others) (sym new)
