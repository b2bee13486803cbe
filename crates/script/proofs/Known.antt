-- Every op that is taken, of a script or of a handler, speaks of what there is.
use Rattle.std.proofs.Common.{◌≡◌, ◌+◌, ℕ, Bool, true, false, List, [], ◌∷◌, ◌++◌, map, drop, Option, Some, None}
use Rattle.std.proofs.Common.{refl}
use Rattle.std.specs.Prelude.{◌&&◌, not, is_none}
use Rattle.std.specs.List.{AllByRecursion, cons_option}
use Rattle.std.specs.Option.{option_and_then, IfSome}
use Rattle.toml.specs.Data.{Data, as_str}
use Rattle.model.specs.declared.op.Access.TheVariants.{Send, SendFront, Overwrite, Receive, Peek, Take, Give, Lock}
use Rattle.model.specs.declared.block.Block.{Block}
use Rattle.model.specs.declared.op.Op.{Op}
use Rattle.model.specs.declared.op.Op.TheVariants as op
use Rattle.model.specs.declared.op.IsrOp.{IsrOp}
use Rattle.model.specs.declared.op.IsrOp.TheVariants as isr
use Rattle.model.specs.declared.notification.NotifyAction.{NotifyAction}
use Rattle.model.specs.declared.value.Value.{Value}
use Rattle.model.specs.declared.value.ValueOp.{ValueOp}
use Rattle.model.specs.declared.source.SourceOp.{SourceOp}
use Rattle.model.specs.Application.{Application}
use Rattle.model.specs.Blocks.{blocks_past, edge_of, ending, ends_loop, is_innermost, is_loop, with_ends}
use Rattle.model.specs.Scripts.{has_handler, is_in_range, knows, knows_isr, knows_value, knows_values, KnowsAll, IsHandler}
use Rattle.model.proofs.Sorting.{by_test}
use Rattle.grammar.specs.declared.object_sort.ObjectSort.TheVariants.{Queue, Semaphore, Mutex}
use Rattle.script.specs.declared.place.Place.{Place}
use Rattle.script.specs.Arrays.{each_fault}
use Rattle.grammar.specs.Grammar.{Word, Form, forms, basic_forms, block_forms, queue_forms, semaphore_forms, group_forms}
use Rattle.grammar.specs.Grammar.{ActionValue, Done, notification_forms, suspension_forms, source_forms, value_forms, given}
use Rattle.grammar.specs.Grammar.{CommandForm}
use Rattle.grammar.specs.Grammar.{isr_call_forms, isr_forms, read_by}
use Rattle.grammar.specs.Grammar.{if_in_range, OfTask}
use Rattle.grammar.specs.Grammar.{is_isr_in_range, if_isr_in_range, op_of, isr_op_of, words_of}
use Rattle.script.specs.Entries.{RawIsr, Raw, Entries, HasEntries}
use Rattle.script.specs.Finding.{among}
use Rattle.script.specs.Ops.{Ops, task_ops, handler_ops, is_allowed, is_isr_allowed, is_command, op_in, blocks_with, op_elements}
use Rattle.script.specs.Ops.{op_fault, script_fault, ops_named, handler_scripts, task_scripts, scripts_fault, handler_ops_fault}
use Rattle.script.specs.Ops.{IsLimited, with_script, with_isr_ops}
use Rattle.script.proofs.Checks.{none_fails}
use Rattle.grammar.proofs.Forms.{Makes, action_makes, read_by_holds}
use Rattle.script.proofs.Fitting.{IsAt, found_at, at_fits, allowed_fits, at_group, at_task, at_variable, at_handler, at_value}
use Rattle.script.proofs.Fitting.{at_condition}
use Rattle.script.proofs.Fitting.{has_daemon}
use Rattle.script.proofs.Scripts.{taken_stands, handler_nests}

-- ---- the ops of any kind, where those that its texts spell are known wherever their object allows them and there is a daemon for
-- them

module _ {O : Type 0} (ops : Ops O) (entries : Entries) (Knows : O → Type 0) where
  abbrev pub Known : Option O → Type 0
  Known o =
      IfSome o
      (λ (op : O). ops.is_allowed entries.objects op ≡ true → (ops.is_command op && is_none entries.daemon) ≡ false → Knows op)

  module _ (known : (ws : List Word) → Known (ops.of_words (among entries) ws)) where
    text_known : (text : Option (List ℕ)) → Known (option_and_then (λ text. ops.of_words (among entries) (words_of text)) text)
    text_known None = tt
    text_known (Some text) = known (words_of text)

    one_more : (blocks : List Block) (p : Place) (d : Data) (o : Option O) (others : List O) → op_in ops (among entries) d ≡ o
        → op_fault ops entries blocks p d ≡ None → Known o
        → AllByRecursion Knows others → AllByRecursion Knows (cons_option o others)
    one_more blocks p d None others is none spelt h = h
    one_more blocks p d (Some op) others is none spelt h =
        let taken = taken_stands ops entries blocks p d op none is in
        (spelt taken.allowed taken.served, h)

    each_known : (p : Place) (blocks : List Block) (i : ℕ) (ds : List Data)
        → each_fault (op_elements ops entries p) blocks i ds ≡ None
        → AllByRecursion Knows (ops_named ops entries ds)
    each_known p blocks i [] none = tt
    each_known p blocks i (d ∷ ds) none =
        let elements = op_elements ops entries p in
        let here = none_fails (op_fault ops entries blocks (elements.at i) d) _ none in
        one_more blocks (elements.at i) d (op_in ops (among entries) d)
        (ops_named ops entries ds) refl here.0 (text_known (as_str d))
        (each_known p (blocks_with ops entries blocks d) (i + 1) ds (none_fails _ [] here.1).0)

    pub script_known : (p : Place) (ds : List Data) → script_fault ops entries p ds ≡ None
        → AllByRecursion Knows (ops_named ops entries ds)
    script_known p ds none = each_known p [] 0 ds (none_fails (each_fault (op_elements ops entries p) [] 0 ds) _ none).0

-- what holds of these and of those
both : {X : Type 0} (P : X → Type 0) (xs ys : List X) → AllByRecursion P xs → AllByRecursion P ys → AllByRecursion P (xs ++ ys)
both P [] ys here others = others
both P (x ∷ xs) ys here others = (here.0, both P xs ys here.1 others)

module _ (app : Application) (entries : Entries) (has : HasEntries app entries) where
  -- ---- of tasks and of handlers

  -- what an op sends, stores or marks is no variable
  given_known : (n : Option ℕ) → knows_value app (given n) ≡ true
  given_known None = refl
  given_known (Some n) = refl

  -- What holds of each op on values of variables that are there holds of those that are made.
  module _ {O : Type 0} (made : ValueOp → O) (Holds : O → Type 0)
      (known : (values : ValueOp) → knows_values app values ≡ true → Holds (made values)) where
    value_forms_make : AllByRecursion (λ (form : Word × Form O). Makes Holds (IsAt entries) form.1) (value_forms made)
    value_forms_make = (
      (λ x at. known _ (at_variable app entries has x at)),
      (
        (λ x at n. known _ (rw (at_variable app entries has x at, given_known n) refl)),
        (
          (λ v at. known _ (at_value app entries has v at)),
          (
            (λ v at. known _ (at_value app entries has v at)),
            (
              (λ v at. known _ (at_value app entries has v at)),
              (
                (λ v at. known _ (at_value app entries has v at)),
                (
                  (λ v at. known _ (at_value app entries has v at)),
                  (
                    (λ v at. known _ (at_value app entries has v at)),
                    (
                      (λ v at. known _ (at_value app entries has v at)),
                      ((λ v at. known _ (at_value app entries has v at)), tt),
                    ),
                  ),
                ),
              ),
            ),
          ),
        ),
      ),
    )

  -- What holds of each op on a handler that is there holds of those that are made.
  module _ {O : Type 0} (made : ℕ → SourceOp → O) (Holds : O → Type 0)
      (known : (handler : ℕ) (what : SourceOp) → has_handler app handler ≡ true → Holds (made handler what)) where
    source_forms_make : AllByRecursion (λ (form : Word × Form O). Makes Holds (IsAt entries) form.1) (source_forms made)
    source_forms_make = (
      (λ h at. known h _ (at_handler app entries has h at)),
      (
        (λ h at. known h _ (at_handler app entries has h at)),
        (
          (λ h at ticks. known h _ (at_handler app entries has h at)),
          ((λ h at. known h _ (at_handler app entries has h at)), tt),
        ),
      ),
    )

  -- ---- of tasks

  abbrev IsKnown : Op → Type 0
  IsKnown op = is_allowed entries.objects op ≡ true → knows app op ≡ true

  abbrev AllKnown : List (Word × Form Op) → Type 0
  AllKnown fs = AllByRecursion (λ (form : Word × Form Op). Makes IsKnown (IsAt entries) form.1) fs

  suspension_forms_known : AllKnown suspension_forms
  suspension_forms_known = (
    (λ t at a. at_task app entries has t at),
    (
      (λ t at a. at_task app entries has t at),
      ((λ a. refl), ((λ a. refl), ((λ a. refl), ((λ a. refl), tt)))),
    ),
  )

  notify_known : (t : ℕ) → IsAt entries OfTask t → (a : NotifyAction Unit)
      → Makes IsKnown (IsAt entries) (ActionValue (λ action. Done (op.Notify t action)) a)
  notify_known t at = action_makes IsKnown (IsAt entries) (λ action. Done (op.Notify t action))
      (λ action a. at_task app entries has t at)

  notification_forms_known : AllKnown notification_forms
  notification_forms_known = (
    notify_known,
    ((λ clears ticks a. refl), ((λ entry exit ticks a. refl), ((λ a. refl), ((λ bits a. refl), tt)))),
  )

  group_forms_known : AllKnown group_forms
  group_forms_known = (
    (λ g at mask a. at_group app entries has g at),
    (
      (λ g at mask a. at_group app entries has g at),
      (
        (λ g at a. at_group app entries has g at),
        ((λ g at mask all clear ticks a. at_group app entries has g at), tt),
      ),
    ),
  )

  semaphore_forms_known : AllKnown semaphore_forms
  semaphore_forms_known = (
    (λ s at ticks a. rw (at_fits app entries has {Item = Value} Semaphore Take refl s at) refl),
    (
      (λ s at a. rw (at_fits app entries has {Item = Value} Semaphore Give refl s at) refl),
      (
        (λ m at ticks a. rw (at_fits app entries has {Item = Value} Mutex Lock refl m at) refl),
        ((λ m at a. at_fits app entries has {Item = ℕ} Mutex Lock refl m at), tt),
      ),
    ),
  )

  queue_forms_known : AllKnown queue_forms
  queue_forms_known = (
    (λ q at n ticks a. rw (at_fits app entries has Queue (Send (given n)) (λ size. refl) q at) refl),
    (
      (λ q at n ticks a. rw (at_fits app entries has Queue (SendFront (given n)) (λ size. refl) q at) refl),
      (
        (λ q at n allowed. rw (allowed_fits app entries has (Overwrite (given n)) q allowed) refl),
        (
          (λ q at ticks a. rw (at_fits app entries has {Item = Value} Queue Receive (λ size. refl) q at) refl),
          (
            (λ q at ticks a. rw (at_fits app entries has {Item = Value} Queue Peek (λ size. refl) q at) refl),
            (
              (λ q at a. at_fits app entries has {Item = ℕ} Queue Receive (λ size. refl) q at),
              ((λ q at a. at_fits app entries has {Item = ℕ} Queue Receive (λ size. refl) q at), tt),
            ),
          ),
        ),
      ),
    ),
  )

  block_forms_known : AllKnown block_forms
  block_forms_known = (
    (λ turns a. refl),
    ((λ condition at a. at_condition app entries has condition at), ((λ a. refl), ((λ a. refl), ((λ a. refl), tt)))),
  )

  basic_forms_known : AllKnown basic_forms
  basic_forms_known = (
    (λ n a. refl),
    (
      (λ n a. refl),
      (
        (λ n a. refl),
        (
          (λ a. refl),
          (
            (λ a. refl),
            ((λ a. refl), ((λ a. refl), ((λ n a. refl), ((λ condition at a. at_condition app entries has condition at), tt)))),
          ),
        ),
      ),
    ),
  )

  value_forms_known : AllKnown (value_forms op.Value)
  value_forms_known = value_forms_make op.Value IsKnown (λ values known a. known)

  source_forms_known : AllKnown (source_forms op.Source)
  source_forms_known = source_forms_make op.Source IsKnown (λ handler what known a. known)

  both_known : (fs gs : List (Word × Form Op)) → AllKnown fs → AllKnown gs → AllKnown (fs ++ gs)
  both_known fs gs known others = both (λ (form : Word × Form Op). Makes IsKnown (IsAt entries) form.1) fs gs known others

  forms_known : AllKnown forms
  forms_known =
      let last = source_forms op.Source ++ value_forms op.Value in
      let from_sources = both_known (source_forms op.Source) (value_forms op.Value) source_forms_known value_forms_known in
      let from_suspension = both_known suspension_forms last suspension_forms_known from_sources in
      let from_notifications =
      both_known notification_forms (suspension_forms ++ last) notification_forms_known from_suspension in
      let from_groups =
      both_known group_forms (notification_forms ++ suspension_forms ++ last) group_forms_known from_notifications in
      let from_semaphores =
      both_known semaphore_forms (group_forms ++ notification_forms ++ suspension_forms ++ last)
      semaphore_forms_known from_groups in
      let from_queues =
      both_known queue_forms (semaphore_forms ++ group_forms ++ notification_forms ++ suspension_forms ++ last)
      queue_forms_known from_semaphores in
      let from_blocks =
      both_known block_forms (queue_forms ++ semaphore_forms ++ group_forms ++ notification_forms ++ suspension_forms ++ last)
      block_forms_known from_queues in
      both_known basic_forms
      (block_forms ++ queue_forms ++ semaphore_forms ++ group_forms ++ notification_forms ++ suspension_forms ++ last)
      basic_forms_known from_blocks

  abbrev AreKnown : Option Op → Type 0
  AreKnown = Known task_ops entries (λ (op : Op). knows app op ≡ true)

  range_known : (o : Option Op) → IfSome o IsKnown → AreKnown (option_and_then if_in_range o)
  range_known None known = tt
  range_known (Some op) known = by_test (is_in_range op) (λ t. rw t (λ a served. known a)) (λ t. rw t tt)

  op_known : (ws : List Word) → AreKnown (op_of (among entries) ws)
  op_known [] = tt
  op_known (w ∷ ws) =
      let holds = read_by_holds (among entries) IsKnown (IsAt entries) (found_at entries) forms w ws forms_known in
      range_known (read_by (among entries) forms w ws) holds

  -- an `end` of an `if` is one of any application
  ending_known : (blocks : List Block) (op : Op) → knows app op ≡ true → knows app (ending blocks op) ≡ true
  ending_known blocks op known = by_test (ends_loop (edge_of op) && is_innermost (λ b. not (is_loop b)) blocks)
      (λ t. rw t refl) (λ t. rw t known)

  ends_known : (blocks : List Block) (script : List Op) → AllByRecursion (λ (op : Op). knows app op ≡ true) script
      → AllByRecursion (λ (op : Op). knows app op ≡ true) (with_ends blocks script)
  ends_known blocks [] known = tt
  ends_known blocks (op ∷ script) known =
      (ending_known blocks op known.0, ends_known (blocks_past (edge_of (ending blocks op)) blocks) script known.1)

  tasks_known : (i : ℕ) (ts : List Raw) → each_fault (task_scripts entries) tt i (map (λ (t : Raw). t.script) ts) ≡ None
      → AllByRecursion (KnowsAll app) (map (with_script entries) ts)
  tasks_known i [] none = tt
  tasks_known i (t ∷ ts) none =
      let elements = task_scripts entries in
      let here = none_fails (script_fault task_ops entries (elements.at i) t.script) _ none in (
        ends_known [] (ops_named task_ops entries t.script)
            (script_known task_ops entries (λ (op : Op). knows app op ≡ true) op_known (elements.at i) t.script here.0),
        tasks_known (i + 1) ts (none_fails _ [] here.1).0,
      )

  pub known_tasks : scripts_fault entries ≡ None → AllByRecursion (KnowsAll app) (map (with_script entries) entries.tasks)
  unfolding scripts_fault
  known_tasks none = tasks_known 0 entries.tasks none

  -- ---- of handlers

  abbrev IsIsrKnown : IsrOp → Type 0
  IsIsrKnown op =
      is_isr_in_range op ≡ true → is_isr_allowed entries.objects op ≡ true → (is_command op && is_none entries.daemon) ≡ false
      → knows_isr app op ≡ true

  command_known : (clear : Bool) → Makes IsIsrKnown (IsAt entries) (CommandForm clear)
  command_known clear g at mask within a served =
      rw (has_daemon app entries has served, at_group app entries has g at, within) refl

  abbrev AllIsrKnown : List (Word × Form IsrOp) → Type 0
  AllIsrKnown fs = AllByRecursion (λ (form : Word × Form IsrOp). Makes IsIsrKnown (IsAt entries) form.1) fs

  -- those that name no object, no event group and no task
  plain_forms_known : AllIsrKnown (drop 11 isr_call_forms)
  plain_forms_known = (
    (λ n r a s. refl),
    (
      (λ condition at r a s. at_condition app entries has condition at),
      ((λ condition at r a s. at_condition app entries has condition at), ((λ r a s. refl), ((λ r a s. refl), tt))),
    ),
  )

  isr_notify_known : (t : ℕ) → IsAt entries OfTask t → (a : NotifyAction Unit)
      → Makes IsIsrKnown (IsAt entries) (ActionValue (λ action. Done (isr.Notify t action)) a)
  isr_notify_known t at =
      action_makes IsIsrKnown (IsAt entries) (λ action. Done (isr.Notify t action)) (λ action r a s. at_task app entries has t at)

  isr_call_forms_known : AllIsrKnown isr_call_forms
  isr_call_forms_known = (
    (λ q at n r a s. rw (at_fits app entries has Queue (Send (given n)) (λ size. refl) q at) refl),
    (
      (λ q at n r a s. rw (at_fits app entries has Queue (SendFront (given n)) (λ size. refl) q at) refl),
      (
        (λ q at n r allowed s. rw (allowed_fits app entries has (Overwrite (given n)) q allowed) refl),
        (
          (λ q at r a s. rw (at_fits app entries has {Item = Value} Queue Receive (λ size. refl) q at) refl),
          (
            (λ q at r a s. rw (at_fits app entries has {Item = Value} Queue Peek (λ size. refl) q at) refl),
            (
              (λ o at r a s. rw (at_fits app entries has {Item = Value} Semaphore Give refl o at) refl),
              (
                (λ t at r a s. at_task app entries has t at),
                (
                  command_known false,
                  (command_known true, ((λ g at r a s. at_group app entries has g at), (isr_notify_known, plain_forms_known))),
                ),
              ),
            ),
          ),
        ),
      ),
    ),
  )

  isr_forms_known : AllIsrKnown isr_forms
  isr_forms_known =
      let Made : Word × Form IsrOp → Type 0 = λ (form : Word × Form IsrOp). Makes IsIsrKnown (IsAt entries) form.1 in
      let from_sources =
      both Made (source_forms isr.Source) (value_forms isr.Value)
      (source_forms_make isr.Source IsIsrKnown (λ handler what known r a s. rw (known, r) refl))
      (value_forms_make isr.Value IsIsrKnown (λ values known r a s. rw (known, r) refl)) in
      both Made isr_call_forms (source_forms isr.Source ++ value_forms isr.Value) isr_call_forms_known from_sources

  abbrev AreIsrKnown : Option IsrOp → Type 0
  AreIsrKnown = Known handler_ops entries (λ (op : IsrOp). knows_isr app op ≡ true)

  isr_range_known : (o : Option IsrOp) → IfSome o IsIsrKnown → AreIsrKnown (option_and_then if_isr_in_range o)
  isr_range_known None known = tt
  isr_range_known (Some op) known = by_test (is_isr_in_range op) (λ t. rw t (known t)) (λ t. rw t tt)

  isr_op_known : (ws : List Word) → AreIsrKnown (isr_op_of (among entries) ws)
  isr_op_known [] = tt
  isr_op_known (w ∷ ws) =
      let holds = read_by_holds (among entries) IsIsrKnown (IsAt entries) (found_at entries) isr_forms w ws isr_forms_known in
      isr_range_known (read_by (among entries) isr_forms w ws) holds

  handlers_known : (i : ℕ) (hs : List RawIsr) → each_fault (handler_scripts entries) tt i (map (λ (h : RawIsr). h.ops) hs) ≡ None
      → AllByRecursion IsLimited (map (with_isr_ops entries) hs) → AllByRecursion (IsHandler app) (map (with_isr_ops entries) hs)
  handlers_known i [] none formed = tt
  handlers_known i (h ∷ hs) none formed =
      let elements = handler_scripts entries in
      let here = none_fails (script_fault handler_ops entries (elements.at i) h.ops) _ none in (
        record {
          name = formed.0.0;
          few = formed.0.1;
          near = formed.0.2;
          nests = handler_nests entries (elements.at i) h.ops here.0;
          known =
              script_known handler_ops entries (λ (op : IsrOp). knows_isr app op ≡ true) isr_op_known (elements.at i) h.ops here.0;
        },
        handlers_known (i + 1) hs (none_fails _ [] here.1).0 formed.1,
      )

  pub known_handlers : handler_ops_fault entries ≡ None
      → AllByRecursion IsLimited (map (with_isr_ops entries) entries.handlers)
      → AllByRecursion (IsHandler app) (map (with_isr_ops entries) entries.handlers)
  unfolding handler_ops_fault
  known_handlers none formed = handlers_known 0 entries.handlers none formed
