-- The daemon of an application of some entries, and the tasks of its file.
use Rattle.std.proofs.Common.{◌≡◌, ◌+◌, ◌++◌, ◌≤◌, ℕ, true, false, List, [], ◌∷◌, length, map, take, Option, Some, None, refl, ap}
use Rattle.std.proofs.Common.{sym, subst, ◌∙◌, append-nil, length-append, arith}
use Rattle.std.specs.Prelude.{IfSome}
use Rattle.std.specs.List.{slice_get}
use Rattle.std.specs.Option.{option_map, unwrap_or, is_some}
use Rattle.std.proofs.Math.Seq.{take-append_seam}
use Rattle.std.proofs.lemmas.List.{length-map}
use Rattle.model.specs.declared.object.ObjectKind.{ObjectKind}
use Rattle.model.specs.declared.object.ObjectKind.TheVariants.{Queue}
use Rattle.model.specs.declared.op.Access.TheVariants.{Receive}
use Rattle.model.specs.declared.op.Op.TheVariants.{NextCommand, Obey}
use Rattle.model.specs.Application.{Application, Definition, of_file, commands_of, definition_of}
use Rattle.model.specs.Scripts.{IsDaemon, fits}
use Rattle.script.specs.Entries.{ObjectEntry, DaemonEntry, Entries, HasEntries, command_queue, all_objects, daemon_of}
use Rattle.script.specs.Ops.{with_script, daemon_task, all_tasks}

-- what is behind all others
at_end : {X : Type 0} (xs : List X) (x : X) → slice_get (xs ++ x ∷ []) (length xs) ≡ Some x
at_end [] x = refl
at_end (y ∷ ys) x = at_end ys x

-- ---- the daemon behind these objects and tasks

module _ (app : Application) (kinds : List ObjectKind) (tasks : List Definition)
    (commands : ℕ) (d : DaemonEntry) (same : commands ≡ length kinds)
    (objects : app.objects ≡ kinds ++ command_queue (Some d)) (all : app.tasks ≡ tasks ++ daemon_task commands (Some d)) where
  queue_number : commands_of app ≡ length kinds
  queue_number =
      let count : length app.objects ≡ length kinds + 1 = ap length objects ∙ length-append kinds (Queue d.size ∷ []) in
      omega (arith, count)

  abbrev its_task : Definition
  its_task = record { name = d.name; priority = d.priority; endless = true; script = NextCommand commands ∷ Obey ∷ [] }

  defined : definition_of app (length tasks) ≡ Some its_task
  defined = ap (λ ts. slice_get ts (length tasks)) all ∙ at_end tasks its_task

  its_queue : slice_get app.objects (commands_of app) ≡ Some (Queue d.size)
  its_queue =
      ap (λ n. slice_get app.objects n) queue_number
      ∙ ap (λ ks. slice_get ks (length kinds)) objects
      ∙ at_end kinds (Queue d.size)

  pub is_daemon : 1 ≤ length tasks → IsDaemon app (length tasks)
  is_daemon some = record {
    last = sym (ap length all ∙ length-append tasks (its_task ∷ []));
    some = some;
    endless = ap (λ o. unwrap_or (option_map (λ (t : Definition). t.endless) o) false) defined;
    script =
        ap (λ o. unwrap_or (option_map (λ (t : Definition). t.script) o) []) defined
        ∙ ap (λ n. NextCommand n ∷ Obey ∷ []) (same ∙ sym queue_number);
    queue = ap (λ o. unwrap_or (option_map (λ k. fits {Item = ℕ} k Receive) o) false) its_queue;
  }

-- the tasks of the file are those before it
before_it : (tasks : List Definition) (commands count : ℕ) (o : Option DaemonEntry) → count ≡ length tasks
    → of_file (option_map (λ (d : DaemonEntry). count) o) (tasks ++ daemon_task commands o) ≡ tasks
before_it tasks commands count None is = append-nil tasks
before_it tasks commands count (Some d) is =
    ap (λ n. take n (tasks ++ daemon_task commands (Some d))) is ∙ take-append_seam tasks (daemon_task commands (Some d))

same_presence : (n : ℕ) (o : Option DaemonEntry) → is_some (option_map (λ (d : DaemonEntry). n) o) ≡ is_some o
same_presence n None = refl
same_presence n (Some d) = refl

-- ---- an application of these entries

module _ (app : Application) (entries : Entries)
    (objects : app.objects ≡ all_objects entries) (tasks : app.tasks ≡ all_tasks entries)
    (daemon : app.daemon ≡ daemon_of entries) where
  pub tasks_of_file : of_file app.daemon app.tasks ≡ map (with_script entries) entries.tasks
  tasks_of_file =
      ap (λ o. of_file o app.tasks) daemon
      ∙ ap (λ ts. of_file (daemon_of entries) ts) tasks
      ∙ before_it (map (with_script entries) entries.tasks) (length entries.objects) (length entries.tasks) entries.daemon
      (sym (length-map entries.tasks (with_script entries)))

  pub has_entries : app.group_count ≡ length entries.groups → length app.variables ≡ length entries.variables
      → length app.handlers ≡ length entries.handlers → HasEntries app entries
  has_entries groups variables handlers = record {
    objects = objects;
    groups = groups;
    variables = variables;
    handlers = handlers;
    tasks = ap length tasks_of_file ∙ length-map entries.tasks (with_script entries);
    daemon = ap is_some daemon ∙ same_presence (length entries.tasks) entries.daemon;
  }

  its_daemon : (o : Option DaemonEntry) → entries.daemon ≡ o → 1 ≤ length entries.tasks
      → IfSome (option_map (λ (d : DaemonEntry). length entries.tasks) o) (IsDaemon app)
  its_daemon None is some = tt
  its_daemon (Some d) is some =
      let kinds = map (λ (o : ObjectEntry). o.kind) entries.objects in
      let of_file_tasks = map (with_script entries) entries.tasks in
      let count : length of_file_tasks ≡ length entries.tasks = length-map entries.tasks (with_script entries) in
      rw (← count) (is_daemon app kinds of_file_tasks (length entries.objects) d
      (sym (length-map entries.objects (λ (o : ObjectEntry). o.kind)))
      (objects ∙ ap (λ o. kinds ++ command_queue o) is)
      (tasks ∙ ap (λ o. of_file_tasks ++ daemon_task (length entries.objects) o) is) (rw count some))

  pub daemon_formed : 1 ≤ length entries.tasks → IfSome app.daemon (IsDaemon app)
  daemon_formed some = subst (λ o. IfSome o (IsDaemon app)) (sym daemon) (its_daemon entries.daemon refl some)
