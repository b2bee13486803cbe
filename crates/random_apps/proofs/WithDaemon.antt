-- The daemon after four tasks, and its queue after the objects of the file.
use Rattle.std.proofs.Common.{ℕ, ◌≡◌, ◌≤◌, ◌-◌, Bool, true, false, List, [], ◌∷◌, ◌++◌, length, take, Option, Some, None, refl, ap}
use Rattle.std.proofs.Common.{sym, subst, ◌∙◌, arith}
use Rattle.std.specs.Prelude.{IsSomeAnd, IfSome, unwrap_or}
use Rattle.std.specs.List.{AllByRecursion, slice_get}
use Rattle.std.specs.Option.{is_some, option_map}
use Rattle.std.proofs.lemmas.List.{length-append}
use Rattle.std.proofs.Math.Seq.{take-append_seam}
use Rattle.model.specs.declared.object.ObjectKind.{ObjectKind}
use Rattle.model.specs.declared.op.Op.TheVariants.{NextCommand, Obey}
use Rattle.model.specs.declared.op.Access.TheVariants.{Receive}
use Rattle.model.specs.Application.{Application, Definition, of_file}
use Rattle.model.specs.Scripts.{IsDaemon, IsDefinition, KnowsAll, fits, most_tasks}
use Rattle.model.proofs.Nesting.{all-append}
use Rattle.random_apps.specs.Known.{AreKnown, AreTasks, EndsWithQueue, IsCommandQueue, IsDaemonOf, daemon_number}
use Rattle.random_apps.proofs.Known.{known_all}

last_pushed : {X : Type 0} (xs : List X) (x : X) → slice_get (xs ++ x ∷ []) (length xs) ≡ Some x
last_pushed [] x = refl
last_pushed (y ∷ ys) x = last_pushed ys x

-- ---- as they are made

queue_behind : (objects : List ObjectKind) (queue : ObjectKind) → IsCommandQueue queue → EndsWithQueue true (objects ++ queue ∷ [])
queue_behind objects queue is =
    let last : length (objects ++ queue ∷ []) - 1 ≡ length objects = omega (arith, length-append objects (queue ∷ [])) in
    rw (last, last_pushed objects queue) is

pub queue_pushed : (has_daemon : Bool) (objects all : List ObjectKind) (queue : ObjectKind) → all ≡ objects ++ queue ∷ []
    → IsCommandQueue queue → EndsWithQueue has_daemon all
queue_pushed true objects all queue e is = subst (EndsWithQueue true) (sym e) (queue_behind objects queue is)
queue_pushed false objects all queue e is = tt

pub no_queue : (has_daemon : Bool) (objects : List ObjectKind) → has_daemon ≡ false → EndsWithQueue has_daemon objects
no_queue true objects e = absurd (cc)
no_queue false objects e = tt

abbrev AllKnown : List ObjectKind → List Definition → Type 0
AllKnown objects tasks = AllByRecursion (λ (d : Definition). AreKnown objects d.script) tasks

daemon_behind : (objects : List ObjectKind) (tasks : List Definition) (daemon : Definition) → length tasks ≡ 4
    → AllByRecursion IsDefinition tasks → AllKnown objects tasks
    → IsDaemonOf objects daemon → AreTasks true objects (tasks ++ daemon ∷ [])
daemon_behind objects tasks daemon four formed known is =
    let same : take 4 (tasks ++ daemon ∷ []) ≡ tasks =
    subst (λ n. take n (tasks ++ daemon ∷ []) ≡ tasks) four (take-append_seam tasks (daemon ∷ [])) in
    let last : slice_get (tasks ++ daemon ∷ []) 4 ≡ Some daemon =
    subst (λ n. slice_get (tasks ++ daemon ∷ []) n ≡ Some daemon) four (last_pushed tasks daemon) in
    record {
      four = ap length same ∙ four;
      formed = all-append IsDefinition tasks daemon formed is.formed;
      known = subst (AllKnown objects) (sym same) known;
      behind = (omega (arith, length-append tasks (daemon ∷ [])), subst (λ o. IsSomeAnd o (IsDaemonOf objects)) (sym last) is);
    }

pub daemon_pushed : (has_daemon : Bool) (objects : List ObjectKind) (tasks all : List Definition) (daemon : Definition)
    → has_daemon ≡ true
    → all ≡ tasks ++ daemon ∷ [] → length tasks ≡ 4 → AllByRecursion IsDefinition tasks
    → AllKnown objects tasks → IsDaemonOf objects daemon
    → AreTasks has_daemon objects all
daemon_pushed has_daemon objects tasks all daemon has e four formed known is =
    let behind : AreTasks true objects all =
    subst (AreTasks true objects) (sym e) (daemon_behind objects tasks daemon four formed known is) in
    subst (λ b. AreTasks b objects all) (sym has) behind

pub no_daemon : (has_daemon : Bool) (objects : List ObjectKind) (tasks : List Definition) → has_daemon ≡ false → length tasks ≡ 4
    → AllByRecursion IsDefinition tasks → AllKnown objects tasks → AreTasks has_daemon objects tasks
no_daemon has_daemon objects tasks none four formed known =
    let alone : AreTasks false objects tasks = record { four = four; formed = formed; known = known; behind = tt } in
    subst (λ b. AreTasks b objects tasks) (sym none) alone

-- ---- in an application

pub has_number : (has_daemon : Bool) → is_some (daemon_number has_daemon) ≡ has_daemon
has_number true = refl
has_number false = refl

pub few_tasks : (has_daemon : Bool) (objects : List ObjectKind) (tasks : List Definition) → AreTasks has_daemon objects tasks
    → (1 ≤ length tasks) × (length tasks ≤ most_tasks)
few_tasks true objects tasks h = let five = h.behind.0 in (omega arith, omega arith)
few_tasks false objects tasks h = let four = h.four in (omega arith, omega arith)

is_endless_one : (objects : List ObjectKind) (o : Option Definition) → IsSomeAnd o (IsDaemonOf objects)
    → unwrap_or (option_map (λ (d : Definition). d.endless) o) false ≡ true
is_endless_one objects None h = absurd h
is_endless_one objects (Some d) h = h.endless

script_is : (objects : List ObjectKind) (o : Option Definition) → IsSomeAnd o (IsDaemonOf objects)
    → unwrap_or (option_map (λ (d : Definition). d.script) o) [] ≡ NextCommand (length objects - 1) ∷ Obey ∷ []
script_is objects None h = absurd h
script_is objects (Some d) h = h.script

is_queue : (o : Option ObjectKind) → IsSomeAnd o IsCommandQueue
    → unwrap_or (option_map (λ kind. fits {Item = ℕ} kind Receive) o) false ≡ true
is_queue None h = absurd h
is_queue (Some kind) h = h

pub is_daemon : (app : Application) (has_daemon : Bool)
    → app.daemon ≡ daemon_number has_daemon → EndsWithQueue has_daemon app.objects
    → AreTasks has_daemon app.objects app.tasks → IfSome app.daemon (IsDaemon app)
is_daemon app true is queue tasks =
    let daemon : IsDaemon app 4 = record {
      last = sym tasks.behind.0;
      some = omega arith;
      endless = is_endless_one app.objects _ tasks.behind.1;
      script = script_is app.objects _ tasks.behind.1;
      queue = is_queue _ queue;
    } in
    subst (λ o. IfSome o (IsDaemon app)) (sym is) daemon
is_daemon app false is queue tasks = subst (λ o. IfSome o (IsDaemon app)) (sym is) tt

pub four_of_file : (app : Application) (has_daemon : Bool) → app.daemon ≡ daemon_number has_daemon
    → AreTasks has_daemon app.objects app.tasks → length (of_file app.daemon app.tasks) ≡ 4
four_of_file app has_daemon is tasks = subst (λ o. length (of_file o app.tasks) ≡ 4) (sym is) tasks.four

pub known_of_file : (app : Application) (has_daemon : Bool) → app.daemon ≡ daemon_number has_daemon → app.group_count ≡ 2
    → 4 ≤ length app.variables → length app.handlers ≡ 3 → AreTasks has_daemon app.objects app.tasks
    → AllByRecursion (KnowsAll app) (of_file app.daemon app.tasks)
known_of_file app has_daemon is two more three tasks =
    let known : AllKnown app.objects (of_file app.daemon app.tasks) =
    subst (λ o. AllKnown app.objects (of_file o app.tasks)) (sym is) tasks.known in
    known_all app two (four_of_file app has_daemon is tasks) more three (of_file app.daemon app.tasks) known
