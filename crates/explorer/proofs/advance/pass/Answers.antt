use Rattle.std.proofs.Common.{◌≡◌, ◌+◌, ◌*◌, ◌<◌, ◌^◌, ◌∙◌, Global, List, Vec, ap, arith, length, refl, subst, sym}
use Rattle.model.specs.State.{State}
use Rattle.model.specs.Run.{end_of}
use Rattle.machine.specs.declared.machine.Machine.{Machine}
use Rattle.machine.specs.StandsFor.{Stands}
use Rattle.explorer.specs.declared.frontier.Frontier.{Frontier}
use Rattle.explorer.specs.declared.layer.Node.{Node}
use Rattle.explorer.specs.Layers.{HasWay, count_of}
use Rattle.explorer.specs.Questions.{GoOnBy, app_in, batch_of, handlers_in, levels_in, limits_in, nows_in}
use Rattle.explorer.specs.Totals.{placements_in}
use Rattle.explorer.proofs.Holding.{holds_alike, numbers_few}
use Rattle.explorer.proofs.Passing.{goes_if, passes_ended, passes_going}
use Rattle.explorer.proofs.Results.{on_ok}
use Rattle.explorer.proofs.advance.pass.Goals as goal

pub count_end-requires : goal.count_end-requires
count_end-requires c =
    let room = c.requires.found in
    numbers_few c.args.frontier.now.findings.items c.args.node.count (2 ^ 128) (omega (arith, room))

pub go_on-requires : goal.go_on-requires
go_on-requires c =
    let block = c.args.block.now in
    let app = app_in block in
    let limits = limits_in block in
    let node = c.args.node in
    let restored : c.restore.new.self ≡ node.kernel.value = c.restore.ensures ∙ c.deref.ensures in
    let way : HasWay app limits c.restore.new.self node.least =
    subst (λ (k : Machine). HasWay app limits k node.least) (sym restored) c.requires.way in
    let kept : c.keep_memory.new.self.nodes.items ≡ c.args.frontier.now.live.nodes.items =
    ap (λ (ns : Vec Node Global). ns.items) c.keep_memory.ensures in
    let steps : c.restore.new.self.steps ≡ node.kernel.value.steps = ap (λ (k : Machine). k.steps) restored in
    let ahead = c.requires.ahead in
    record {
      going = record {
        way = way;
        goes = goes_if app limits c.restore.new.self node.least way c.ended.result c.ended.ensures c.in-None.is;
        ahead = omega (arith, steps, ahead);
      };
      choices = c.requires.choices;
      left = c.requires.left;
      room =
          subst (λ (nodes : List Node). count_of nodes + count_of c.args.frontier.now.spent.nodes.items
          + placements_in c.args.frontier.now.findings.items + length (nows_in block node.least) * node.count < 2 ^ 128)
          (sym kept) c.requires.room;
    }

pub returns-in-None : goal.returns-in-None
returns-in-None c =
    let block = c.args.block.now in
    let app = app_in block in
    let limits = limits_in block in
    let node = c.args.node in
    let k = node.kernel.value in
    let old = c.args.frontier.now in
    let mid : Frontier = record old { live = c.keep_memory.new.self } in
    let restored : c.restore.new.self ≡ k = c.restore.ensures ∙ c.deref.ensures in
    let ends : (s : State) → Stands k s → c.ended.result ≡ end_of app limits s =
    subst (λ (j : Machine). (s : State) → Stands j s → c.ended.result ≡ end_of app limits s) restored c.ended.ensures in
    on_ok c.go_on.result
    (λ takes.
    let from_mid : GoOnBy block k (batch_of node) (nows_in block node.least) mid c.go_on.new.frontier =
    subst (λ (j : Machine). GoOnBy block j (batch_of node) (nows_in block node.least) mid c.go_on.new.frontier) restored takes in
    passes_going app limits (handlers_in block) (levels_in block) block.until node c.ended.result ends c.in-None.is old
    c.go_on.new.frontier
    (λ handlers n more total at h.
    from_mid handlers n more total at (holds_alike app limits handlers (levels_in block) (n + 1) block.until old mid total
    (ap (λ (ns : Vec Node Global). ns.items) c.keep_memory.ensures) refl refl h)))
    c.go_on.ensures

pub returns-in-Some : goal.returns-in-Some
returns-in-Some c =
    let block = c.args.block.now in
    let app = app_in block in
    let limits = limits_in block in
    let node = c.args.node in
    let k = node.kernel.value in
    let restored : c.restore.new.self ≡ k = c.restore.ensures ∙ c.deref.ensures in
    let ends : (s : State) → Stands k s → c.ended.result ≡ end_of app limits s =
    subst (λ (j : Machine). (s : State) → Stands j s → c.ended.result ≡ end_of app limits s) restored c.ended.ensures in
    let ticks : (s : State) → Stands k s → c.ticks.result ≡ s.elapsed =
    subst (λ (j : Machine). (s : State) → Stands j s → c.ticks.result ≡ s.elapsed) restored c.ticks.ensures in
    on_ok c.count_end.result
    (λ tallies.
    passes_ended app limits (handlers_in block) _ block.until node c.ended.result ends c.in-Some.end c.in-Some.is
    c.args.frontier.now _
    (record { injections = node.least; steps = c.steps.result; ticks = c.ticks.result; end = c.in-Some.end })
    node.count refl refl refl (c.steps.ensures ∙ ap (λ (j : Machine). j.steps) restored) ticks tallies
    (ap (λ (ns : Vec Node Global). ns.items) c.keep_memory.ensures) refl)
    c.count_end.ensures.tallies
