use Rattle.std.proofs.Common.{◌≡◌, ◌∷◌, ◌++◌, ◌∙◌, [], sym}
use Rattle.machine.specs.Logged.{all_of}
use Rattle.campaign.specs.declared.meeting.visited_state.Passed.{Passed}
use Rattle.campaign.specs.Visited.{IsBehind}
use Rattle.campaign.proofs.Blocks.{pushed_at}
use Rattle.campaign.proofs.GoingOn.{all_more, behind_here}
use Rattle.campaign.proofs.meeting.runner.Runner.note.Goals as goal

pub returns-clause-passed : goal.returns-clause-passed
returns-clause-passed c = λ app limits all.
    let trail = all_of c.args.self.now.simulation.trail in
    let k = c.args.self.now.simulation.kernel in
    let p : Passed = record { kernel = c.in-Some.kernel; hint = c.args.hint; from = c.len-from.result } in
    let pushed : c.push.new.self.items ≡ c.args.self.now.passed.items ++ p ∷ [] =
    pushed_at c.push.result _ _ _ (sym c.is_err.ensures.value ∙ c.if-is_err.false) c.push.ensures.items in
    let same : c.in-Some.kernel.value ≡ k = c.in-Some.ensures in
    let here : IsBehind app limits trail k p = rw (sym same) (behind_here app limits trail p c.len-from.ensures) in
    rw pushed (all_more (IsBehind app limits trail k) c.args.self.now.passed.items p all here)
