use Rattle.std.proofs.Common.{ap, rules, Err}
use Rattle.campaign.proofs.Faulty.{reading_failed}
use Rattle.campaign.proofs.file.app_of.Goals as goal

pub returns-in_err-bytes-clause-app : goal.returns-in_err-bytes-clause-app
returns-in_err-bytes-clause-app g c =
    let k = reading_failed (g.R.Source.left c.args.reader.now) _ (λ e. c.in_err-bytes.ensures.memory (ap Err e)) in
    (k.0, k.1, search rules)
