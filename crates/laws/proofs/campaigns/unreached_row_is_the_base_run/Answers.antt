use Rattle.laws.proofs.campaigns.unreached_row_is_the_base_run.Goals as goal

pub returns : goal.returns
returns c app limits point run row = row.0
