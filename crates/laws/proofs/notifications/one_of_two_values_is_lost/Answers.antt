use Rattle.laws.proofs.Notifying.{first_is_kept, keep_refused, kept_as_it_is, second_overwrites}
use Rattle.laws.proofs.notifications.one_of_two_values_is_lost.Goals as goal

pub returns-clause-overwrite : goal.returns-clause-overwrite
returns-clause-overwrite c = second_overwrites

pub returns-clause-keep : goal.returns-clause-keep
returns-clause-keep c = first_is_kept

pub returns-clause-kept : goal.returns-clause-kept
returns-clause-kept c = kept_as_it_is

pub returns-clause-refused : goal.returns-clause-refused
returns-clause-refused c = keep_refused
