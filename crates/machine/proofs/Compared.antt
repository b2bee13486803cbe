-- Two calls that a comparison finds to be the same.
use denote.Enum.Bare.{sameb, same_true}
use mathlib.Core.Bool.{beq}
use Rattle.std.proofs.Common.{Bool, rules}
use Rattle.std.specs.Prelude.{◌&&◌, nat_eq}
use Rattle.std.specs.Option.{option_eq}
use Rattle.std.proofs.lemmas.Bool.{and_parts}
use Rattle.model.specs.contracts.call.Phase.{the_type}
use Rattle.model.specs.declared.call.CallProgress.{CallProgress}
use Rattle.lists.proofs.Compared.{TellsSame, same_flag, same_number, same_option}
use Rattle.groups.proofs.Compared.{condition_eq, same_condition}

-- the test of two calls: from each part on
abbrev from_wants : CallProgress → CallProgress → Bool
from_wants x y = option_eq condition_eq x.wants y.wants && option_eq nat_eq x.kept y.kept

abbrev from_waits : CallProgress → CallProgress → Bool
from_waits x y = beq x.waits y.waits && (beq x.inherited y.inherited && from_wants x y)

abbrev pub call_eq : CallProgress → CallProgress → Bool
call_eq x y = sameb the_type x.phase y.phase && (option_eq nat_eq x.deadline y.deadline && from_waits x y)

pub same_call : TellsSame call_eq
same_call x y told =
    let start = and_parts (sameb the_type x.phase y.phase) (option_eq nat_eq x.deadline y.deadline && from_waits x y) told in
    let phase = same_true the_type (search rules) x.phase y.phase start.0 in
    let until = and_parts (option_eq nat_eq x.deadline y.deadline) (from_waits x y) start.1 in
    let deadline = same_option nat_eq same_number x.deadline y.deadline until.0 in
    let wait = and_parts (beq x.waits y.waits) (beq x.inherited y.inherited && from_wants x y) until.1 in
    let waits = same_flag x.waits y.waits wait.0 in
    let rank = and_parts (beq x.inherited y.inherited) (from_wants x y) wait.1 in
    let inherited = same_flag x.inherited y.inherited rank.0 in
    let bits = and_parts (option_eq condition_eq x.wants y.wants) (option_eq nat_eq x.kept y.kept) rank.1 in
    let wants = same_option condition_eq same_condition x.wants y.wants bits.0 in
    let kept = same_option nat_eq same_number x.kept y.kept bits.1 in
    λ i. record { phase = phase i; deadline = deadline i; waits = waits i; inherited = inherited i; wants = wants i; kept = kept i }
