-- Two conditions that a comparison finds to be the same.
use mathlib.Core.Bool.{beq}
use Rattle.std.proofs.Common.{Bool, arith}
use Rattle.std.specs.Prelude.{◌&&◌, nat_eq}
use Rattle.model.specs.declared.call.Condition.{Condition}
use Rattle.lists.proofs.Compared.{TellsSame}

-- the test of two conditions
abbrev pub condition_eq : Condition → Condition → Bool
condition_eq x y = nat_eq x.mask y.mask && (beq x.all y.all && beq x.clear y.clear)

pub same_condition : TellsSame condition_eq
same_condition x y told = grind arith
