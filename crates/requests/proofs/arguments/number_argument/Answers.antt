use Rattle.std.proofs.Common.{rules, arith, ap, ◌∙◌, ◌≡◌, ℕ, ◌<◌, ◌^◌, pos, Some}
use Rattle.std.proofs.lemmas.Bool.Decides.{nat_tests}
use Rattle.std.specs.Int.{int_min}
use Rattle.clap.specs.declared.builder.value_parser.ValueParser.{ValueParser}
use Rattle.clap.specs.declared.builder.value_parser.ValueParser.TheVariants.{Signed}
use Rattle.clap.specs.Words.{NarrowsTo, signed_between}
use Rattle.requests.proofs.arguments.number_argument.Goals as goal

-- A number of 32 bits is not above the greatest one.
least : (most : ℕ) → most < 2 ^ 32 → int_min (pos 4294967295) (pos most) ≡ pos most
least most fits = grind (arith, nat_tests)

-- what the range makes of the parser of such numbers
narrowed : (most : ℕ) (p r : ValueParser) → most < 2 ^ 32 → p ≡ Signed (pos 0) (pos 4294967295)
    → NarrowsTo p (Some (pos 1)) (Some (pos most)) r → r ≡ Signed (pos 1) (pos most)
narrowed most p r fits is narrows =
    let at : r ≡ signed_between (pos 1) (int_min (pos 4294967295) (pos most)) = rw is at narrows in
    at ∙ ap (λ i. signed_between (pos 1) i) (least most fits)

pub returns : goal.returns
returns c =
    let parsed : c.range.result ≡ Signed (pos 1) (pos c.args.most) =
    narrowed c.args.most c.value_parser.result c.range.result (omega arith) (search rules) (search rules) in
    record { reads = search rules; is_local = search rules }
