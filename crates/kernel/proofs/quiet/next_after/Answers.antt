use Rattle.std.proofs.Common.{leb, arith, rules}
use Rattle.std.proofs.lemmas.Bool.Decides.{nat_tests}
use Rattle.std.proofs.lemmas.List.Sorted.{IsPartitionPoint-from_clause, IsPartitionedBy-leb}
use Rattle.model.specs.Application.{Interrupt}
use Rattle.kernel.proofs.quiet.next_after.Goals as goal

pub returns-clause-early : goal.returns-clause-early
returns-clause-early c = λ k d less.
    let first =
    IsPartitionPoint-from_clause (λ (i : Interrupt). leb i.tick c.args.tick) c.args.interrupts.now c.partition_point.result
    c.partition_point.ensures.partitioned
    (IsPartitionedBy-leb (λ (i : Interrupt). i.tick) c.args.interrupts.now c.args.tick c.requires) (λ a r q k. search rules) in
    let low = first.0 k d (omega arith) less in
    grind (arith, nat_tests)

pub returns-clause-late : goal.returns-clause-late
returns-clause-late c = λ k d from within.
    let first =
    IsPartitionPoint-from_clause (λ (i : Interrupt). leb i.tick c.args.tick) c.args.interrupts.now c.partition_point.result
    c.partition_point.ensures.partitioned
    (IsPartitionedBy-leb (λ (i : Interrupt). i.tick) c.args.interrupts.now c.args.tick c.requires) (λ a r q k. search rules) in
    let high = first.1 k d from within in
    grind (arith, nat_tests)
