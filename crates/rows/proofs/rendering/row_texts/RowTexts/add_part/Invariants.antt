use Rattle.std.proofs.Common.{◌≡◌, []}
use Rattle.rows.proofs.rendering.row_texts.RowTexts.add_part.Given as goal

abbrev pub invariant-loop-number : goal.invariant-loop-number
invariant-loop-number l = record {
  same : l.self ≡ l.fn.self;
  app : l.report.app ≡ l.fn.report.app;
  empty : l.report.page ≡ [];
}
