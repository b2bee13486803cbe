use Rattle.std.proofs.Common.{◌≡◌, []}
use Rattle.rows.proofs.rendering.row_texts.RowTexts.add_parts.Given as goal

abbrev pub invariant-loop-number : goal.invariant-loop-number
invariant-loop-number l = record {
  same : l.self ≡ l.fn.self;
  rows : l.rows ≡ l.fn.self.rows;
  app : l.report.app ≡ l.fn.app;
  empty : l.report.page ≡ [];
}
