use Rattle.std.proofs.Common.{rules, length}
use Rattle.rows.specs.Report.{whole}
use Rattle.rows.proofs.Pieces.{each_piece}
use Rattle.rows.proofs.rendering.writing.write_report_in_threads.Goals as goal

pub write_rows_by-requires-clause-rendering : goal.write_rows_by-requires-clause-rendering
write_rows_by-requires-clause-rendering g c κs within =
    let rows = c.rows-rows.result.now in
    record {
      app = search rules;
      rows = search rules;
      sound = search rules;
      pieces = each_piece rows 0 (length (whole rows)) c.in-Some.pieces.items c.in-Some.ensures.pieces;
    }
