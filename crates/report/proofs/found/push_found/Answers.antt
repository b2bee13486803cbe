use Rattle.std.proofs.Common.{◌++◌, codes, decimal}
use Rattle.report.specs.Found.{placement_text, placements_text}
use Rattle.report.specs.Text.{verdict_text}
use Rattle.report.proofs.Adding.{added}
use Rattle.report.proofs.found.push_found.Goals as goal

pub returns : goal.returns
returns c =
    let start = c.args.page.now in
    let verdict = verdict_text c.args.app.now c.args.ending.end in
    let to_colon = added start verdict _ (codes ": ") _ c.push_verdict.ensures.text c.push_array.ensures.text in
    let colon = verdict ++ codes ": " in
    let number = placements_text c.args.number in
    let to_number = added start colon _ number _ to_colon c.push_placements.ensures.text in
    let least = colon ++ number in
    let to_least = added start least _ (codes ", least is ") _ to_number c.push_array-2.ensures.text in
    let injections = placement_text c.args.app.now c.args.least.now in
    let placed = least ++ codes ", least is " in
    let to_placed = added start placed _ injections _ to_least c.push_placement.ensures.text in
    let whole = placed ++ injections in
    let to_in = added start whole _ (codes " in ") _ to_placed c.push_array-3.ensures.text in
    let steps = decimal c.args.ending.steps in
    let to_steps = added start (whole ++ codes " in ") _ steps _ to_in c.push_number.ensures.text in
    let stepped = (whole ++ codes " in ") ++ steps in
    let to_comma = added start stepped _ (codes " steps, ") _ to_steps c.push_array-4.ensures.text in
    let ticks = decimal c.args.ending.ticks in
    let to_ticks = added start (stepped ++ codes " steps, ") _ ticks _ to_comma c.push_long_number.ensures.text in
    added start ((stepped ++ codes " steps, ") ++ ticks) _ (codes " ticks\n") _ to_ticks c.push_array-5.ensures.text
