use Rattle.std.proofs.Common.{◌≡◌, ◌≤◌, ◌+◌, ◌∙◌, ap, length, sym, arith}
use Rattle.rows.specs.Report.{whole}
use Rattle.rows.specs.Pieces.{some_of}
use Rattle.rows.specs.declared.rows.Part.{Part}
use Rattle.rows.proofs.Cursors.{enough, its_place, over_at, over_place, over_rows}
use Rattle.rows.proofs.Totalling.{got, same_part, within_list}
use Rattle.rows.proofs.cursor.Cursor.take.Goals as goal

pub index-requires : goal.index-requires
index-requires c =
    let e = c.leave_ended-place.ensures in
    let rows = c.args.rows.now in
    let place = c.leave_ended-place.result in
    let is = its_place rows c.leave_ended-place.new.self e.at c.requires.sound place e.within e.place in
    omega (arith, rows.parts.ok, within_list rows.parts.items place.part is.part is.at_part)

pub overflow_add-first : goal.overflow_add-first
overflow_add-first c =
    let e = c.leave_ended-place.ensures in
    let rows = c.args.rows.now in
    let place = c.leave_ended-place.result in
    let is = its_place rows c.leave_ended-place.new.self e.at c.requires.sound place e.within e.place in
    let there =
    got rows.parts.items place.part c.index.result.now
    (within_list rows.parts.items place.part is.part is.at_part) c.index.ensures in
    let same : is.part ≡ c.index.result.now = same_part is.part c.index.result.now (sym is.at_part ∙ there) in
    let long = ap (λ (p : Part). length p.kept) same in
    let within = is.within in
    let count = c.len.ensures.value in
    let fits = c.len.ensures.fits in
    let row = e.row in
    omega arith

pub overflow_add-self-2 : goal.overflow_add-self-2
overflow_add-self-2 c =
    let e = c.leave_ended-place.ensures in
    let row = e.row in
    let some : c.leave_ended-place.new.self.row + c.min-count.result ≤ c.leave_ended-place.result.count = grind arith in
    let within =
    enough c.args.rows.now c.leave_ended-place.new.self e.at c.requires.sound
    c.leave_ended-place.result e.within e.place c.min-count.result some in
    let few = c.requires.sound.few in
    omega arith

pub returns-clause-at : goal.returns-clause-at
returns-clause-at c =
    let e = c.leave_ended-place.ensures in
    let row = e.row in
    let some : c.leave_ended-place.new.self.row + c.min-count.result ≤ c.leave_ended-place.result.count = grind arith in
    over_at c.args.rows.now c.leave_ended-place.new.self e.at c.requires.sound
    c.leave_ended-place.result e.within e.place c.min-count.result some

pub returns-clause-place : goal.returns-clause-place
returns-clause-place c =
    let e = c.leave_ended-place.ensures in
    let row = e.row in
    let some : c.leave_ended-place.new.self.row + c.min-count.result ≤ c.leave_ended-place.result.count = grind arith in
    over_place c.args.rows.now c.leave_ended-place.new.self e.at c.requires.sound
    c.leave_ended-place.result e.within e.place c.min-count.result some

pub returns-clause-rows : goal.returns-clause-rows
returns-clause-rows c =
    let e = c.leave_ended-place.ensures in
    let row = e.row in
    let some : c.leave_ended-place.new.self.row + c.min-count.result ≤ c.leave_ended-place.result.count = grind arith in
    over_rows c.args.rows.now c.leave_ended-place.new.self e.at c.requires.sound
    c.leave_ended-place.result e.within e.place c.min-count.result some
    ∙ ap (λ n. some_of (whole c.args.rows.now) n c.min-count.result) e.number
