use Rattle.std.proofs.Common.{◌≡◌, ℕ, ◌+◌, ◌≤◌, List, ◌++◌, length, take, arith, sym, ◌∙◌, ap}
use Rattle.std.proofs.Math.Seq.{take-append-add}
use Rattle.std.proofs.lemmas.List.{take-append-le, length-take}
use Rattle.byte_io.proofs.place.put_front.Goals as goal

front_put : (page text rest : List ℕ) (at count : ℕ) → at ≤ length page → count ≤ length text
    → take (at + count) (take at page ++ (text ++ rest)) ≡ take at page ++ take count text
front_put page text rest at count within few =
    let len : length (take at page) ≡ at = omega (arith, length-take at page) in
    rw (← take-append-le count text rest few) (ap (λ n. take (n + count) (take at page ++ (text ++ rest))) (sym len)
    ∙ take-append-add (take at page) (text ++ rest) count)

pub returns-clause-text : goal.returns-clause-text
returns-clause-text g c =
    let is = c.assign.ensures in
    let t = c.told-text in
    rw is (front_put c.args.bytes.now c.args.text.now _ c.args.at c.args.count
    (omega (arith, c.requires.room)) (omega (arith, c.requires.count, t)))
