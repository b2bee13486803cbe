-- Pieces that come one after the other: their texts joined are the text of all.
use Rattle.std.specs.Prelude.{Option}
use Rattle.std.specs.List.{AllByRecursion, flat_map}
use Rattle.std.proofs.Common.{◌≡◌, ◌≤◌, ◌+◌, ◌-◌, ℕ, List, [], ◌∷◌, ◌++◌, length, take, drop, sym, ap, ap₂, subst, ◌∙◌, arith}
use Rattle.std.proofs.lemmas.List.{drop-drop, drop-take, length-drop, length-take-le, take-append-drop, take-take, take_all}
use Rattle.byte_io.specs.Bytes.{Sent, SentFront}
use Rattle.model.specs.Application.{Application}
use Rattle.model.specs.Campaign.{Row}
use Rattle.report.proofs.Views.{shown-append}
use Rattle.report.specs.Views.{shown_rows}
use Rattle.report.specs.declared.view.View.{View}
use Rattle.rows.specs.declared.campaign_report.Rows.{Rows}
use Rattle.rows.specs.declared.rendering.piece.Piece.{Piece}
use Rattle.rows.specs.Report.{whole}
use Rattle.rows.specs.Pieces.{some_of, piece_text, ArePieces, IsPiece}
use Rattle.rows.proofs.Sending.{front_more, sent_more}

-- ---- some rows, and others behind them

-- two parts of a front
pub front_of_two : {A : Type 0} (xs : List A) (a b : ℕ) → take (a + b) xs ≡ take a xs ++ take b (drop a xs)
front_of_two xs a b =
    let within : a ≤ a + b = omega arith in
    sym (take-append-drop a (take (a + b) xs)) ∙ ap (λ ys. ys ++ drop a (take (a + b) xs)) (take-take a (a + b) xs within)
    ∙ ap (λ ys. take a xs ++ ys) (drop-take a b xs)

module _ {A : Type 0} (xs : List A) (from number count : ℕ) (low : from ≤ number) where
  pub some_more : take (number + count - from) (drop from xs) ≡ take (number - from) (drop from xs) ++ take count (drop number xs)
  some_more =
      let split : number + count - from ≡ (number - from) + count = omega arith in
      let back : from + (number - from) ≡ number = omega arith in
      ap (λ n. take n (drop from xs)) split ∙ front_of_two (drop from xs) (number - from) count
      ∙ ap (λ ys. take (number - from) (drop from xs) ++ take count ys)
      (drop-drop (number - from) from xs ∙ ap (λ n. drop n xs) back)

  pub some_count : number ≤ length xs → from + length (take (number - from) (drop from xs)) ≡ number
  some_count within =
      let left = length-drop from xs in
      let long = length-take-le (number - from) (drop from xs) (omega arith) in
      omega arith

-- a piece of which some rows went out; the first of all rows has a number of its own
module _ (app : Application) (view : View) (first : ℕ) (xs : List Row) (from number count total : ℕ)
    (low : from ≤ number) (high : number + count ≤ from + total) (within : from + total ≤ length xs)
    (a b c : Option (List ℕ)) (page mid : List ℕ)
    (sent : Sent a b (page ++ shown_rows app view (first + from) (some_of xs from (number - from))) mid) where
  its_number : first + from + length (some_of xs from (number - from)) ≡ first + number
  its_number = let there = some_count xs from number count low (omega arith) in omega (arith, there)

  pub some_sent : (kept : List ℕ) → Sent b c (mid ++ shown_rows app view (first + number) (some_of xs number count)) kept
      → Sent a c (page ++ shown_rows app view (first + from) (some_of xs from (number + count - from))) kept
  some_sent kept second =
      subst (λ (rs : List Row). Sent a c (page ++ shown_rows app view (first + from) rs) kept)
      (sym (some_more xs from number count low))
      (sent_more app view (first + from) (some_of xs from (number - from)) a b c page mid sent (some_of xs number count) kept
      (subst (λ n. Sent b c (mid ++ shown_rows app view n (some_of xs number count)) kept) (sym its_number) second))

  abbrev rest : ℕ
  rest = from + total - (number + count)

  all_of_it : some_of xs from total
      ≡ (some_of xs from (number - from) ++ some_of xs number count) ++ some_of xs (number + count) rest
  all_of_it =
      let end : (number + count) + (from + total - (number + count)) - from ≡ total = omega arith in
      ap (λ n. some_of xs from n) (sym end) ∙ some_more xs from (number + count) rest (omega arith)
      ∙ ap (λ rs. rs ++ some_of xs (number + count) rest) (some_more xs from number count low)

  pub some_stopped : SentFront b c (mid ++ shown_rows app view (first + number) (some_of xs number count))
      → SentFront a c (page ++ shown_rows app view (first + from) (some_of xs from total))
  some_stopped second =
      subst (λ (rs : List Row). SentFront a c (page ++ shown_rows app view (first + from) rs)) (sym all_of_it)
      (front_more app view (first + from) (some_of xs from (number - from)) a b c
      page mid sent (some_of xs number count) (some_of xs (number + count) rest)
      (subst (λ n. SentFront b c (mid ++ shown_rows app view n (some_of xs number count))) (sym its_number) second))

-- ---- all pieces

module _ (rows : Rows) where
  -- each is a piece
  pub each_piece : (first last : ℕ) (pieces : List Piece) → ArePieces rows first last pieces → AllByRecursion (IsPiece rows) pieces
  each_piece first last [] are = tt
  each_piece first last (p ∷ ps) are = (are.0, each_piece (first + p.count) last ps are.2)

  -- one more
  pub piece_more : (first mid last : ℕ) (pieces : List Piece) (p : Piece)
      → ArePieces rows first mid pieces → IsPiece rows p → p.from.number ≡ mid → mid + p.count ≡ last
      → ArePieces rows first last (pieces ++ p ∷ [])
  piece_more first mid last [] p are is from to = (is, from ∙ sym are, ap (λ n. n + p.count) are ∙ to)
  piece_more first mid last (q ∷ ps) p are is from to = (are.0, are.1, piece_more (first + q.count) mid last ps p are.2 is from to)

  -- The pieces rise, within the rows.
  pub pieces_rise : (first last : ℕ) (pieces : List Piece) → first ≤ length (whole rows)
      → ArePieces rows first last pieces → (first ≤ last) × (last ≤ length (whole rows))
  pieces_rise first last [] within are = (omega (arith, are), omega (arith, are, within))
  pieces_rise first last (p ∷ ps) within are =
      let piece = are.0.within in
      let from = are.1 in
      let rest = pieces_rise (first + p.count) last ps (omega arith) are.2 in
      (omega (arith, rest.0), rest.1)

  -- Their texts joined are the text of the rows from the first of them to the last.
  pub texts_joined : (app : Application) (from last : ℕ) (pieces : List Piece)
      → from ≤ length (whole rows) → ArePieces rows from last pieces
      → flat_map (piece_text app rows) pieces
      ≡ shown_rows app rows.view (rows.first + from) (some_of (whole rows) from (last - from))
  texts_joined app from last [] within are =
      let none : last - from ≡ 0 = omega (arith, are) in
      sym (ap (λ n. shown_rows app rows.view (rows.first + from) (some_of (whole rows) from n)) none)
  texts_joined app from last (p ∷ ps) within are =
      let text : ℕ → List Row → List ℕ = λ n rs. shown_rows app rows.view n rs in
      let next = from + p.count in
      let piece = are.0.within in
      let at = are.1 in
      let there : next ≤ length (whole rows) = omega arith in
      let rise = (pieces_rise next last ps there are.2).0 in
      let its : piece_text app rows p ≡ text (rows.first + from) (some_of (whole rows) from p.count) =
      ap (λ n. text (rows.first + n) (some_of (whole rows) n p.count)) at in
      let others = texts_joined app next last ps there are.2 in
      let one : next - from ≡ p.count = omega arith in
      let end : next + (last - next) - from ≡ last - from = omega arith in
      let both : some_of (whole rows) from (last - from)
      ≡ some_of (whole rows) from p.count ++ some_of (whole rows) next (last - next) =
      sym (ap (some_of (whole rows) from) end) ∙ some_more (whole rows) from next (last - next) (omega arith)
      ∙ ap (λ n. some_of (whole rows) from n ++ some_of (whole rows) next (last - next)) one in
      let count : from + length (some_of (whole rows) from p.count) ≡ next =
      sym (ap (λ n. from + length (some_of (whole rows) from n)) one) ∙ some_count (whole rows) from next 0 (omega arith) there in
      let number : rows.first + from + length (some_of (whole rows) from p.count) ≡ rows.first + next = omega (arith, count) in
      ap (λ t. t ++ flat_map (piece_text app rows) ps) its
      ∙ ap (λ t. text (rows.first + from) (some_of (whole rows) from p.count) ++ t) others
      ∙ sym (ap (text (rows.first + from)) both
      ∙ shown-append app rows.view (rows.first + from) (some_of (whole rows) from p.count) (some_of (whole rows) next (last - next))
      ∙ ap (λ n. text (rows.first + from) (some_of (whole rows) from p.count) ++ text n (some_of (whole rows) next (last - next)))
      number)

  -- The texts of all pieces joined are the text of all rows.
  pub text_of_all : (app : Application) (pieces : List Piece) → ArePieces rows 0 (length (whole rows)) pieces
      → flat_map (piece_text app rows) pieces ≡ shown_rows app rows.view rows.first (whole rows)
  text_of_all app pieces are =
      let start : rows.first + 0 ≡ rows.first = omega arith in
      texts_joined app 0 (length (whole rows)) pieces (omega arith) are
      ∙ ap₂ (λ (n : ℕ) (rs : List Row). shown_rows app rows.view n rs) start
      (take_all (length (whole rows) - 0) (whole rows) (omega arith))
