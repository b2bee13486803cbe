-- Pieces of a report's rows: rows that come one after the other, and their texts.
use Rattle.std.specs.Prelude.{◌≡◌, ℕ, ◌+◌, ◌≤◌, false, List, [], ◌∷◌, length, take, drop, slice_index_or}
use Rattle.std.specs.List.{AllByRecursion, flat_map}
use Rattle.rtrb.specs.Ring.{sent, received, IsPair, SameConsumer}
use Rattle.byte_io.specs.Buffers.{bytes_of, buffer_failed}
use Rattle.model.specs.Application.{Application}
use Rattle.model.specs.Campaign.{Row}
use Rattle.report.specs.Views.{shown_rows}
use Rattle.rows.specs.declared.campaign_report.Rows.{Rows}
use Rattle.rows.specs.declared.cursor.Cursor.{Cursor}
use Rattle.rows.specs.declared.rendering.inbox.Inbox.{Inbox}
use Rattle.rows.specs.declared.rendering.piece.Piece.{Piece}
use Rattle.rows.specs.declared.rendering.renderer.Rendered.{Rendered}
use Rattle.rows.specs.declared.rendering.renderer.Renderer.{Renderer}
use Rattle.rows.specs.declared.rendering.renderer.Rendering.{Rendering}
use Rattle.rows.specs.Report.{rows_at, whole, IsSound}

-- The rows after the cursor are those of its place, without the first `row` of them, and those of the places after it.
pub record IsAt (rows : Rows) (cursor : Cursor) : Type 0 where
  pub within : cursor.number ≤ length (whole rows)
  pub behind : drop cursor.number (whole rows)
      ≡ drop cursor.row (flat_map (rows_at rows.base rows.parts.items) (drop cursor.place rows.places.items))

-- this many rows, from the one of this number on
abbrev pub some_of : List Row → (number count : ℕ) → List Row
some_of rows number count = take count (drop number rows)

-- A piece of the rows.
pub record IsPiece (rows : Rows) (piece : Piece) : Type 0 where
  pub at : IsAt rows piece.from
  pub within : piece.from.number + piece.count ≤ length (whole rows)

-- its rows
abbrev pub piece_rows : Rows → Piece → List Row
piece_rows rows piece = some_of (whole rows) piece.from.number piece.count

-- its text, in the view of the rows
abbrev pub piece_text : Application → Rows → Piece → List ℕ
piece_text app rows piece = shown_rows app rows.view (rows.first + piece.from.number) (piece_rows rows piece)

-- The pieces come one after the other, from the row of this number on, up to that one.
abbrev pub ArePieces : Rows → (first last : ℕ) → List Piece → Type 0
ArePieces rows first last [] = first ≡ last
ArePieces rows first last (piece ∷ others) =
    IsPiece rows piece × (piece.from.number ≡ first) × ArePieces rows (first + piece.count) last others

-- ---- texts that renderers hand on

-- The texts are those of these rows, of this application, and the pieces are pieces of the rows.
pub record IsRendering (rendering : Rendering) : Type 0 where
  pub app : rendering.texts.app ≡ rendering.app.now
  pub rows : rendering.texts.rows ≡ rendering.rows.now
  pub sound : IsSound rendering.rows.now
  pub pieces : AllByRecursion (IsPiece rendering.rows.now) rendering.pieces.items

-- the text of a piece
abbrev pub text_of : Rendering → Piece → List ℕ
text_of rendering piece = piece_text rendering.texts.app rendering.rows.now piece

-- The buffer has the text of the piece of its number, unless it failed.
abbrev pub IsRight : Rendering → Rendered → Type 0
IsRight rendering text = (piece : Piece) → piece ≡ slice_index_or rendering.pieces.items text.number piece
    → buffer_failed text.buffer ≡ false → bytes_of text.buffer ≡ text_of rendering piece

-- All texts that a renderer has handed on are right, and all that have arrived at an inbox.
abbrev pub HasSent : Rendering → Renderer → Type 0
HasSent rendering renderer = AllByRecursion (IsRight rendering) (sent renderer.rendered)

abbrev pub HasReceived : Rendering → Inbox → Type 0
HasReceived rendering inbox = AllByRecursion (IsRight rendering) (received inbox.rendered)

abbrev pub HaveSent : Rendering → List Renderer → Type 0
HaveSent rendering renderers = AllByRecursion (HasSent rendering) renderers

abbrev pub HaveReceived : Rendering → List Inbox → Type 0
HaveReceived rendering inboxes = AllByRecursion (HasReceived rendering) inboxes

-- Renderers that have handed nothing on.
abbrev pub AreFresh : List Renderer → Type 0
AreFresh renderers = AllByRecursion (λ (renderer : Renderer). sent renderer.rendered ≡ []) renderers

-- Each inbox is that of the renderer of its place.
abbrev pub ArePairs : List Renderer → List Inbox → Type 0
ArePairs [] [] = Unit {0}
ArePairs [] (inbox ∷ inboxes) = ⊥
ArePairs (renderer ∷ renderers) [] = ⊥
ArePairs (renderer ∷ renderers) (inbox ∷ inboxes) = IsPair renderer.rendered inbox.rendered × ArePairs renderers inboxes

-- What becomes of an inbox: it stays with its renderer, and what has arrived there has arrived.
pub record GoesOn (old new : Inbox) : Type 0 where
  pub ring : SameConsumer old.rendered new.rendered
  pub received : (rendering : Rendering) → HasReceived rendering new → HasReceived rendering old

-- the same of several
pub record GoOn (old new : List Inbox) : Type 0 where
  pub pairs : (renderers : List Renderer) → ArePairs renderers old → ArePairs renderers new
  pub received : (rendering : Rendering) → HaveReceived rendering new → HaveReceived rendering old
