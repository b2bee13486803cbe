-- What the words of a campaign say of its report: which rows of which part are written, and how much of each.
use Rattle.std.specs.Prelude.{ℕ, ◌==◌, ◌||◌, ◌&&◌, Bool, true, false, List, [], ◌∷◌, length, nat_lt, codes, Option, Some, None}
use Rattle.std.specs.Prelude.{option_map, if◌then◌else◌}
use Rattle.std.specs.List.{list_all, slice_split}
use Rattle.std.specs.Char.{digit_value}
use Rattle.std.specs.Option.{option_and_then}
use Rattle.std.specs.Str.{bytes_eq}
use Rattle.std.specs.Str.Parse.{digits_value}
use Rattle.clap.specs.Words.{Text}
use Rattle.model.specs.Scripts.{is_within}
use Rattle.report.specs.Shards.{Shard, most_shards}
use Rattle.report.specs.Views.{failing}
use Rattle.report.specs.declared.view.Ends.{Ends}

-- ---- lists of ends

abbrev pub no_end : Ends
no_end = record { pass = false; check = false; misuse = false; ticks = false; steps = false; stuck = false }

-- the ends that a word of a list means
abbrev pub ends_named : Text → Option Ends
ends_named word =
    if bytes_eq word (codes "pass") then Some (record no_end { pass = true })
    else if bytes_eq word (codes "check") then Some (record no_end { check = true })
    else if bytes_eq word (codes "misuse") then Some (record no_end { misuse = true })
    else if bytes_eq word (codes "ticks") then Some (record no_end { ticks = true })
    else if bytes_eq word (codes "steps") then Some (record no_end { steps = true })
    else if bytes_eq word (codes "stuck") then Some (record no_end { stuck = true })
    else if bytes_eq word (codes "failing") then Some failing
    else None

-- the ends of either
abbrev pub either : Ends → Ends → Ends
either a b = record {
  pass = a.pass || b.pass;
  check = a.check || b.check;
  misuse = a.misuse || b.misuse;
  ticks = a.ticks || b.ticks;
  steps = a.steps || b.steps;
  stuck = a.stuck || b.stuck;
}

-- those that one word or more mean
abbrev pub ends_listed : List Text → Option Ends
ends_listed [] = None
ends_listed (word ∷ []) = ends_named word
ends_listed (word ∷ words) = option_and_then (λ ends. option_map (either ends) (ends_listed words)) (ends_named word)

-- those of a list, whose words are joined by commas
abbrev pub ends_of : Text → Option Ends
ends_of list = ends_listed (slice_split (λ b. b == 44) list)

-- ---- shards

-- The text is decimal digits.
abbrev pub is_numeral : Text → Bool
is_numeral text = nat_lt 0 (length text) && list_all (λ digit. nat_lt (digit_value digit) 10) text

-- the number that decimal digits spell
abbrev pub spelled : Text → Option ℕ
spelled text = if is_numeral text then Some (digits_value 10 text) else None

-- the part of this number, of this many parts, if there is such a one
abbrev pub shard_of : Option ℕ → Option ℕ → Option Shard
shard_of (Some number) (Some count) =
    if is_within 1 count number && is_within 1 most_shards count then Some (record { number = number; count = count }) else None
shard_of number count = None

abbrev pub shard_in : List Text → Option Shard
shard_in (number ∷ count ∷ []) = shard_of (spelled number) (spelled count)
shard_in parts = None

-- the shard of a text `I/N`
abbrev pub shard_named : Text → Option Shard
shard_named text = shard_in (slice_split (λ b. b == 47) text)
