-- Which entry a name in an op's text is that of.
use Rattle.std.specs.Prelude.{Bool, ◌&&◌, map}
use Rattle.std.specs.List.{position_from}
use Rattle.std.specs.Str.{bytes_eq}
use Rattle.grammar.specs.declared.object_sort.ObjectSort.{ObjectSort}
use Rattle.grammar.specs.Names.{index_of}
use Rattle.grammar.specs.Finding.{is_of_sort}
use Rattle.grammar.specs.Grammar.{Word, Naming, OfObject, OfGroup, OfTask, OfVariable, OfHandler}
use Rattle.script.specs.Entries.{ObjectEntry, GroupEntry, VariableEntry, Raw, Entries, isr_names}

-- It is an object of this sort and this name.
abbrev pub is_called : ObjectSort → Word → ObjectEntry → Bool
is_called sort w o = is_of_sort sort o.kind && bytes_eq o.name w

-- A name is that of one of these entries, which is of the sort that the op asks for.
abbrev pub among : Entries → Naming
among entries (OfObject sort) w = position_from (is_called sort w) 0 entries.objects
among entries OfGroup w = index_of w (map (λ (g : GroupEntry). g.name) entries.groups)
among entries OfTask w = index_of w (map (λ (t : Raw). t.name) entries.tasks)
among entries OfVariable w = index_of w (map (λ (v : VariableEntry). v.name) entries.variables)
among entries OfHandler w = index_of w (isr_names entries)
