-- How much the tables of objects have room for.
use Rattle.std.specs.Prelude.{ℕ}

-- how many objects: the 32 that a file may have, and one more, for a queue that is in no file
abbrev pub object_places : ℕ
object_places = 33

-- the number of the last of them
abbrev pub last_place : ℕ
last_place = 32

-- how many items: 256 of each object
abbrev pub item_places : ℕ
item_places = 8448

-- how many waiting lists: two of each object
abbrev pub list_places : ℕ
list_places = 66
