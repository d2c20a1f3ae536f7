-- A generated trace, byte for byte. Numbers are decimal, and each line ends with a newline.
use Rattle.std.specs.Prelude.{ℕ, ◌+◌, ◌-◌, ◌/◌, ◌%◌, ◌==◌, max, List, [], ◌++◌, if◌then◌else◌, codes, decimal}
use Rattle.std.specs.List.{flat_map, range_with_len}
use Rattle.generator.specs.Draws.{draw_of, state_after}

-- ---- lines

-- a new object of 3 slots, whose type is T and a digit from 0 to 3
unfoldable pub alloc_line : ℕ → ℕ → List ℕ
alloc_line id kind =
    codes "{\"op\":\"alloc\",\"id\":" ++ decimal id ++ codes ",\"type\":\"T" ++ decimal kind ++ codes "\",\"slots\":3}\n"

-- the only root holds the first object
unfoldable pub root_line : List ℕ
root_line = codes "{\"op\":\"root\",\"name\":\"main\",\"to\":1}\n"

-- the only root is taken away
unfoldable pub no_root_line : List ℕ
no_root_line = codes "{\"op\":\"root\",\"name\":\"main\",\"to\":null}\n"

-- the object `at` holds the object `to` in this slot
unfoldable pub store_line : ℕ → ℕ → ℕ → List ℕ
store_line at slot to =
    codes "{\"op\":\"store\",\"at\":" ++ decimal at ++ codes ",\"slot\":" ++ decimal slot ++ codes ",\"to\":" ++ decimal to ++ codes "}\n"

unfoldable pub unshared_line : ℕ → List ℕ
unshared_line id = codes "{\"op\":\"assert-unshared\",\"id\":" ++ decimal id ++ codes "}\n"

unfoldable pub owned_line : ℕ → ℕ → List ℕ
owned_line owner ownee =
    codes "{\"op\":\"assert-ownedby\",\"owner\":" ++ decimal owner ++ codes ",\"ownee\":" ++ decimal ownee ++ codes "}\n"

-- at most so many objects of the type T0
unfoldable pub limit_line : ℕ → List ℕ
limit_line limit = codes "{\"op\":\"assert-instances\",\"type\":\"T0\",\"limit\":" ++ decimal limit ++ codes "}\n"

unfoldable pub dead_line : ℕ → List ℕ
dead_line id = codes "{\"op\":\"assert-dead\",\"id\":" ++ decimal id ++ codes "}\n"

unfoldable pub collect_line : List ℕ
collect_line = codes "{\"op\":\"collect\"}\n"

-- ---- an object

-- The root holds the first object. Any other is held by the object of half its id, in slot 0 or 1, unless a multiple of 16
-- was drawn for it.
unfoldable pub held_line : ℕ → ℕ → List ℕ
held_line id draw =
    if id == 1 then root_line
    else (if draw % 16 == 0 then [] else store_line (id / 2) (id % 2) id)

-- what the object holds in slot 2: an object with an id up to its own
unfoldable pub holds_line : ℕ → ℕ → List ℕ
holds_line id draw = store_line id 2 (1 + draw % id)

-- four kinds of assertion, which take turns
unfoldable pub turn_line : ℕ → ℕ → List ℕ
turn_line turn id =
    if turn == 1 then unshared_line id
    else (if turn == 2 then owned_line (id / 2) id
    else (if turn == 3 then limit_line (id / 4) else dead_line id))

-- from one assertion to the next there are so many objects
abbrev pub gap : ℕ → ℕ
gap size = max 1 (size / 8)

-- an assertion about the object, where its id is a multiple of the gap
unfoldable pub assertion_line : ℕ → ℕ → List ℕ
assertion_line size id = if id % gap size == 0 then turn_line (id / gap size % 4) id else []

-- the lines of an object, by what was drawn for it
unfoldable pub lines_by : ℕ → ℕ → ℕ → List ℕ
lines_by size id draw = alloc_line id (draw % 4) ++ held_line id draw ++ holds_line id draw ++ assertion_line size id

-- The lines of the object with this id: the id says how many draws there were, its own the last.
abbrev pub object_lines : ℕ → ℕ → ℕ → List ℕ
object_lines number size id = lines_by size id (draw_of (state_after id number))

-- ---- the trace

-- two collections, the second without the root
unfoldable pub last_lines : List ℕ
last_lines = collect_line ++ no_root_line ++ collect_line

-- what comes after the lines of so many objects
abbrev pub text_after : ℕ → ℕ → ℕ → List ℕ
text_after number size made =
    flat_map (object_lines number size) (range_with_len (made + 1) (size - made)) ++ last_lines

-- The trace of this number with so many objects: the lines of the objects 1 to `size`, and the last lines.
abbrev pub gen_text : ℕ → ℕ → List ℕ
gen_text number size = flat_map (object_lines number size) (range_with_len 1 size) ++ last_lines
