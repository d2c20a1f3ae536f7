-- What a line of a snapshot says, and how it is written. A line is UTF-8; its words have a space between them, and a name is
-- the rest of its line.
use Rattle.std.specs.Prelude.{ℕ, ◌==◌, ◌^◌, List, [], ◌∷◌, ◌++◌, length, Bool, ◌&&◌, nat_lt, if◌then◌else◌, Option, None, Some, codes, decimal}
use Rattle.std.specs.List.{position_or_len, before_first, after_first}
use Rattle.std.specs.Str.{bytes_eq, is_utf8}
use Rattle.std.specs.Str.Parse.{digits_value}
use Rattle.heap_base.specs.Names.{is_name}
use Rattle.trace_reader.specs.Meaning.{only_if}
use Rattle.heap_snapshot.specs.declared.line.Line.{Line}
use Rattle.heap_snapshot.specs.declared.line.Line.TheVariants.{Head, Object, Slot, Root, End}

-- ---- how a line is written

abbrev pub line_text : Line → List ℕ
line_text Head = codes "heapsnap 1"
line_text (Object id slots kind) = codes "object " ++ decimal id ++ codes " " ++ decimal slots ++ codes " " ++ kind
line_text (Slot slot to) = codes "slot " ++ decimal slot ++ codes " " ++ decimal to
line_text (Root to name) = codes "root " ++ decimal to ++ codes " " ++ name
line_text End = codes "end"

-- with its newline
abbrev pub line_bytes : Line → List ℕ
line_bytes line = line_text line ++ 10 ∷ []

-- ---- how a line is read

-- the first word and what stands behind the space after it, where there is a space
unfoldable pub first_word : List ℕ → Option (List ℕ × List ℕ)
first_word text =
    let is_space : ℕ → Bool = λ b. b == 32 in
    if nat_lt (position_or_len is_space text) (length text) then Some (before_first is_space text, after_first is_space text) else None

-- a number below 2^32, decimal without leading zeros
unfoldable pub number_in : List ℕ → Option ℕ
number_in text =
    let n = digits_value 10 text in if nat_lt n (2 ^ 32) && bytes_eq (decimal n) text then Some n else None

-- an id is no 0
abbrev pub id_from : ℕ → Option ℕ
id_from n = if n == 0 then None else Some n

infixl 10 ◌>>=◌
abbrev pub ◌>>=◌ : {A B : Type 0} → Option A → (A → Option B) → Option B
None >>= f = None
(Some x) >>= f = f x

-- a number that is the first word, and what stands behind it
unfoldable pub number_first : List ℕ → Option (ℕ × List ℕ)
number_first text = do
  split ← first_word text
  n ← number_in split.0
  Some (n, split.1)

unfoldable pub object_line_in : List ℕ → Option Line
object_line_in text = do
  first ← number_first text
  second ← number_first first.1
  id ← id_from first.0
  kind ← only_if is_name second.1
  Some (Object id second.0 kind)

unfoldable pub slot_line_in : List ℕ → Option Line
slot_line_in text = do
  first ← number_first text
  n ← number_in first.1
  to ← id_from n
  Some (Slot first.0 to)

unfoldable pub root_line_in : List ℕ → Option Line
root_line_in text = do
  first ← number_first text
  to ← id_from first.0
  name ← only_if is_name first.1
  Some (Root to name)

-- what a line says, by its first word
abbrev pub said_by : List ℕ → List ℕ → Option Line
said_by word rest =
    if bytes_eq word (codes "object") then object_line_in rest
    else (if bytes_eq word (codes "slot") then slot_line_in rest
    else (if bytes_eq word (codes "root") then root_line_in rest else None))

unfoldable pub words_in : List ℕ → Option Line
words_in text = first_word text >>= (λ split. said_by split.0 split.1)

unfoldable pub text_in : List ℕ → Option Line
text_in text =
    if bytes_eq text (codes "heapsnap 1") then Some Head
    else (if bytes_eq text (codes "end") then Some End else words_in text)

-- what a line says, without its newline, if it says anything
abbrev pub line_in : List ℕ → Option Line
line_in line = if is_utf8 line then text_in line else None
