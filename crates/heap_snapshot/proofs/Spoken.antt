-- A line that says something is written as that is written.
use Rattle.std.proofs.Common.{◌≡◌, ℕ, ◌+◌, ◌<◌, ◌^◌, eqb, true, false, Bool, cond, ltb, IsTrue, IsUtf8, List, [], ◌∷◌, ◌++◌, length, drop, Option}
use Rattle.std.proofs.Common.{None, Some, refl, ap, ◌∙◌, subst, arith, append_assoc, length-append, get_or, zero, suc}
use Rattle.std.specs.Bool.{⊤}
use Rattle.std.specs.Prelude.{codes, decimal}
use Rattle.std.specs.List.{position_or_len, before_first, after_first}
use Rattle.std.specs.Str.{bytes_eq, is_utf8}
use Rattle.std.proofs.lemmas.Bool.{eqb-true, ltb-true}
use Rattle.std.proofs.lemmas.Option.{cond_some, none-some, same_Some}
use Rattle.std.proofs.lemmas.List.Sums.{split_at_first, passes_at_first}
use Rattle.std.proofs.lemmas.Slice.Eq.{bytes_eq-Decides}
use Rattle.std.proofs.lemmas.Str.{IsUtf8-from_is_utf8, is_utf8-from_IsUtf8, IsUtf8-drop, IsCharBoundary-after_ascii}
use Rattle.heap_base.specs.Names.{is_name}
use Rattle.trace_reader.specs.Meaning.{only_if}
use Rattle.heap_snapshot.specs.declared.line.Line.{Line}
use Rattle.heap_snapshot.specs.declared.line.Line.TheVariants.{Head, Object, Slot, Root, End}
use Rattle.heap_snapshot.specs.Lines.{line_text, line_in, text_in, words_in, said_by, object_line_in, slot_line_in, root_line_in, number_first, number_in, id_from, first_word, ◌>>=◌}
use Rattle.heap_snapshot.specs.Formed.{IsId, IsName}
use Rattle.heap_snapshot.proofs.Numbers.{number_in-is}

-- ---- what an answer comes from

bind_some : {A B P : Type 0} (o : Option A) (f : A → Option B) (y : B) → o >>= f ≡ Some y → ((x : A) → o ≡ Some x → f x ≡ Some y → P) → P
bind_some None f y is go = absurd (none-some y is)
bind_some (Some x) f y is go = go x refl is

-- one of two branches
branch : {A P : Type 0} (b : Bool) (x y z : A) → cond b x y ≡ z → (b ≡ true → x ≡ z → P) → (y ≡ z → P) → P
branch true x y z is first second = first refl is
branch false x y z is first second = second is

id_from-is : (n id : ℕ) → id_from n ≡ Some id → n ≡ id
id_from-is n id is = branch (eqb n 0) None (Some n) (Some id) is (λ zero none. absurd (none-some id none)) (λ some. same_Some n id some)

only_if-is : (text kept : List ℕ) → only_if is_name text ≡ Some kept → text ≡ kept
only_if-is text kept is = (cond_some (is_name text) text kept is).1

kept_name : (text kept : List ℕ) → only_if is_name text ≡ Some kept → IsTrue (is_name kept)
kept_name text kept is =
    let parts = cond_some (is_name text) text kept is in subst (λ (t : List ℕ). IsTrue (is_name t)) parts.1 parts.0

-- ---- words

first_word-is : (text word rest : List ℕ) → first_word text ≡ Some (word, rest) → text ≡ word ++ (codes " " ++ rest)
unfolding first_word
first_word-is text word rest is =
    let is_space : ℕ → Bool = λ b. eqb b 32 in
    let place = position_or_len is_space text in
    let parts = cond_some {A = List ℕ × List ℕ} (ltb place (length text)) (before_first is_space text, after_first is_space text) (word, rest) is in
    let there : place < length text = ltb-true place (length text) parts.0 in
    let space : get_or text place 0 ≡ 32 = eqb-true (get_or text place 0) 32 (passes_at_first is_space text 0 there) in
    split_at_first is_space text 0 there
    ∙ ap (λ b. before_first is_space text ++ (b ∷ after_first is_space text)) space
    ∙ ap (λ (p : List ℕ × List ℕ). p.0 ++ (32 ∷ p.1)) parts.1

numbered-is : (text : List ℕ) (found : ℕ × List ℕ) → number_first text ≡ Some found → text ≡ decimal found.0 ++ (codes " " ++ found.1)
unfolding number_first
numbered-is text found is =
    bind_some (first_word text) (λ split. number_in split.0 >>= (λ n. Some (n, split.1))) found is (λ split at more.
    bind_some (number_in split.0) (λ n. Some (n, split.1)) found more (λ n number pair.
    let same : (n, split.1) ≡ found = same_Some {A = ℕ × List ℕ} (n, split.1) found pair in
    first_word-is text split.0 split.1 at
    ∙ ap (λ (w : List ℕ). w ++ (codes " " ++ split.1)) (number_in-is split.0 n number).0
    ∙ ap (λ (p : ℕ × List ℕ). decimal p.0 ++ (codes " " ++ p.1)) same))

-- ---- what stands behind the first word

pub six : (a b c d e f : List ℕ) → a ++ (b ++ (c ++ (d ++ (e ++ f)))) ≡ a ++ b ++ c ++ d ++ e ++ f
six a b c d e f = simp append_assoc

pub four : (a b c d : List ℕ) → a ++ (b ++ (c ++ d)) ≡ a ++ b ++ c ++ d
four a b c d = simp append_assoc

-- the parts of an object's line
record ObjectParts (text : List ℕ) (l : Line) : Type 0 where
  first : ℕ × List ℕ
  second : ℕ × List ℕ
  id : ℕ
  kind : List ℕ
  numbers : number_first text ≡ Some first
  slots : number_first first.1 ≡ Some second
  is_id : id_from first.0 ≡ Some id
  is_kind : only_if is_name second.1 ≡ Some kind
  line : Object id second.0 kind ≡ l

object_parts : (text : List ℕ) (l : Line) → object_line_in text ≡ Some l → ObjectParts text l
unfolding object_line_in
object_parts text l is =
    bind_some (number_first text)
    (λ first. number_first first.1 >>= (λ second. id_from first.0 >>= (λ id. only_if is_name second.1 >>= (λ kind. Some (Object id second.0 kind)))))
    l is (λ first a more.
    bind_some (number_first first.1) (λ second. id_from first.0 >>= (λ id. only_if is_name second.1 >>= (λ kind. Some (Object id second.0 kind)))) l more (λ second b more.
    bind_some (id_from first.0) (λ id. only_if is_name second.1 >>= (λ kind. Some (Object id second.0 kind))) l more (λ id c more.
    bind_some (only_if is_name second.1) (λ kind. Some (Object id second.0 kind)) l more (λ kind d last. record {
      first = first;
      second = second;
      id = id;
      kind = kind;
      numbers = a;
      slots = b;
      is_id = c;
      is_kind = d;
      line = same_Some (Object id second.0 kind) l last;
    }))))

object_in-is : (text : List ℕ) (l : Line) → object_line_in text ≡ Some l → codes "object " ++ text ≡ line_text l
object_in-is text l is =
    let p = object_parts text l is in
    ap (λ (t : List ℕ). codes "object " ++ t) (numbered-is text p.first p.numbers
    ∙ ap (λ n. decimal n ++ (codes " " ++ p.first.1)) (id_from-is p.first.0 p.id p.is_id)
    ∙ ap (λ (t : List ℕ). decimal p.id ++ (codes " " ++ t))
    (numbered-is p.first.1 p.second p.slots ∙ ap (λ (k : List ℕ). decimal p.second.0 ++ (codes " " ++ k)) (only_if-is p.second.1 p.kind p.is_kind)))
    ∙ six (codes "object ") (decimal p.id) (codes " ") (decimal p.second.0) (codes " ") p.kind
    ∙ ap line_text p.line

slot_in-is : (text : List ℕ) (l : Line) → slot_line_in text ≡ Some l → codes "slot " ++ text ≡ line_text l
unfolding slot_line_in
slot_in-is text l is =
    bind_some (number_first text) (λ first. number_in first.1 >>= (λ n. id_from n >>= (λ to. Some (Slot first.0 to)))) l is (λ first a more.
    bind_some (number_in first.1) (λ n. id_from n >>= (λ to. Some (Slot first.0 to))) l more (λ n b more.
    bind_some (id_from n) (λ to. Some (Slot first.0 to)) l more (λ to c last.
    ap (λ (t : List ℕ). codes "slot " ++ t) (numbered-is text first a
    ∙ ap (λ (t : List ℕ). decimal first.0 ++ (codes " " ++ t)) ((number_in-is first.1 n b).0 ∙ ap decimal (id_from-is n to c)))
    ∙ four (codes "slot ") (decimal first.0) (codes " ") (decimal to)
    ∙ ap line_text (same_Some (Slot first.0 to) l last))))

root_in-is : (text : List ℕ) (l : Line) → root_line_in text ≡ Some l → codes "root " ++ text ≡ line_text l
unfolding root_line_in
root_in-is text l is =
    bind_some (number_first text) (λ first. id_from first.0 >>= (λ to. only_if is_name first.1 >>= (λ name. Some (Root to name)))) l is (λ first a more.
    bind_some (id_from first.0) (λ to. only_if is_name first.1 >>= (λ name. Some (Root to name))) l more (λ to b more.
    bind_some (only_if is_name first.1) (λ name. Some (Root to name)) l more (λ name c last.
    ap (λ (t : List ℕ). codes "root " ++ t) (numbered-is text first a
    ∙ ap (λ n. decimal n ++ (codes " " ++ first.1)) (id_from-is first.0 to b)
    ∙ ap (λ (k : List ℕ). decimal to ++ (codes " " ++ k)) (only_if-is first.1 name c))
    ∙ four (codes "root ") (decimal to) (codes " ") name
    ∙ ap line_text (same_Some (Root to name) l last))))

-- ---- a line

equal : (xs ys : List ℕ) → bytes_eq xs ys ≡ true → xs ≡ ys
equal xs ys is = (bytes_eq-Decides xs ys).0 is

said_by-is : (word rest : List ℕ) (l : Line) → said_by word rest ≡ Some l → word ++ (codes " " ++ rest) ≡ line_text l
said_by-is word rest l is =
    branch (bytes_eq word (codes "object")) (object_line_in rest) _ (Some l) is
    (λ same said. ap (λ (w : List ℕ). w ++ (codes " " ++ rest)) (equal word (codes "object") same) ∙ object_in-is rest l said)
    (λ is. branch (bytes_eq word (codes "slot")) (slot_line_in rest) _ (Some l) is
    (λ same said. ap (λ (w : List ℕ). w ++ (codes " " ++ rest)) (equal word (codes "slot") same) ∙ slot_in-is rest l said)
    (λ is. branch (bytes_eq word (codes "root")) (root_line_in rest) None (Some l) is
    (λ same said. ap (λ (w : List ℕ). w ++ (codes " " ++ rest)) (equal word (codes "root") same) ∙ root_in-is rest l said)
    (λ none. absurd (none-some l none))))

words_in-is : (text : List ℕ) (l : Line) → words_in text ≡ Some l → text ≡ line_text l
unfolding words_in
words_in-is text l is =
    bind_some (first_word text) (λ split. said_by split.0 split.1) l is (λ split at said.
    first_word-is text split.0 split.1 at ∙ said_by-is split.0 split.1 l said)

text_in-is : (text : List ℕ) (l : Line) → text_in text ≡ Some l → text ≡ line_text l
unfolding text_in
text_in-is text l is =
    branch (bytes_eq text (codes "heapsnap 1")) (Some Head) _ (Some l) is
    (λ same said. equal text (codes "heapsnap 1") same ∙ ap line_text (same_Some Head l said))
    (λ is. branch (bytes_eq text (codes "end")) (Some End) (words_in text) (Some l) is
    (λ same said. equal text (codes "end") same ∙ ap line_text (same_Some End l said))
    (λ said. words_in-is text l said))

-- a line that says something is written as that is written
pub line_in-is : (line : List ℕ) (l : Line) → line_in line ≡ Some l → line ≡ line_text l
line_in-is line l is =
    branch (is_utf8 line) (text_in line) None (Some l) is (λ utf8 said. text_in-is line l said) (λ none. absurd (none-some l none))

-- ---- its ids and its name

numbered-below : (text : List ℕ) (found : ℕ × List ℕ) → number_first text ≡ Some found → found.0 < 2 ^ 32
unfolding number_first
numbered-below text found is =
    bind_some (first_word text) (λ split. number_in split.0 >>= (λ n. Some (n, split.1))) found is (λ split at more.
    bind_some (number_in split.0) (λ n. Some (n, split.1)) found more (λ n number pair.
    subst (λ (p : ℕ × List ℕ). p.0 < 2 ^ 32) (same_Some {A = ℕ × List ℕ} (n, split.1) found pair) (number_in-is split.0 n number).1))

not_zero : (n : ℕ) → eqb n 0 ≡ false → 0 < n
not_zero zero is = absurd (cc)
not_zero (suc n) is = omega arith

id_from-IsId : (n id : ℕ) → n < 2 ^ 32 → id_from n ≡ Some id → IsId id
id_from-IsId n id below is =
    let same : n ≡ id = id_from-is n id is in
    subst IsId same (above (eqb n 0) refl is, below)
  where
    above : (b : Bool) → eqb n 0 ≡ b → cond b None (Some n) ≡ Some id → 0 < n
    above true at none = absurd (none-some id none)
    above false at some = not_zero n at

-- what a line says of the ids and names in it
abbrev pub IsLegal : Line → Type 0
IsLegal Head = ⊤
IsLegal (Object id slots kind) = IsId id × IsTrue (is_name kind)
IsLegal (Slot slot to) = IsId to
IsLegal (Root to name) = IsId to × IsTrue (is_name name)
IsLegal End = ⊤

object_in-legal : (text : List ℕ) (l : Line) → object_line_in text ≡ Some l → IsLegal l
object_in-legal text l is =
    let p = object_parts text l is in
    subst IsLegal p.line (id_from-IsId p.first.0 p.id (numbered-below text p.first p.numbers) p.is_id, kept_name p.second.1 p.kind p.is_kind)

slot_in-legal : (text : List ℕ) (l : Line) → slot_line_in text ≡ Some l → IsLegal l
unfolding slot_line_in
slot_in-legal text l is =
    bind_some (number_first text) (λ first. number_in first.1 >>= (λ n. id_from n >>= (λ to. Some (Slot first.0 to)))) l is (λ first a more.
    bind_some (number_in first.1) (λ n. id_from n >>= (λ to. Some (Slot first.0 to))) l more (λ n b more.
    bind_some (id_from n) (λ to. Some (Slot first.0 to)) l more (λ to c last.
    subst IsLegal (same_Some (Slot first.0 to) l last) (id_from-IsId n to (number_in-is first.1 n b).1 c))))

root_in-legal : (text : List ℕ) (l : Line) → root_line_in text ≡ Some l → IsLegal l
unfolding root_line_in
root_in-legal text l is =
    bind_some (number_first text) (λ first. id_from first.0 >>= (λ to. only_if is_name first.1 >>= (λ name. Some (Root to name)))) l is (λ first a more.
    bind_some (id_from first.0) (λ to. only_if is_name first.1 >>= (λ name. Some (Root to name))) l more (λ to b more.
    bind_some (only_if is_name first.1) (λ name. Some (Root to name)) l more (λ name c last.
    subst IsLegal (same_Some (Root to name) l last) (id_from-IsId first.0 to (numbered-below text first a) b, kept_name first.1 name c))))

said_by-legal : (word rest : List ℕ) (l : Line) → said_by word rest ≡ Some l → IsLegal l
said_by-legal word rest l is =
    branch (bytes_eq word (codes "object")) (object_line_in rest) _ (Some l) is (λ same said. object_in-legal rest l said)
    (λ is. branch (bytes_eq word (codes "slot")) (slot_line_in rest) _ (Some l) is (λ same said. slot_in-legal rest l said)
    (λ is. branch (bytes_eq word (codes "root")) (root_line_in rest) None (Some l) is (λ same said. root_in-legal rest l said)
    (λ none. absurd (none-some l none))))

text_in-legal : (text : List ℕ) (l : Line) → text_in text ≡ Some l → IsLegal l
unfolding text_in words_in
text_in-legal text l is =
    branch (bytes_eq text (codes "heapsnap 1")) (Some Head) _ (Some l) is (λ same said. subst IsLegal (same_Some Head l said) tt)
    (λ is. branch (bytes_eq text (codes "end")) (Some End) (words_in text) (Some l) is (λ same said. subst IsLegal (same_Some End l said) tt)
    (λ said. bind_some (first_word text) (λ split. said_by split.0 split.1) l said (λ split at more. said_by-legal split.0 split.1 l more)))

-- what stands behind a space of a text is a text
pub behind_space : (xs ys : List ℕ) → drop (length xs + 1) (xs ++ 32 ∷ ys) ≡ ys
behind_space [] ys = refl
behind_space (x ∷ xs) ys =
    let more : length (x ∷ xs) + 1 ≡ suc (length xs + 1) = omega arith in ap (λ n. drop n (x ∷ xs ++ 32 ∷ ys)) more ∙ behind_space xs ys

space_at : (xs ys : List ℕ) → get_or (xs ++ 32 ∷ ys) (length xs) 0 ≡ 32
space_at [] ys = refl
space_at (x ∷ xs) ys = space_at xs ys

text_behind : (xs ys : List ℕ) → IsUtf8 (xs ++ 32 ∷ ys) → IsUtf8 ys
text_behind xs ys is =
    let there : length xs < length (xs ++ 32 ∷ ys) = omega (arith, length-append xs (32 ∷ ys)) in
    let ascii : get_or (xs ++ 32 ∷ ys) (length xs) 0 < 128 = omega (arith, space_at xs ys) in
    subst IsUtf8 (behind_space xs ys) (IsUtf8-drop (xs ++ 32 ∷ ys) (length xs + 1) is (IsCharBoundary-after_ascii (xs ++ 32 ∷ ys) (length xs) is there ascii))

-- the name in a line
abbrev pub HasNames : Line → Type 0
HasNames Head = ⊤
HasNames (Object id slots kind) = IsId id × IsName kind
HasNames (Slot slot to) = IsId to
HasNames (Root to name) = IsId to × IsName name
HasNames End = ⊤

utf8_name : (front name : List ℕ) → IsUtf8 (front ++ codes " " ++ name) → is_utf8 name ≡ true
utf8_name front name is =
    is_utf8-from_IsUtf8 name (text_behind front name (subst IsUtf8 (append_assoc front (codes " ") name) is))

named : (l : Line) → IsUtf8 (line_text l) → IsLegal l → HasNames l
named Head utf8 legal = tt
named (Object id slots kind) utf8 legal = (legal.0, (legal.1, utf8_name (codes "object " ++ decimal id ++ codes " " ++ decimal slots) kind utf8))
named (Slot slot to) utf8 legal = legal
named (Root to name) utf8 legal = (legal.0, (legal.1, utf8_name (codes "root " ++ decimal to) name utf8))
named End utf8 legal = tt

-- the ids and the names of a line that says something
pub line_in-named : (line : List ℕ) (l : Line) → line_in line ≡ Some l → HasNames l
line_in-named line l is =
    branch (is_utf8 line) (text_in line) None (Some l) is
    (λ utf8 said. named l (subst IsUtf8 (text_in-is line l said) (IsUtf8-from_is_utf8 line utf8)) (text_in-legal line l said))
    (λ none. absurd (none-some l none))
