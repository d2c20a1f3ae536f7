-- A view and its text.
use Rattle.std.proofs.Common.{◌≡◌, ℕ, Bool, true, false, List, Option, None, Some, Result, Ok, Err, sym, refl, ap, ◌∙◌, subst}
use Rattle.std.proofs.lemmas.Bool.{false≢true}
use Rattle.graph_meaning.specs.declared.views.HeapView.{HeapView}
use Rattle.heap_snapshot.specs.declared.refusal.SnapWhy.{SnapWhy}
use Rattle.heap_snapshot.specs.declared.refusal.SnapWhy.TheVariants.{TooLong, BadLine, Unended, Dangling}
use Rattle.heap_snapshot.specs.Dangling.{first_dangling}
use Rattle.heap_snapshot.specs.TextLaws.{StandsByText, WrittenIsReadBack, TextTellsView, DanglesInText}
use Rattle.heap_snapshot.specs.Reading.{IsLawful, StandsFor, Refusal, refusal_at, unless_dangling, meaning_of}
use Rattle.heap_snapshot.specs.Text.{snapshot_text}
use Rattle.heap_snapshot.proofs.Texts.{by_text}

-- ---- the view

same_view : (bytes : List ℕ) (v w : HeapView) (found : Option (ℕ × ℕ)) → bytes ≡ snapshot_text v → unless_dangling v found ≡ Ok w → bytes ≡ snapshot_text w
same_view bytes v w None same is = same ∙ ap snapshot_text (same_ok v w is)
  where
    same_ok : (v w : HeapView) → ◌≡◌ {A = Result HeapView Refusal} (Ok v) (Ok w) → v ≡ w
    same_ok v w is = cc
same_view bytes v w (Some d) same is = absurd (cc)

pub stands_by_text : StandsByText
stands_by_text bytes v =
    by_text bytes (λ found. found ≡ Ok v → bytes ≡ snapshot_text v) (λ line is. absurd (cc)) (λ line is. absurd (cc))
    (λ w same is. same_view bytes w v (first_dangling w) same is)

pub written_is_read_back : WrittenIsReadBack
written_is_read_back v lawful = subst (λ bytes. meaning_of bytes ≡ Ok v) (stands_by_text lawful.0 v lawful.1) lawful.1

pub written_stands : (v : HeapView) (text : List ℕ) → text ≡ snapshot_text v → IsLawful v → StandsFor text v
written_stands v text same lawful = ap meaning_of same ∙ written_is_read_back v lawful

pub text_tells_view : TextTellsView
text_tells_view v w one other same =
    same_ok v w (sym (written_is_read_back v one) ∙ ap meaning_of same ∙ written_is_read_back w other)
  where
    same_ok : (v w : HeapView) → ◌≡◌ {A = Result HeapView Refusal} (Ok v) (Ok w) → v ≡ w
    same_ok v w is = cc

-- ---- what dangles

abbrev refusal_in : Result HeapView Refusal → Refusal
refusal_in (Ok v) = record { line = 0; why = BadLine }
refusal_in (Err r) = r

abbrev id_in : SnapWhy → ℕ
id_in TooLong = 0
id_in BadLine = 0
id_in Unended = 0
id_in (Dangling id) = id

abbrev is_dangling : SnapWhy → Bool
is_dangling TooLong = false
is_dangling BadLine = false
is_dangling Unended = false
is_dangling (Dangling id) = true

other_refusal : {A : Type 0} (at line id : ℕ) (why : SnapWhy) → is_dangling why ≡ false → ◌≡◌ {A = Result HeapView Refusal} (refusal_at at why) (refusal_at line (Dangling id)) → A
other_refusal at line id why other is = absurd (false≢true (sym other ∙ ap (λ found. is_dangling (refusal_in found).why) is))

dangles : (bytes : List ℕ) (line id : ℕ) (v : HeapView) (found : Option (ℕ × ℕ)) → first_dangling v ≡ found → bytes ≡ snapshot_text v → unless_dangling v found ≡ refusal_at line (Dangling id)
    → (v : HeapView) × (bytes ≡ snapshot_text v) × (first_dangling v ≡ Some (line, id))
dangles bytes line id v None at same is = absurd (cc)
dangles bytes line id v (Some d) at same is =
    let in_line : ℕ → Option (ℕ × ℕ) = λ n. Some (n, d.1) in
    let to : ℕ → Option (ℕ × ℕ) = λ n. Some (line, n) in
    (v, same, at ∙ ap in_line (ap (λ found. (refusal_in found).line) is) ∙ ap to (ap (λ found. id_in (refusal_in found).why) is))

pub dangles_in_text : DanglesInText
dangles_in_text bytes line id =
    by_text bytes (λ found. found ≡ refusal_at line (Dangling id) → (v : HeapView) × (bytes ≡ snapshot_text v) × (first_dangling v ≡ Some (line, id)))
    (λ at. other_refusal at line id BadLine refl) (λ at. other_refusal at line id Unended refl)
    (λ v same is. dangles bytes line id v (first_dangling v) refl same is)
