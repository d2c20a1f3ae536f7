-- What stands in a range of a buffer, as its ends move and bytes are written behind it.
use Rattle.std.proofs.Common.{◌≡◌, ℕ, ◌+◌, ◌-◌, ◌≤◌, List, ◌++◌, length, take, drop, sym, ap, ◌∙◌, arith, append_assoc, append-nil}
use Rattle.std.specs.List.{slice_range, copy_within}
use Rattle.std.proofs.lemmas.List.{drop-take, drop-drop, drop-append-le, length-drop, length-take-le, take-append-le}
use Rattle.std.proofs.lemmas.List.Edits.{take-paste}
use Rattle.std.proofs.Math.Seq.{take-append-add, take-take}

-- the range without its first n bytes
pub range-skip : (xs : List ℕ) (start end n : ℕ) → start + n ≤ end → slice_range xs (start + n) end ≡ drop n (slice_range xs start end)
range-skip xs start end n h =
    ap (take (end - (start + n))) (sym (drop-drop n start xs))
    ∙ sym (drop-take n (end - (start + n)) (drop start xs))
    ∙ ap (λ k. drop n (take k (drop start xs))) (omega arith)

-- the range at the front, once it was copied there
pub range-moved : (xs : List ℕ) (start end : ℕ) → start ≤ end → end ≤ length xs → slice_range (copy_within xs start end 0) 0 (end - start) ≡ slice_range xs start end
range-moved xs start end h k =
    ap (λ n. take n (copy_within xs start end 0)) (omega arith)
    ∙ take-paste xs 0 (drop start xs) (end - start) (omega arith) (omega (arith, length-drop start xs))

range-by_drop : (xs : List ℕ) (start end : ℕ) → start ≤ end → drop start (take end xs) ≡ slice_range xs start end
range-by_drop xs start end h =
    ap (λ m. drop start (take m xs)) (omega arith) ∙ drop-take start (end - start) xs

range-written : (xs ys : List ℕ) (start end n : ℕ) → start ≤ end → end ≤ length xs → slice_range (take end xs ++ ys) start (end + n) ≡ slice_range xs start end ++ take n ys
range-written xs ys start end n h k =
    let front = take end xs in
    let size : length front ≡ end = length-take-le end xs k in
    let count : length (slice_range xs start end) + n ≡ end + n - start =
    omega (arith, length-take-le (end - start) (drop start xs) (omega (arith, length-drop start xs))) in
    ap (take (end + n - start)) (drop-append-le start front ys (omega arith) ∙ ap (λ l. l ++ ys) (range-by_drop xs start end h))
    ∙ ap (λ m. take m (slice_range xs start end ++ ys)) (sym count)
    ∙ take-append-add (slice_range xs start end) ys n

range-front : (xs : List ℕ) (start end size : ℕ) → start ≤ end → end ≤ size → slice_range (take size xs) start end ≡ slice_range xs start end
range-front xs start end size h k =
    sym (range-by_drop (take size xs) start end h) ∙ ap (drop start) (take-take end size xs k) ∙ range-by_drop xs start end h

-- n bytes of what was written from the end on lie behind the range
pub range-read : (xs new post tail : List ℕ) (start end n size : ℕ) → start ≤ end → end ≤ length xs → end + n ≤ size → n ≤ length new
    → slice_range (take size ((take end xs ++ (new ++ post)) ++ tail)) start (end + n) ≡ slice_range xs start end ++ take n new
range-read xs new post tail start end n size h k m l =
    range-front ((take end xs ++ (new ++ post)) ++ tail) start (end + n) size (omega arith) m
    ∙ ap (λ ys. slice_range ys start (end + n)) (append_assoc (take end xs) (new ++ post) tail ∙ ap (λ ys. take end xs ++ ys) (append_assoc new post tail))
    ∙ range-written xs (new ++ (post ++ tail)) start end n h k
    ∙ ap (λ ys. slice_range xs start end ++ ys) (take-append-le n new (post ++ tail) l)

-- what was written from the end on leaves the range
pub range-kept : (xs new post tail : List ℕ) (start end size : ℕ) → start ≤ end → end ≤ length xs → end ≤ size
    → slice_range (take size ((take end xs ++ (new ++ post)) ++ tail)) start end ≡ slice_range xs start end
range-kept xs new post tail start end size h k m =
    ap (slice_range (take size ((take end xs ++ (new ++ post)) ++ tail)) start) (omega arith)
    ∙ range-read xs new post tail start end 0 size h k (omega arith) (omega arith)
    ∙ append-nil (slice_range xs start end)
