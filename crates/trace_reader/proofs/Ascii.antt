-- From the mask of sixteen bytes to bytes that are ASCII.
use Rattle.std.proofs.Common.{◌≡◌, ℕ, ◌+◌, ◌%◌, ◌^◌, ◌≤◌, cond, leb, List, length, map, replicate, get_or, w8, ap, ◌∙◌, arith}
use Rattle.std.proofs.lemmas.Bool.{leb-false}
use Rattle.std.proofs.lemmas.List.{length-map}
use Rattle.std.proofs.lemmas.Simd.{mask_l-mod, none_from_empty_mask, tops_compared, zip2_splat_left}
use Rattle.trace_reader.specs.Ascii.{IsAsciiFrom, is_wide}
use lib.Lanes.{chunk, mask_l, top, zip2}

-- what a compare of sixteen lanes with 128 leaves of them
pub mask_of_wide : (bytes : List ℕ) → length bytes ≡ 16 → mask_l (map (top 7) (zip2 (λ a b. cond (leb a b) 255 0) (replicate 16 128) bytes)) % 2 ^ 64 ≡ mask_l (map is_wide bytes)
mask_of_wide bytes long =
    ap (λ ms. mask_l ms % 2 ^ 64) (tops_compared w8 leb (replicate 16 128) bytes ∙ zip2_splat_left leb 128 16 bytes long)
    ∙ mask_l-mod (map is_wide bytes) 64 (omega (arith, length-map bytes is_wide))

-- where the mask is empty
pub ascii_from_mask : (bytes : List ℕ) (at : ℕ) → at + 16 ≤ length bytes → mask_l (map is_wide (chunk at 16 bytes)) ≡ 0 → IsAsciiFrom at bytes
ascii_from_mask bytes at room none i from to = leb-false 128 (get_or bytes i 0) (none_from_empty_mask is_wide bytes at 16 0 room none i from to)
