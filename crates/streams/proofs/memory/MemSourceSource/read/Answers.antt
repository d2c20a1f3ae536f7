use Rattle.std.proofs.Common.{◌≡◌, ℕ, ◌+◌, List, ◌++◌, length, take, drop, arith, ◌∙◌, sym, ap}
use Rattle.std.proofs.lemmas.List.{drop-drop, take-append-drop, take_rest}
use Rattle.std.proofs.Math.Seq.{take-append_seam}
use Rattle.std.proofs.lemmas.Grind.{common_steps}
use Rattle.streams.proofs.memory.MemSourceSource.read.Goals as goal

-- what is put at the front of a buffer is what the bytes that are left lose
consumed : (xs front rest : List ℕ) (from n : ℕ) → front ≡ take n (drop from xs) → length front ≡ n
    → drop from xs ≡ take n (front ++ rest) ++ drop (from + n) xs
consumed xs front rest from n is len =
    let seam : take n (front ++ rest) ≡ front = ap (λ k. take k (front ++ rest)) (sym len) ∙ take-append_seam front rest in
    sym (take-append-drop n (drop from xs)) ∙ ap (λ l. l ++ drop n (drop from xs)) (sym is ∙ sym seam) ∙ ap (λ l. take n (front ++ rest) ++ l) (drop-drop n from xs)

pub returns-clause-bytes : goal.returns-clause-bytes
returns-clause-bytes c =
    let all = take_rest c.deref.result.now c.self.inside.begin in
    let front : c.copy_from_slice.new.self ≡ take c.min-n.result (drop c.self.inside.begin c.self.inside.bytes.items) = cc in
    let len : length c.copy_from_slice.new.self ≡ c.min-n.result = grind (arith, common_steps) in
    (rw (← c.self.view_is) (consumed _ _ _ _ _ front len), grind (arith, common_steps))
