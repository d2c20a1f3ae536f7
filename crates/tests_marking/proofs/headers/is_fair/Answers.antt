use Rattle.std.proofs.Common.{arith, ◌≡◌, ℕ, ◌<◌, ◌++◌, List, length, slice_index_or, take, sym, ap, ◌∙◌, subst}
use Rattle.std.proofs.Math.Seq.{take-append_seam}
use Rattle.header_rule.specs.declared.headers.Headers.{Headers}
use Rattle.header_rule.specs.declared.pass.Pass.{Pass}
use Rattle.header_rule.specs.Passes.{IsSamePass, ArePassesOf}
use Rattle.header_rule.proofs.Sharing.{numbers-same}
use Rattle.tests_marking.proofs.headers.is_fair.Goals as goal

-- passes that are the same, after they were written back
written_back : (h : Headers) (n : ℕ) (ps qs rest : List Pass) → n ≡ length ps → length qs ≡ length ps →
    ((i : ℕ) (d : Pass) → i < length ps → IsSamePass h (slice_index_or ps i d) (slice_index_or qs i d)) → ArePassesOf h ps →
    ArePassesOf h (take n (qs ++ rest))
written_back h n ps qs rest e l each are =
    subst (ArePassesOf h) (sym (ap (λ k. take k (qs ++ rest)) (e ∙ sym l) ∙ take-append_seam qs rest))
    (λ k d low. (each k d (omega arith)).0, numbers-same ps qs l (λ i d low. (each i d low).1) ∙ are.1)

pub close-words-requires : goal.close-words-requires
close-words-requires g c =
    let h = c.in_ok-headers.headers in
    let ps = c.in_ok-headers.passes in
    let qs = c.meet_in_threads.new.passes in
    let met = c.meet_in_threads.ensures in
    let slice = c.as_mut_slice.ensures in
    let each = subst (λ (ks : List Pass). (i : ℕ) (d : Pass) → i < length ks → IsSamePass h (slice_index_or ks i d) (slice_index_or qs i d)) slice.value met.each in
    record { passes = written_back h ps.len ps.items qs _ ps.ok.0 (met.len ∙ ap length slice.value) each c.in_ok-headers.ensures.passes }
