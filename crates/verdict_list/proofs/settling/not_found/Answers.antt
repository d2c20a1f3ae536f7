use Rattle.std.proofs.Common.{◌≡◌, ℕ, ◌==◌, ◌&&◌, not, List, get_or, sym, ap, subst, ◌∙◌}
use Rattle.std.specs.List.{All}
use Rattle.std.specs.Result.{IfOk}
use Rattle.std.proofs.lemmas.List.Sorted.{All-permutation, list_any-IsPermutation}
use Rattle.graph_meaning.proofs.Membership.{All-has_id, filter_agree_all}
use Rattle.path_cert.specs.Finds.{finds_in}
use Rattle.verdict_list.specs.declared.settling.Ownership.{Ownership}
use Rattle.verdict_list.specs.Cells.{is_kept}
use Rattle.verdict_list.specs.Settling.{IsOfObjects, is_found_in, flag_of}
use Rattle.verdict_list.proofs.settling.not_found.Goals as goal

pub ask_owners-requires-clause-pairs : goal.ask_owners-requires-clause-pairs
ask_owners-requires-clause-pairs c =
    subst (All (IsOfObjects c.args.asked.table.now)) (sym c.as_slice.ensures.value)
    (All-permutation (IsOfObjects c.args.asked.table.now) c.in_ok-pairs.pairs.items c.sort_unstable.new.self.items c.sort_unstable.ensures.permutation
    c.in_ok-pairs.ensures.objects)

pub returns : goal.returns
returns c =
    let p = c.args.asked.table.now in
    let r = c.args.asked.roles.now in
    let ownees = c.args.asked.ownees.now in
    let found = c.as_slice-2.result.now in
    let sorted =
    λ (x : ℕ). list_any-IsPermutation (λ (o : Ownership). o.ownee == x && finds_in p r o.owner x) c.in_ok-pairs.pairs.items c.sort_unstable.new.self.items c.sort_unstable.ensures.permutation in
    let flag =
    λ (x : ℕ). ap (λ flags. flag_of flags x) c.as_slice-2.ensures.value ∙ c.in_ok-found.ensures.found x
    ∙ ap (λ pairs. is_found_in p r pairs x) c.as_slice.ensures.value ∙ sym (sorted x) ∙ c.in_ok-pairs.ensures.found x in
    let agree : All (λ x. not (flag_of c.as_slice-2.result.now x) ≡ not (is_kept c.args.asked.table.now c.args.asked.roles.now x)) c.args.asked.ownees.now =
    λ k d within. ap not (flag (get_or ownees k d) ∙ ap (λ b. b && is_kept p r (get_or ownees k d)) (All-has_id ownees k d within)) in
    let same = filter_agree_all (λ x. not (flag_of found x)) (λ x. not (is_kept p r x)) ownees agree in
    record {
      violating = subst (λ (xs : List ℕ). IfOk c.without.result (λ others. others.items ≡ xs)) same c.without.ensures;
    }
