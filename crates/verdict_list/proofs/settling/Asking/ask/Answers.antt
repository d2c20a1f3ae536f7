use Rattle.std.proofs.Common.{◌<◌, ◌==◌, ◌&&◌, length, map, get_or, sym, ap, subst, ◌∙◌}
use Rattle.std.specs.Prelude.{IsSome}
use Rattle.std.specs.List.{All}
use Rattle.std.proofs.lemmas.Bool.{false≢true}
use Rattle.std.proofs.lemmas.List.{length-map, with_items_is}
use Rattle.graph_meaning.specs.Reach.{has_id}
use Rattle.object_table.specs.Placed.{id_in}
use Rattle.path_cert.specs.Finds.{finds_in}
use Rattle.path_cert.proofs.HeldObjects.{held-id, held-within}
use Rattle.verdict_list.specs.Askings.{asked_in}
use Rattle.verdict_list.specs.Settling.{HasAsked}
use Rattle.verdict_list.proofs.Pairs.{asked-owner, noted-slices}
use Rattle.verdict_list.proofs.settling.Asking.ask.Goals as goal

pub finds-requires-clause-owner : goal.finds-requires-clause-owner
finds-requires-clause-owner c =
    c.requires.asked.1.owner
    (λ none. false≢true (sym c.if-not-is_empty.true ∙ c.is_empty.ensures ∙ ap (λ count. count == 0) (sym c.as_slice.ensures.len ∙ ap length (c.as_slice.ensures.value ∙ none))))

pub finds-requires-clause-ownees : goal.finds-requires-clause-ownees
finds-requires-clause-ownees c = subst (All (λ ownee. IsSome (id_in c.args.table.now ownee))) (sym c.as_slice.ensures.value) c.requires.asked.1.ownees

pub note_found-requires : goal.note_found-requires
note_found-requires c =
    let p = c.args.table.now in
    let asked = c.requires.asked.1 in
    let test = finds_in p c.args.roles.now c.args.self.now.owner in
    let room = sym asked.each ∙ sym (ap length c.as_mut_slice.ensures.value) in
    let held : All (λ ownee. ownee < length c.as_mut_slice.result.now) c.args.self.now.ownees.items =
    λ k d within. let ownee = get_or c.args.self.now.ownees.items k d in subst (λ n. ownee < n) room (let id = held-id p ownee (asked.ownees k d within) in held-within p _ _ id) in
    record {
      answers =
          ap length (c.as_slice-then-not-is_empty-2.ensures.value ∙ c.in_ok-answers.ensures.found) ∙ length-map c.as_slice.result.now test
          ∙ ap length (c.as_slice.ensures.value ∙ sym c.as_slice-then-not-is_empty.ensures.value);
      ownees = subst (All (λ ownee. ownee < length c.as_mut_slice.result.now)) (sym c.as_slice-then-not-is_empty.ensures.value) held;
    }

pub returns-in_ok-answers-clause-asked : goal.returns-in_ok-answers-clause-asked
returns-in_ok-answers-clause-asked c pairs was =
    let p = c.args.table.now in
    let r = c.args.roles.now in
    let before = asked_in c.args.self.now in
    let owner = c.args.self.now.owner in
    let new = c.note_found.new.found in
    let test = finds_in p r owner in
    let found = c.args.self.now.found in
    let each = c.note_found.ensures.each ∙ ap length c.as_mut_slice.ensures.value in
    let items = with_items_is c.args.self.now.found c.note_found.new.found (each ∙ sym c.args.self.now.found.ok.0) in
    let answers = c.as_slice-then-not-is_empty-2.ensures.value ∙ c.in_ok-answers.ensures.found ∙ ap (map test) (c.as_slice.ensures.value ∙ sym c.as_slice-then-not-is_empty.ensures.value) in
    let noted =
    noted-slices before.found c.as_mut_slice.result.now before.ownees c.as_slice-then-not-is_empty.result.now
    (λ ownees x. has_id ownees x && test x) new c.as_mut_slice.ensures.value c.as_slice-then-not-is_empty.ensures.value
    (c.note_found.ensures.found test answers) in
    let asked = asked-owner p r pairs before was new each noted in
    let cleared = subst (λ ys. HasAsked p r pairs (record { found = c.note_found.new.found; owner = c.args.self.now.owner; ownees = ys })) (sym c.clear.ensures.items) asked in
    subst (λ flags. HasAsked p r pairs (record { found = flags; owner = c.args.self.now.owner; ownees = c.clear.new.self.items })) (sym items) cleared
