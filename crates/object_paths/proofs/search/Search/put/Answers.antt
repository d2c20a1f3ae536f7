use Rattle.std.proofs.Common.{◌≡◌, ◌<◌, length, Some, sym, refl, ap, ◌∙◌, arith}
use Rattle.std.specs.List.{slice_get}
use Rattle.std.proofs.lemmas.Bool.{false≢true, lt-ltb}
use Rattle.std.proofs.lemmas.Option.{slice_get_within, slice_get-get_or}
use Rattle.object_paths.specs.References.{reference_of}
use Rattle.object_paths.specs.Findings.{finding_in}
use Rattle.object_paths.proofs.Puts.{finds-passed, finds-put}
use Rattle.object_paths.proofs.search.Search.put.Goals as goal

pub returns-in_default-clause-finds : goal.returns-in_default-clause-finds
returns-in_default-clause-finds c p id placed held refers asked before finds =
    finds-passed p placed asked before _ (finding_in c.args.self.now) c.args.cell id (reference_of p c.args.reference) held (λ x. refl) finds (sym c.place_of.ensures ∙ c.in_default.is)

pub returns-in-Some-get_mut-clause-finds : goal.returns-in-Some-get_mut-clause-finds
returns-in-Some-get_mut-clause-finds c p id placed held refers asked before finds =
    let known : slice_get c.args.self.now.found.items c.in-Some.place ≡ Some c.in-Some-get_mut.found.now =
    slice_get-get_or c.args.self.now.found.items c.in-Some.place c.in-Some-get_mut.found.now c.in-Some-get_mut.ensures.item.3.0 ∙ ap Some (sym c.in-Some-get_mut.ensures.value) in
    finds-put p placed asked before _ (finding_in c.args.self.now) c.args.cell id (reference_of p c.args.reference) held (λ x. refl) finds
    c.in-Some.place c.in-Some-get_mut.found.now c.with.result (sym c.place_of.ensures ∙ c.in-Some.is) known
    (λ list starts. c.with.ensures p id list refers starts)

pub returns-in_default-get_mut-clause-finds : goal.returns-in_default-get_mut-clause-finds
returns-in_default-get_mut-clause-finds c p id placed held refers asked before finds =
    let asked_at = finds.are.only c.in-Some.place c.args.cell (sym c.place_of.ensures ∙ c.in-Some.is) in
    let within = slice_get_within asked c.in-Some.place c.args.cell asked_at in
    let inside : c.in-Some.place < length c.args.self.now.found.items = (let many = finds.are.each in omega arith) in
    absurd (false≢true (c.in_default-get_mut.ensures.item.0 ∙ lt-ltb c.in-Some.place (length c.args.self.now.found.items) inside))
