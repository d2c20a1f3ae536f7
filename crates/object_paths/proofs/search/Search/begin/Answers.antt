use Rattle.std.proofs.Common.{◌≡◌, ℕ, List, [], length, get_or, replicate, sym, ap, subst, ◌∙◌, rules}
use Rattle.std.specs.Prelude.{IsSome}
use Rattle.std.proofs.lemmas.List.{length-replicate}
use Rattle.std.proofs.lemmas.Option.{slice_get_within, get_or_from_slice_get}
use Rattle.assert_registry.proofs.Marking.{get_or-replicate_same}
use Rattle.graph_meaning.specs.Roles.{id_at}
use Rattle.object_table.specs.Placed.{PlacedTable, id_in}
use Rattle.object_paths.specs.declared.cell_reference.FirstReferences.{FirstReferences}
use Rattle.object_paths.specs.declared.cell_reference.TheConstants.{NO_REFERENCES}
use Rattle.object_paths.specs.References.{StartList}
use Rattle.object_paths.proofs.search.Search.begin.Goals as goal

starts-empty : (p : PlacedTable) (id : ℕ) → StartList p id [] NO_REFERENCES
starts-empty p id = search rules

pub returns-clause-finds : goal.returns-clause-finds
returns-clause-finds c p held =
    let places = c.in_ok-places.ensures in
    let many = length c.args.asked.now in
    let none : c.in_ok-found.found.items ≡ replicate (length c.args.asked.now) NO_REFERENCES = c.in_ok-found.ensures.items_if_clones_equal (λ y same. same) in
    record {
      are = record {
        held = λ n cell at.
            subst (λ x. IsSome (id_in p x)) (get_or_from_slice_get c.args.asked.now n cell 0 at) (held n 0 (slice_get_within c.args.asked.now n cell at));
        placed = places.placed;
        only = places.asked;
        each = ap length none ∙ length-replicate many NO_REFERENCES;
      };
      first = λ n cell r at is.
          let empty =
          sym (get_or_from_slice_get c.in_ok-found.found.items n r NO_REFERENCES is)
          ∙ ap (λ (rs : List FirstReferences). get_or rs n NO_REFERENCES) none ∙ get_or-replicate_same many n NO_REFERENCES in
          subst (λ (f : FirstReferences). StartList p (id_at p.cells cell) [] f) (sym empty) (starts-empty p (id_at p.cells cell));
    }
