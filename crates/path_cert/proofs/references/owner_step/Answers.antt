use Rattle.std.proofs.Common.{◌≡◌, ℕ, Option, Some, [], ◌∷◌, ◌++◌, sym, ap, refl, ◌∙◌}
use Rattle.std.specs.Option.{option_map}
use Rattle.graph_meaning.specs.declared.paths.PathView.{PathView}
use Rattle.graph_meaning.specs.Paths.{way_by_edge, owner_way, view_of}
use Rattle.graph_meaning.specs.Roles.{id_at}
use Rattle.path_cert.specs.Steps.{step_to}
use Rattle.path_cert.proofs.HeldObjects.{held-from_edge}
use Rattle.path_cert.proofs.ShownPaths.{step-is_path}
use Rattle.path_cert.proofs.ShownSteps.{view_of-one}
use Rattle.path_cert.proofs.references.owner_step.Goals as goal

pub returns : goal.returns
returns c =
    let t = c.args.table.now.table in
    let target = id_at c.args.table.now.cells c.edge_cell.result in
    let start = owner_way t (id_at c.args.table.now.cells c.args.owner) in
    let last = step_to t (c.args.slot, target) in
    let steps : c.push.new.self ≡ last ∷ [] = c.in_ok-push.ensures.ok ∙ (λ x. c.empty-steps.ensures x ++ c.in_ok-step.ensures x ∷ []) in
    let is = (λ x. Some (record { from = c.in_ok-from.ensures x; steps = steps x; left_out = 0 }))
    ∙ ap (λ (v : PathView). Some v) (sym (view_of-one (way_by_edge t start (c.args.slot, target)) last refl))
    ∙ ap (λ (o : Option ℕ). option_map view_of (option_map (λ y. way_by_edge t start (c.args.slot, y)) o)) (sym c.edge_cell.ensures.id) in
    let held = held-from_edge c.args.table.now c.args.owner c.args.slot c.requires.a_slot in
    record {
      path = is;
      is_path = step-is_path c.args.table.now c.cells-cells.ensures.placed c.args.owner c.args.slot target _ c.cells-cells.ensures.sound held c.edge_cell.ensures.id is;
    }
