use Rattle.std.proofs.Common.{◌≡◌, List, subst, sym, arith}
use Rattle.std.specs.Option.{IfSome}
use Rattle.std.specs.List.{slice_get}
use Rattle.graph_meaning.specs.declared.paths.PathStep.{PathStep}
use Rattle.graph_meaning.specs.Paths.{root_way, view_of}
use Rattle.path_cert.proofs.FirstLevel.{the_root, root-there, root-held}
use Rattle.path_cert.proofs.HeldObjects.{held-within}
use Rattle.path_cert.proofs.ShownPaths.{root-is_path}
use Rattle.path_cert.proofs.ShownSteps.{root_shown}
use Rattle.path_cert.proofs.references.root_path.Goals as goal

pub prove-unreachable-requires : goal.prove-unreachable-requires
prove-unreachable-requires c =
    let p = c.args.table.now in
    let held = root-held p c.args.root c.root_cell-cell.result c.requires.root c.root_cell-cell.ensures.cell in
    let within = held-within p c.root_cell-cell.result (the_root p c.args.root c.root_cell-cell.result c.requires.root c.root_cell-cell.ensures.cell).1 held in
    omega (arith, within)

pub returns : goal.returns
returns c =
    let p = c.args.table.now in
    let names = c.root_cell-cell.ensures.cell in
    let root = the_root p c.args.root c.root_cell-cell.result c.requires.root names in
    let shown = root_shown p.table (slice_get p.table.roots c.args.root) c.in_ok-from.from c.in_ok-from.ensures in
    let is =
    subst (λ (steps : List PathStep). IfSome (slice_get c.args.table.now.table.roots c.args.root)
    (λ r. record { from = c.in_ok-from.from; steps = steps; left_out = 0 } ≡ view_of (root_way c.args.table.now.table r))) (sym c.empty.ensures)
    shown in
    record {
      path = is;
      is_path =
          root-is_path p c.args.root root _ c.cells-cells.ensures.sound (root-there p c.args.root c.root_cell-cell.result c.requires.root names)
          (c.cells-cells.ensures.placed.live c.root_cell-cell.result root.1 (root-held p c.args.root c.root_cell-cell.result c.requires.root names))
          is;
    }
