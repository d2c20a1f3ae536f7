use Rattle.std.proofs.Common.{[], sym, ap}
use Rattle.std.specs.Option.{option_map, option_and_then}
use Rattle.graph_meaning.specs.Paths.{view_of}
use Rattle.graph_meaning.specs.Roles.{id_at}
use Rattle.path_cert.specs.Levels.{way_in}
use Rattle.path_cert.specs.Steps.{way_by_slot}
use Rattle.path_cert.proofs.ShownPaths.{path_then-is_path}
use Rattle.path_cert.proofs.Walking.{no-way, way-there, path_then-is}
use Rattle.path_cert.proofs.HeldObjects.{held-from_edge}
use Rattle.path_cert.proofs.level_table.Levels.path_then.Goals as goal

pub returns-in_default-clause-path : goal.returns-in_default-clause-path
returns-in_default-clause-path c s levels =
    let p = c.args.table.now in
    let held = held-from_edge p c.args.holder c.args.slot c.requires.a_slot in
    let none = no-way p s c.args.self.now levels c.args.holder held (sym c.in_default.ensures.steps) in
    sym (ap (λ o. option_map view_of (option_and_then (λ w. way_by_slot p w c.args.holder c.args.slot) o)) none)

pub returns-clause-path : goal.returns-clause-path
returns-clause-path c s levels =
    let p = c.args.table.now in
    let target = id_at c.args.table.now.cells c.edge_cell.result in
    let held = held-from_edge p c.args.holder c.args.slot c.requires.a_slot in
    let there = way-there p s c.args.self.now levels c.args.holder c.in-Some.steps held (sym c.in-Some.ensures.steps) in
    let shown = c.in_ok-take.ensures.taken [] c.begin-trail.ensures.shown in
    path_then-is p c.in_ok-walk_back.field-0 (way_in p s c.args.holder) there.0 c.args.holder c.args.slot target there.1 c.edge_cell.ensures.id (c.in_ok-walk_back.ensures.path s _ levels shown)

pub returns-clause-is_path : goal.returns-clause-is_path
returns-clause-is_path c =
    let p = c.args.table.now in
    let s = c.requires.table.0 in
    let levels = c.requires.table.1 in
    let target = id_at c.args.table.now.cells c.edge_cell.result in
    let held = held-from_edge p c.args.holder c.args.slot c.requires.a_slot in
    let many = sym c.in-Some.ensures.steps in
    let there = way-there p s c.args.self.now levels c.args.holder c.in-Some.steps held many in
    let shown = c.in_ok-take.ensures.taken [] c.begin-trail.ensures.shown in
    let is =
    path_then-is p c.in_ok-walk_back.field-0 (way_in p s c.args.holder) there.0 c.args.holder c.args.slot target there.1 c.edge_cell.ensures.id (c.in_ok-walk_back.ensures.path s _ levels shown) in
    path_then-is_path p c.in-Some.ensures.placed s c.args.self.now levels c.args.holder c.args.slot c.in-Some.steps target
    c.in_ok-walk_back.field-0 c.in-Some.ensures.sound held many c.edge_cell.ensures.id is
