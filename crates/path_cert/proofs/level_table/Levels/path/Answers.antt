use Rattle.std.proofs.Common.{sym, ap}
use Rattle.std.specs.Option.{option_map}
use Rattle.graph_meaning.specs.Paths.{view_of}
use Rattle.path_cert.specs.Levels.{way_in}
use Rattle.path_cert.proofs.ShownPaths.{path-is_path}
use Rattle.path_cert.proofs.Walking.{no-way, way-there, path-is}
use Rattle.path_cert.proofs.level_table.Levels.path.Goals as goal

pub returns-in_default-clause-path : goal.returns-in_default-clause-path
returns-in_default-clause-path c s levels =
    sym (ap (option_map view_of) (no-way c.args.table.now s c.args.self.now levels c.args.to c.requires.cell (sym c.in_default.ensures.steps)))

pub returns-clause-path : goal.returns-clause-path
returns-clause-path c s levels =
    let there = way-there c.args.table.now s c.args.self.now levels c.args.to c.in-Some.steps c.requires.cell (sym c.in-Some.ensures.steps) in
    path-is c.in_ok-walk_back.field-0 (way_in c.args.table.now s c.args.to) there.0 there.1 (c.in_ok-walk_back.ensures.path s _ levels c.begin-trail.ensures.shown)

pub returns-clause-is_path : goal.returns-clause-is_path
returns-clause-is_path c =
    let p = c.args.table.now in
    let s = c.requires.table.0 in
    let levels = c.requires.table.1 in
    let many = sym c.in-Some.ensures.steps in
    let there = way-there p s c.args.self.now levels c.args.to c.in-Some.steps c.requires.cell many in
    let is = path-is c.in_ok-walk_back.field-0 (way_in p s c.args.to) there.0 there.1 (c.in_ok-walk_back.ensures.path s _ levels c.begin-trail.ensures.shown) in
    path-is_path p c.in-Some.ensures.placed s c.args.self.now levels c.args.to c.in-Some.steps c.in_ok-walk_back.field-0 c.in-Some.ensures.sound c.requires.cell many is
