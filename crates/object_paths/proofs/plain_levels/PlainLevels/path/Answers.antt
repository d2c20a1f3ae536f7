use Rattle.std.proofs.Common.{◌≡◌, sym, ap, subst, ◌∙◌, Option}
use Rattle.std.specs.Prelude.{Result, Ok, Err, IfOk}
use Rattle.std.specs.Option.{option_map}
use Rattle.heap_base.specs.declared.errors.OutOfMemory.{OutOfMemory}
use Rattle.graph_meaning.specs.declared.paths.PathView.{PathView}
use Rattle.graph_meaning.specs.Heap.{Heap}
use Rattle.graph_meaning.specs.Paths.{plain_way, view_of}
use Rattle.graph_meaning.specs.Roles.{RoleTable, id_at}
use Rattle.assert_registry.specs.Laws.{StandFor}
use Rattle.path_cert.specs.declared.start.Start.TheVariants.{Roots, Owners}
use Rattle.path_cert.specs.Levels.{Search, LevelTable, AreLevelsOf, search_of, way_in}
use Rattle.object_paths.specs.PlainPaths.{PlainTable, ArePlainLevels, none_shut}
use Rattle.object_paths.proofs.PlainWays.{plain-way-is, first-shown, second-shown}
use Rattle.object_paths.proofs.plain_levels.PlainLevels.path.Goals as goal

pub returns-in-Some-clause-path : goal.returns-in-Some-clause-path
returns-in-Some-clause-path c h r levels stand =
    let p = c.args.table.now in
    let roots = search_of c.args.table.now r Roots (none_shut c.args.table.now) in
    let owners = search_of c.args.table.now r Owners (none_shut c.args.table.now) in
    let at_roots = subst (λ (l : LevelTable). AreLevelsOf c.args.table.now roots l) (sym (ap (λ (l : PlainTable). l.roots) c.self.view_is)) levels.roots in
    first-shown (way_in p roots c.args.cell) (way_in p owners c.args.cell) c.in-Some.path (sym c.in-Some.is ∙ c.in_ok-path.ensures.path roots at_roots)
    ∙ ap (option_map view_of) (plain-way-is p r h stand c.args.cell)

pub returns-in-None-clause-path : goal.returns-in-None-clause-path
returns-in-None-clause-path c = go c.path-in-None.result c.path-in-None.ensures.path
  where
    go : (result : Result (Option PathView) OutOfMemory) →
        IfOk result (λ v. (s : Search) → AreLevelsOf c.args.table.now s c.self.inside.owners → v ≡ option_map view_of (way_in c.args.table.now s c.args.cell)) →
        IfOk result
        (λ v. (h : Heap) (r : RoleTable) → ArePlainLevels c.args.table.now r c.args.self.now → StandFor c.args.table.now r h →
        v ≡ option_map view_of (plain_way h (id_at c.args.table.now.cells c.args.cell)))
    go (Err e) found = found
    go (Ok v) found = λ h r levels stand.
        let p = c.args.table.now in
        let roots = search_of c.args.table.now r Roots (none_shut c.args.table.now) in
        let owners = search_of c.args.table.now r Owners (none_shut c.args.table.now) in
        let at_roots = subst (λ (l : LevelTable). AreLevelsOf c.args.table.now roots l) (sym (ap (λ (l : PlainTable). l.roots) c.self.view_is)) levels.roots in
        let at_owners = subst (λ (l : LevelTable). AreLevelsOf c.args.table.now owners l) (sym (ap (λ (l : PlainTable). l.owners) c.self.view_is)) levels.owners in
        second-shown (way_in p roots c.args.cell) (way_in p owners c.args.cell) v (sym c.in-None.is ∙ c.in_ok-path.ensures.path roots at_roots) (found owners at_owners)
        ∙ ap (option_map view_of) (plain-way-is p r h stand c.args.cell)
