use Rattle.std.proofs.Common.{◌≡◌, ℕ, sym, ap, subst, ◌∙◌, Option, Some}
use Rattle.std.specs.Prelude.{Result, Ok, Err, IfOk}
use Rattle.std.specs.Option.{option_map}
use Rattle.heap_base.specs.declared.errors.OutOfMemory.{OutOfMemory}
use Rattle.graph_meaning.specs.declared.paths.PathView.{PathView}
use Rattle.graph_meaning.specs.Assertions.{by_slot}
use Rattle.graph_meaning.specs.Heap.{Heap, edge_of}
use Rattle.graph_meaning.specs.Paths.{Way, owner_way, reference_way, view_of}
use Rattle.graph_meaning.specs.Roles.{RoleTable, id_at}
use Rattle.object_table.specs.Placed.{PlacedTable, slot_in}
use Rattle.path_cert.specs.declared.start.Start.TheVariants.{Roots, Owners}
use Rattle.path_cert.specs.Levels.{LevelTable, AreLevelsOf, search_of, way_in}
use Rattle.path_cert.specs.Steps.{way_by_slot}
use Rattle.object_paths.specs.PlainPaths.{PlainTable, ArePlainLevels, WhereLevelsOf, none_shut}
use Rattle.object_paths.proofs.PlainWays.{by-first, no-first, by-second, by-start, by-holder, few-shown}
use Rattle.object_paths.proofs.plain_levels.PlainLevels.slot_path.Goals as goal

-- the levels from the roots and from the owners are those of the plain levels
module _ (p : PlacedTable) (r : RoleTable) (plain : PlainTable) (levels : ArePlainLevels p r plain) (from_roots from_owners : LevelTable)
    (are : (let l : PlainTable = record { roots = from_roots; owners = from_owners } in l) ≡ plain) where
  at_roots : AreLevelsOf p (search_of p r Roots (none_shut p)) from_roots
  at_roots = subst (λ (l : LevelTable). AreLevelsOf p (search_of p r Roots (none_shut p)) l) (sym (ap (λ (l : PlainTable). l.roots) are)) levels.roots

  at_owners : AreLevelsOf p (search_of p r Owners (none_shut p)) from_owners
  at_owners = subst (λ (l : LevelTable). AreLevelsOf p (search_of p r Owners (none_shut p)) l) (sym (ap (λ (l : PlainTable). l.owners) are)) levels.owners

-- the way from the roots to the object in a cell, and that from the owners
abbrev by_roots : PlacedTable → RoleTable → ℕ → Option Way
by_roots p r cell = way_in p (search_of p r Roots (none_shut p)) cell

abbrev by_owners : PlacedTable → RoleTable → ℕ → Option Way
by_owners p r cell = way_in p (search_of p r Owners (none_shut p)) cell

pub returns-in-Some-clause-path : goal.returns-in-Some-clause-path
returns-in-Some-clause-path c h r levels stand id leads =
    let p = c.args.table.now in
    let holder = c.args.holder in
    let shown = sym c.in-Some.is ∙ c.in_ok-path.ensures.path _ (at_roots p r c.args.self.now levels _ _ c.self.view_is) in
    by-first p.table (edge_of (slot_in p holder c.args.slot)) c.args.slot id leads (by_roots p r holder) (by_owners p r holder)
    (owner_way p.table (id_at p.cells holder)) c.in-Some.path shown
    ∙ by-holder p r h stand holder (c.args.slot, id)

pub returns-in-Some-2-clause-path : goal.returns-in-Some-2-clause-path
returns-in-Some-2-clause-path c h r levels stand id leads =
    let p = c.args.table.now in
    let holder = c.args.holder in
    let edge = edge_of (slot_in p holder c.args.slot) in
    let not_by_roots =
    no-first p.table edge c.args.slot id leads (by_roots p r holder) (sym c.in_default.is ∙ c.in_ok-path.ensures.path _ (at_roots p r c.args.self.now levels _ _ c.self.view_is)) in
    let shown = sym c.in-Some-2.is ∙ c.in_ok-path-2.ensures.path _ (at_owners p r c.args.self.now levels _ _ c.self.view_is) in
    by-second p.table edge c.args.slot id leads (by_roots p r holder) (by_owners p r holder) (owner_way p.table (id_at p.cells holder)) c.in-Some-2.path not_by_roots shown
    ∙ by-holder p r h stand holder (c.args.slot, id)

pub returns-in-None-clause-path : goal.returns-in-None-clause-path
returns-in-None-clause-path c = go c.owner_step.result c.owner_step.ensures.path
  where
    go : (result : Result PathView OutOfMemory) →
        IfOk result (λ v. Some v ≡ option_map view_of (way_by_slot c.args.table.now (owner_way c.args.table.now.table (id_at c.args.table.now.cells c.args.holder)) c.args.holder c.args.slot)) →
        IfOk result
        (λ v. (h : Heap) → WhereLevelsOf c.args.table.now h c.args.self.now ((id : ℕ) → edge_of (slot_in c.args.table.now c.args.holder c.args.slot) ≡ Some id →
        v ≡ view_of (reference_way h id (by_slot (id_at c.args.table.now.cells c.args.holder) c.args.slot))))
    go (Err e) found = found
    go (Ok v) found = λ h r levels stand id leads.
        let p = c.args.table.now in
        let holder = c.args.holder in
        let slot = c.args.slot in
        let none = sym c.in_default.is ∙ c.in_ok-path.ensures.path _ (at_roots p r c.args.self.now levels _ _ c.self.view_is) in
        let no_other = sym c.in-None.is ∙ c.in_ok-path-2.ensures.path _ (at_owners p r c.args.self.now levels _ _ c.self.view_is) in
        by-start p.table (edge_of (slot_in p holder slot)) slot id leads (by_roots p r holder) (by_owners p r holder) (owner_way p.table (id_at p.cells holder)) v
        (no-first p.table (edge_of (slot_in p holder slot)) slot id leads (by_roots p r holder) none)
        (no-first p.table (edge_of (slot_in p holder slot)) slot id leads (by_owners p r holder) no_other) found
        ∙ by-holder p r h stand holder (slot, id)

pub returns-in-None-clause-few : goal.returns-in-None-clause-few
returns-in-None-clause-few c = few-shown _ c.owner_step.result c.owner_step.ensures.path
