use Rattle.std.proofs.Common.{◌≡◌, ◌+◌, ◌∷◌, ◌++◌, [], Some, map, drop, ap, subst, ◌∙◌, sym}
use Rattle.std.specs.List.Sorted.{IsStrictlySortedBy}
use Rattle.std.specs.Ordering.{nat_cmp}
use Rattle.std.proofs.lemmas.Map.Keys.{sorted_tail}
use Rattle.graph_meaning.specs.Roles.{RoleTable}
use Rattle.object_table.specs.Placed.{id_in}
use Rattle.assert_registry.proofs.Adding.{AreBelow, is_new, below_more, added_more}
use Rattle.assert_registry.proofs.Marking.{drop_next}
use Rattle.assert_registry.proofs.roles.add_owners.Goals as goal

pub add_owner-requires-clause-new : goal.add_owner-requires-clause-new
add_owner-requires-clause-new c =
    let p = c.args.table.now in
    let id = c.id-item.result in
    let owners = c.loop-id.roles.owners in
    let ids = c.args.owners.now in
    let i = c.loop-id.id-index in
    let left = drop (i + 1) ids in
    let first : drop i ids ≡ id ∷ left = drop_next ids i id c.loop-id-test.true c.id-item.is in
    is_new p owners left id c.live_cell.result c.live_cell.ensures.cell (subst (AreBelow p owners) first c.loop-id.invariant.below)

pub loop-id-preserved : goal.loop-id-preserved
loop-id-preserved c =
    let so_far = c.loop-id.invariant in
    let p = c.args.table.now in
    let id = c.id-item.result in
    let cell = c.live_cell.result in
    let owners = c.loop-id.roles.owners in
    let ids = c.args.owners.now in
    let i = c.loop-id.id-index in
    let left = drop (i + 1) ids in
    let first : drop i ids ≡ id ∷ left = drop_next ids i id c.loop-id-test.true c.id-item.is in
    let held = c.live_cell.ensures.cell in
    let sorted = subst (IsStrictlySortedBy nat_cmp) first so_far.sorted in
    rw c.add_owner.ensures (record {
      cells = record { dead = so_far.cells.dead; unshared = so_far.cells.unshared; ownees = so_far.cells.ownees };
      sorted = sorted_tail nat_cmp id left sorted;
      below = below_more p owners left id cell held sorted (subst (AreBelow p owners) first so_far.below);
      added = added_more p owners left id cell held (map Some ids) (ap (λ xs. map (id_in p) owners ++ map Some xs) (sym first) ∙ so_far.added);
      rest = ap (λ (r : RoleTable). record r { owners = owners ++ cell ∷ [] }) so_far.rest;
    })
