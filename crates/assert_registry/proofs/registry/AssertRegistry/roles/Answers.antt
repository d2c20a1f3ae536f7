use Rattle.std.proofs.Common.{◌≡◌, ℕ, arith, ◌||◌, false, List, Option, None, Some, IsTrue, IsSome, length, get_or, map, replicate, sym, ap, subst, ◌∙◌}
use Rattle.std.specs.List.{All}
use Rattle.std.specs.Map.{keys_of, values_of}
use Rattle.std.proofs.lemmas.List.Elements.{All-weaker, All-filter}
use Rattle.graph_meaning.specs.declared.roles.OwnerRole.{OwnerRole}
use Rattle.graph_meaning.specs.declared.roles.OwnerRole.TheVariants.{NotOwned}
use Rattle.graph_meaning.specs.Heap.{ids, is_live}
use Rattle.graph_meaning.specs.Laws.{AllLive}
use Rattle.graph_meaning.specs.Reach.{has_id}
use Rattle.graph_meaning.specs.Roles.{RoleTable}
use Rattle.graph_meaning.proofs.HeapLemmas.{has_id-ids}
use Rattle.graph_meaning.proofs.Membership.{All-has_id}
use Rattle.assert_registry.specs.Assertions.{Assertions, limit_of, AreConsistent, AreOfSeenTypes}
use Rattle.assert_registry.specs.ByCell.{IsRoleBy, holds_one_of, owner_at}
use Rattle.assert_registry.specs.IdSet.{set_of}
use Rattle.assert_registry.proofs.IdSet.{All-set_of, holds_one_of-set_of, sorted-live_owners}
use Rattle.assert_registry.proofs.Marking.{get_or-replicate_same}
use Rattle.assert_registry.proofs.RolesOfTable.{roles_of_table}
use Rattle.assert_registry.proofs.registry.AssertRegistry.roles.Goals as goal

pub set_dead-requires-clause-live : goal.set_dead-requires-clause-live
set_dead-requires-clause-live c =
    let t = c.args.table.now.table in
    let set : set_of c.as_slice.result.now ≡ c.args.self.now.dead = c.as_slice.ensures ∙ ap (λ (a : Assertions). a.dead) c.self.view_is in
    All-set_of (λ id. IsTrue (is_live t id)) c.as_slice.result.now (subst (AllLive t) (sym set) c.requires.dead)

pub set_unshared-requires-clause-live : goal.set_unshared-requires-clause-live
set_unshared-requires-clause-live c =
    let t = c.args.table.now.table in
    let set : set_of c.as_slice-2.result.now ≡ c.args.self.now.unshared = c.as_slice-2.ensures ∙ ap (λ (a : Assertions). a.unshared) c.self.view_is in
    All-set_of (λ id. IsTrue (is_live t id)) c.as_slice-2.result.now (subst (AllLive t) (sym set) c.requires.unshared)

pub set_owners-requires-clause-live : goal.set_owners-requires-clause-live
set_owners-requires-clause-live c = subst (λ (a : Assertions). AllLive c.args.table.now.table (keys_of a.owners)) (sym c.self.view_is) c.requires.ownees

pub set_limits-requires-clause-below : goal.set_limits-requires-clause-below
set_limits-requires-clause-below c kind limited =
    let seen = subst (λ (a : Assertions). AreOfSeenTypes a.limits c.args.table.now.table.kinds) (sym c.self.view_is) c.requires.limits in
    let below = seen kind (subst (λ (limits : List (Option ℕ)). IsSome (limit_of limits kind)) c.deref.ensures.value limited) in
    let count = c.kinds-2.ensures.count in
    omega (arith, below, count)

pub add_owners-requires-clause-live : goal.add_owners-requires-clause-live
add_owners-requires-clause-live c =
    let t = c.args.table.now.table in
    let owners = c.self.inside.owners.entries in
    let live : All (λ x. IsTrue (is_live t x)) (ids t) = All-weaker (λ x. IsTrue (has_id (ids t) x)) (λ x. IsTrue (is_live t x)) (λ x at. sym (has_id-ids t x) ∙ at) (ids t) (All-has_id (ids t)) in
    rw (c.deref-2.ensures.value, c.in_ok-live.ensures) (All-filter (has_id (values_of owners)) (λ x. IsTrue (is_live t x)) (ids t) live)

pub add_owners-requires-clause-rising : goal.add_owners-requires-clause-rising
add_owners-requires-clause-rising c =
    rw (c.deref-2.ensures.value, c.in_ok-live.ensures) (sorted-live_owners c.args.table.now.table c.self.inside.owners.entries c.cells.ensures.sound.ids)

-- The roles were set part by part: no later step changed what an earlier one set.
module _ (c : goal.After-drop-live) where
  dead_set : c.add_owners.new.roles.dead ≡ c.set_dead.new.roles.dead
  dead_set =
      ap (λ (r : RoleTable). r.dead) c.add_owners.ensures.rest
      ∙ ap (λ (r : RoleTable). r.dead) c.set_owners.ensures.rest
      ∙ ap (λ (r : RoleTable). r.dead) c.set_limits.ensures.rest
      ∙ ap (λ (r : RoleTable). r.dead) c.set_unshared.ensures.rest

  unshared_set : c.add_owners.new.roles.unshared ≡ c.set_unshared.new.roles.unshared
  unshared_set =
      ap (λ (r : RoleTable). r.unshared) c.add_owners.ensures.rest
      ∙ ap (λ (r : RoleTable). r.unshared) c.set_owners.ensures.rest
      ∙ ap (λ (r : RoleTable). r.unshared) c.set_limits.ensures.rest

  limits_set : c.add_owners.new.roles.limits ≡ c.set_limits.new.roles.limits
  limits_set =
      ap (λ (r : RoleTable). r.limits) c.add_owners.ensures.rest ∙ ap (λ (r : RoleTable). r.limits) c.set_owners.ensures.rest

  none_before : c.set_dead.new.roles.unshared ≡ replicate c.cells.result false
  none_before =
      ap (λ (r : RoleTable). r.unshared) c.set_dead.ensures.rest ∙ ap (λ (r : RoleTable). r.unshared) c.in_ok-roles.ensures

pub returns-clause-by_assertions : goal.returns-clause-by_assertions
returns-clause-by_assertions c =
    let p = c.args.table.now in
    let dead = c.as_slice.result.now in
    let unshared = c.as_slice-2.result.now in
    rw (← c.self.view_is) (record {
      dead =
          λ cell. ap (λ fs. get_or fs cell false) (dead_set c) ∙ c.set_dead.ensures.set cell
          ∙ ap (λ (r : RoleTable). get_or r.dead cell false || holds_one_of p dead cell) c.in_ok-roles.ensures
          ∙ ap (λ b. b || holds_one_of p dead cell) (get_or-replicate_same c.cells.result cell false)
          ∙ sym (holds_one_of-set_of p dead cell)
          ∙ ap (λ ids. holds_one_of p ids cell) c.as_slice.ensures;
      unshared =
          λ cell. ap (λ fs. get_or fs cell false) (unshared_set c) ∙ c.set_unshared.ensures.set cell
          ∙ ap (λ fs. get_or fs cell false || holds_one_of p unshared cell) (none_before c)
          ∙ ap (λ b. b || holds_one_of p unshared cell) (get_or-replicate_same c.cells.result cell false)
          ∙ sym (holds_one_of-set_of p unshared cell)
          ∙ ap (λ ids. holds_one_of p ids cell) c.as_slice-2.ensures;
      ownees =
          λ cell. subst (λ (rs : List OwnerRole). IsRoleBy p (owner_at p c.self.inside.owners.entries cell) (get_or rs cell NotOwned))
          (sym (ap (λ (r : RoleTable). r.ownees) c.add_owners.ensures.rest)) (c.set_owners.ensures.set cell);
      limits = λ kind. ap (λ ls. get_or ls kind None) (limits_set c) ∙ c.set_limits.ensures.set kind ∙ ap (λ ls. get_or ls kind None) c.deref.ensures.value;
      owners = c.add_owners.ensures.added ∙ ap (map Some) (c.deref-2.ensures.value ∙ c.in_ok-live.ensures);
    })

pub returns-clause-of_table : goal.returns-clause-of_table
returns-clause-of_table c =
    let consistent : AreConsistent c.args.self.now = rw (← c.self.view_is) c.self.invariant.0 in
    roles_of_table c.args.self.now c.args.table.now c.add_owners.new.roles c.cells.ensures.placed c.cells.ensures.sound.ids consistent c.requires (returns-clause-by_assertions c)
    (ap length (dead_set c) ∙ c.set_dead.ensures.cells.dead)
    (ap length (limits_set c) ∙ c.set_limits.ensures.kinds ∙ c.kinds-2.ensures.count)
