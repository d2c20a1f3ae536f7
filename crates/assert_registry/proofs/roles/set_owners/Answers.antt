use Rattle.std.proofs.Common.{◌≡◌, ◌<◌, ◌∷◌, IsTrue, Some, inr, refl, length, set, ap, subst, sym, ◌∙◌, arith}
use Rattle.std.specs.List.{All}
use Rattle.std.specs.Map.{keys_of}
use Rattle.std.proofs.lemmas.List.{length-set}
use Rattle.std.proofs.lemmas.List.Elements.{All-rest, All-head}
use Rattle.graph_meaning.specs.Heap.{is_live}
use Rattle.graph_meaning.specs.Roles.{RoleTable}
use Rattle.graph_meaning.specs.Laws.{AllLive}
use Rattle.assert_registry.specs.Assertions.{owner_of}
use Rattle.assert_registry.specs.ByCell.{IsRoleBy}
use Rattle.assert_registry.proofs.Marking.{HasRoleSoFar, role_more}
use Rattle.assert_registry.proofs.roles.set_owners.Goals as goal

pub loop-ownee-init : goal.loop-ownee-init
loop-ownee-init c =
    let began = c.into_iter-ownee-iterator.ensures.into_iter_gives in
    rw began.0 (record {
      cells = c.requires.cells;
      live = c.requires.live;
      owned = began.6;
      set = λ cell. inr (c.requires.none cell, refl);
      last = tt;
      rest = refl;
    })

pub live_cell-requires : goal.live_cell-requires
live_cell-requires c =
    let t = c.args.table.now.table in
    let first : c.loop-ownee.ownee-iterator ≡ (c.in-Some.ownee.now, c.in-Some.owner.now) ∷ c.next.new.self = c.in-Some.ensures.steps in
    All-head (λ x. IsTrue (is_live t x)) c.in-Some.ownee.now (keys_of c.next.new.self) (subst (λ es. AllLive t (keys_of es)) first c.loop-ownee.invariant.live)

pub loop-ownee-preserved : goal.loop-ownee-preserved
loop-ownee-preserved c =
    let i = c.loop-ownee.invariant in
    let p = c.args.table.now in
    let owners = c.args.owners.now.entries in
    let ownee = c.in-Some.ownee.now in
    let owner = c.in-Some.owner.now in
    let cell = c.live_cell.result in
    let role = c.known_owner-known.result.role in
    let roles = c.loop-ownee.roles.ownees in
    let left = c.next.new.self in
    let first : c.loop-ownee.ownee-iterator ≡ (ownee, owner) ∷ left = c.in-Some.ensures.steps in
    let within : cell < length roles = omega (arith, c.live_cell.ensures.below, i.cells.ownees) in
    let owned = subst (All (λ o. owner_of owners o.0 ≡ Some o.1)) first i.owned in
    let found : owner_of owners ownee ≡ Some owner = All-head (λ o. owner_of owners o.0 ≡ Some o.1) (ownee, owner) left owned in
    rw c.set_owner.ensures (record {
      cells = record { dead = i.cells.dead; unshared = i.cells.unshared; ownees = length-set roles cell role ∙ i.cells.ownees };
      live = All-rest (λ x. IsTrue (is_live p.table x)) ownee (keys_of left) (keys_of c.loop-ownee.ownee-iterator) (ap keys_of first) i.live;
      owned = All-rest (λ o. owner_of owners o.0 ≡ Some o.1) (ownee, owner) left c.loop-ownee.ownee-iterator first i.owned;
      set =
          λ other. role_more p c.requires.placed owners left roles ownee owner cell role c.live_cell.ensures.cell found c.known_owner-known.ensures.role within
          other (subst (λ es. HasRoleSoFar p owners es roles other) first (i.set other));
      last = subst (λ o. IsRoleBy p (Some o) role) (sym c.known_owner-known.ensures.owner) c.known_owner-known.ensures.role;
      rest = ap (λ (r : RoleTable). record r { ownees = set roles cell role }) i.rest;
    })
