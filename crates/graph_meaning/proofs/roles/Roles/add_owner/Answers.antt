use Rattle.std.proofs.Common.{◌≡◌, ◌<◌, ◌∷◌, [], ◌++◌, ◌∙◌, length, arith, ap, subst, sym, true, false, List, ℕ}
use Rattle.std.proofs.lemmas.List.{length-set}
use Rattle.graph_meaning.specs.declared.roles.Border.{Border}
use Rattle.graph_meaning.specs.Reach.{has_id}
use Rattle.graph_meaning.specs.Roles.{cells_of}
use Rattle.graph_meaning.specs.Owners.{HaveBorders, neither}
use Rattle.graph_meaning.proofs.Flags.{owners_few, HaveBorders-add}
use Rattle.graph_meaning.proofs.roles.Roles.add_owner.Goals as goal
use Rattle.graph_meaning.proofs.roles.Roles.add_owner.Goals.{After-self}

-- something is kept of the cell, which isn't among the owners
module _ (c : After-self) where
  in_borders : c.args.cell < length c.self.inside.borders
  in_borders = let (unshared, ownees, many, have, room) = c.self.invariant in omega (arith, ap cells_of c.self.view_is, many, c.requires.cell)

  is_new : has_id c.self.inside.owners.items c.args.cell ≡ false
  is_new = ap (λ r. has_id r.owners c.args.cell) c.self.view_is ∙ c.requires.new

pub push_reserved-requires : goal.push_reserved-requires
push_reserved-requires c =
    let i = c.self.inside in
    let at = (goal.at.push_reserved-requires c).After-self in
    let (unshared, ownees, many, have, room) = c.self.invariant in
    omega (arith, owners_few i.borders i.ownees i.owners.items c.args.cell have (in_borders at) (is_new at), room, i.owners.ok.0)

pub invariant_of-self : goal.invariant_of-self
invariant_of-self c =
    let i = c.self.inside in
    let at = (goal.at.invariant_of-self c).After-self in
    let (unshared, ownees, many, have, room) = c.self.invariant in
    let border : Border = record { owner = true; ownee = c.get.result.ownee } in
    let is = ap (λ (b : Border). let it : Border = record { owner = true; ownee = b.ownee } in it) (c.get.ensures neither ∙ have.each c.args.cell (in_borders at)) in
    let added = HaveBorders-add i.borders i.ownees i.owners.items c.args.cell have (in_borders at) (is_new at) border is in
    let put = c.set.ensures in
    let as_many : length c.set.new.self ≡ length i.dead = ap length put ∙ length-set i.borders c.args.cell border ∙ many in (
      unshared,
      ownees,
      as_many,
      subst (λ (os : List ℕ). HaveBorders c.set.new.self i.ownees os) (sym c.push_reserved.ensures.items)
          (subst (λ (bs : List Border). HaveBorders bs i.ownees (i.owners.items ++ c.args.cell ∷ [])) (sym put) added),
      omega (arith, room, many, as_many, c.push_reserved.ensures.capacity),
    )
