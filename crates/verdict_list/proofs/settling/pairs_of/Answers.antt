use Rattle.std.proofs.Common.{◌≡◌, ◌&&◌, get_or, refl, sym, ap, ◌∙◌, arith}
use Rattle.std.specs.Prelude.{IsSome}
use Rattle.std.proofs.lemmas.List.{take_all}
use Rattle.graph_meaning.specs.declared.roles.OwnerRole.TheVariants.{OwnerCell}
use Rattle.graph_meaning.specs.Reach.{has_id}
use Rattle.graph_meaning.specs.Roles.{owner_in}
use Rattle.object_table.specs.Placed.{id_in}
use Rattle.path_cert.proofs.HeldObjects.{held-id, held-within}
use Rattle.verdict_list.specs.Cells.{is_kept}
use Rattle.verdict_list.proofs.Pairs.{pairs-owned, pairs-none, objects-more}
use Rattle.verdict_list.proofs.settling.pairs_of.Goals as goal
use Rattle.verdict_list.proofs.settling.pairs_of.Goals.{in-OwnerCell+in_ok-push, in_default}

pub loop-ownee-preserved : goal.loop-ownee-preserved
loop-ownee-preserved c =
    let p = c.args.asked.table.now in
    let r = c.args.asked.roles.now in
    let ownees = c.args.asked.ownees.now in
    let i = c.loop-ownee.ownee-index in
    let y = get_or c.args.asked.ownees.now i 0 in
    let pairs = c.loop-ownee.pairs.items in
    let was = c.loop-ownee.invariant in
    let held : IsSome (id_in c.args.asked.table.now (get_or c.args.asked.ownees.now c.loop-ownee.ownee-index 0)) = c.requires.ownees i 0 c.loop-ownee-test.true in
    elim c.match-owner.branch [
      | in-OwnerCell+in_ok-push w ↦
          let owner = w.in-OwnerCell.owner in
          let role : owner_in r y ≡ OwnerCell owner = sym c.owner.ensures ∙ w.in-OwnerCell.is in
          rw (w.pairs-is, w.in_ok-push.ensures.items) (record {
            objects = objects-more p pairs (record { owner = owner; ownee = y }) was.objects ((c.requires.roles.by_others y owner role).1, held);
            found = λ x. pairs-owned p r pairs ownees i owner x c.loop-ownee-test.true role (was.found x);
          })
      | in_default w ↦
          rw w.pairs-is (record {
            objects = was.objects;
            found = λ x. pairs-none p r pairs ownees i x c.loop-ownee-test.true (λ owner is. w.in_default.not-OwnerCell owner (c.owner.ensures ∙ is)) (was.found x);
          })
    ]

pub loop-ownee-init : goal.loop-ownee-init
loop-ownee-init c = rw c.new-pairs.ensures.items (record { objects = λ k d within. absurd (omega arith); found = λ x. refl })

pub unreachable-prove : goal.unreachable-prove
unreachable-prove c =
    let p = c.args.asked.table.now in
    let held = held-id p _ (c.requires.ownees c.loop-ownee.ownee-index 0 c.loop-ownee-test.true) in
    omega (arith, c.if-prove.true, held-within p _ _ held, c.cells-cells.ensures.count)

pub owner-requires : goal.owner-requires
owner-requires c = omega (arith, c.if-prove.false, c.requires.roles.many_cells, c.cells-cells.ensures.count)

pub returns : goal.returns
returns c =
    let p = c.args.asked.table.now in
    let r = c.args.asked.roles.now in
    let all = take_all c.loop-ownee.ownee-index c.args.asked.ownees.now c.loop-ownee-test.false in
    record { objects = c.loop-ownee.invariant.objects; found = λ x. c.loop-ownee.invariant.found x ∙ ap (λ xs. has_id xs x && is_kept p r x) all }
