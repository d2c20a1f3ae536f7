use Rattle.std.proofs.Common.{Bool, List, ◌∷◌, [], ◌++◌, map, take, get_or, sym, ap, ◌∙◌, arith}
use Rattle.std.proofs.lemmas.List.{map-append, take_all, take_more}
use Rattle.path_cert.specs.Finds.{finds_in}
use Rattle.path_cert.specs.Quests.{Quest}
use Rattle.path_cert.specs.Searches.{sought_in}
use Rattle.path_cert.proofs.HeldObjects.{held-id, held-within}
use Rattle.path_cert.proofs.QuestSteps.{searching-begin, searching-next, searching-held, followed, met-finds}
use Rattle.path_cert.proofs.finding.Search.ask.Goals as goal

pub loop-ownee-init : goal.loop-ownee-init
loop-ownee-init c =
    let placed = c.cells-cells.ensures.placed in
    let owner = c.args.quest.owner in
    let q : Quest = record { placed = c.args.quest.table.now; roles = c.args.quest.roles.now; owner = c.args.quest.owner } in
    let begin = sought_in c.begin.new.self in
    let first = sought_in c.follow.new.self in
    let begun = searching-begin q placed begin c.begin.ensures.met c.begin.ensures.work in
    let reaches = c.in_ok-follow.ensures.reaches in
    let next = searching-next q placed owner begin first begun.0 begun.1 reaches in
    record {
      each = c.follow.ensures.each ∙ c.begin.ensures.each;
      room = omega (arith, c.in_ok-found.ensures.capacity);
      held = searching-held q first next;
      followed = followed q placed owner begin first begun.0 begun.1 reaches;
      searching = next;
      found = c.in_ok-found.ensures.items;
    }

pub loop-ownee-preserved : goal.loop-ownee-preserved
loop-ownee-preserved c =
    let p = c.args.quest.table.now in
    let r = c.args.quest.roles.now in
    let q : Quest = record { placed = c.args.quest.table.now; roles = c.args.quest.roles.now; owner = c.args.quest.owner } in
    let i = c.loop-ownee.ownee-index in
    let ownees = c.args.ownees.now in
    let ownee = get_or c.args.ownees.now c.loop-ownee.ownee-index 0 in
    let finds = finds_in p r c.args.quest.owner in
    let was = c.loop-ownee.invariant in
    let now = c.in_ok-seek.ensures.searching c.args.quest.owner was.followed was.searching in
    let met = c.in_ok-seek.ensures.met in
    let held = c.requires.ownees i 0 c.loop-ownee-test.true in
    let is = met ∙ met-finds q c.cells-cells.ensures.placed (sought_in c.seek.new.self) now.1 now.0 ownee held (λ none. c.in_ok-seek.ensures.done (met ∙ none)) in
    record {
      each = c.seek.ensures.each ∙ was.each;
      room = omega (arith, was.room, c.push_reserved.ensures.capacity);
      held = c.in_ok-seek.ensures.work;
      followed = now.0;
      searching = now.1;
      found =
          c.push_reserved.ensures.items
          ∙ ap (λ (xs : List Bool). xs ++ c.in_ok-seek.field-0 ∷ []) was.found
          ∙ ap (λ b. map finds (take i ownees) ++ b ∷ []) is
          ∙ sym (map-append finds (take i ownees) (ownee ∷ []))
          ∙ sym (ap (map finds) (take_more ownees i 0 c.loop-ownee-test.true));
    }

pub seek-requires : goal.seek-requires
seek-requires c = record {
  each = c.loop-ownee.invariant.each ∙ c.requires.each;
  placed = c.cells-cells.ensures.placed;
  roles = c.requires.roles;
  ownee =
      (let held = held-id c.args.quest.table.now _ (c.requires.ownees c.loop-ownee.ownee-index 0 c.loop-ownee-test.true) in
      held-within c.args.quest.table.now _ _ held);
  work = c.loop-ownee.invariant.held;
}

pub returns : goal.returns
returns c = record {
  each = c.loop-ownee.invariant.each;
  found =
      c.loop-ownee.invariant.found
      ∙ ap (map (finds_in c.args.quest.table.now c.args.quest.roles.now c.args.quest.owner)) (take_all c.loop-ownee.ownee-index c.args.ownees.now c.loop-ownee-test.false);
}

pub follow-requires : goal.follow-requires
follow-requires c = record {
  each = c.begin.ensures.each ∙ c.requires.each;
  placed = c.cells-cells.ensures.placed;
  roles = c.requires.roles.many_cells;
  cell = c.requires.owner;
}
