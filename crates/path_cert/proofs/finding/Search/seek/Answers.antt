use Rattle.std.proofs.Common.{◌∷◌, [], refl, ◌∙◌}
use Rattle.std.proofs.lemmas.Bool.{or_right}
use Rattle.graph_meaning.specs.Heap.{targets}
use Rattle.graph_meaning.specs.Roles.{id_at}
use Rattle.graph_meaning.proofs.Membership.{has_id-append, has_id-head}
use Rattle.path_cert.specs.Quests.{SearchState, Quest}
use Rattle.path_cert.specs.Searches.{is_met_in_round, sought_in}
use Rattle.path_cert.proofs.QuestSteps.{searching-pop, searching-next, followed-still, work-held}
use Rattle.path_cert.proofs.finding.Search.seek.Goals as goal

pub loop-self-preserved : goal.loop-self-preserved
loop-self-preserved c =
    let p = c.args.table.now in
    let r = c.args.roles.now in
    let s = sought_in c.loop-self.self in
    let popped : SearchState = record { met = is_met_in_round c.loop-self.self; work = c.pop.new.self.items } in
    let then = sought_in c.follow.new.self in
    let cell = c.in-Some.cell in
    let was = c.loop-self.invariant in
    let reaches = c.in_ok-follow.ensures.reaches in
    record {
      each = c.follow.ensures.each ∙ was.each;
      held = work-held p r (targets p.table (id_at p.cells cell)) popped then cell c.loop-self.self.work.items reaches c.in-Some.ensures.items was.held;
      searching = λ owner followed searching.
          let q : Quest = record { placed = p; roles = r; owner = owner } in
          let now = was.searching owner followed searching in
          let but = searching-pop q c.requires.placed s popped cell now.1 c.in-Some.ensures.items (λ x. refl) in
          (followed-still q c.requires.placed cell popped then but.0 but.1 reaches owner now.0, searching-next q c.requires.placed cell popped then but.0 but.1 reaches);
    }

-- the cell that is taken stood in the worklist
pub follow-requires : goal.follow-requires
follow-requires c = record {
  each = c.loop-self.invariant.each ∙ c.requires.each;
  placed = c.requires.placed;
  roles = c.requires.roles.many_cells;
  cell =
      c.loop-self.invariant.held c.in-Some.cell
      (rw (c.in-Some.ensures.items, has_id-append c.pop.new.self.items (c.in-Some.cell ∷ []) c.in-Some.cell) (or_right _ _ (has_id-head [] c.in-Some.cell)));
}
