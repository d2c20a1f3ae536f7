use Rattle.std.proofs.Common.{ℕ, false, length, map, sym, ap, subst, get_or}
use Rattle.graph_meaning.specs.Paths.{ways_from}
use Rattle.graph_meaning.specs.Roles.{id_at}
use Rattle.path_cert.specs.declared.start.Start.{Start}
use Rattle.path_cert.specs.declared.start.Start.TheVariants.{Owners, Roots}
use Rattle.path_cert.specs.Levels.{LevelTable, AreLevelsOf, search_of, sources_of, is_new}
use Rattle.path_cert.specs.Frontiers.{HasTaken, FrontGrows}
use Rattle.path_cert.specs.Fronts.{front_of}
use Rattle.path_cert.proofs.ByIds.{by_id-held, owners-held}
use Rattle.path_cert.proofs.FirstLevel.{nothing-arrived, taken-nothing}
use Rattle.path_cert.proofs.LevelSteps.{at-first}
use Rattle.path_cert.proofs.searching.levels.Goals as goal
use Rattle.path_cert.proofs.searching.levels.Goals.{in-Roots, in-Owners}

pub take_owners-requires-clause-owners : goal.take_owners-requires-clause-owners
take_owners-requires-clause-owners c =
    owners-held c.args.table.now.cells (length c.args.table.now.table.kinds) c.args.roles.now c.owners.result.now c.owners.ensures c.requires.roles

pub of-requires : goal.of-requires
of-requires c = c.in_ok-ancestors.ensures

pub returns : goal.returns
returns c =
    let p = c.args.table.now in
    let start = c.args.start in
    let s = search_of c.args.table.now c.args.roles.now c.args.start c.args.shut.now in
    let f = front_of c.match-start.search in
    let begin = front_of c.in_ok-search.search in
    let by_cell = by_id-held p c.cells.ensures.placed (λ cell. get_or c.args.shut.now cell false) in
    let taken : HasTaken c.args.table.now c.args.start (sources_of c.args.table.now c.args.roles.now c.args.start) (front_of c.match-start.search) = elim c.match-start.branch [
      | in-Roots w ↦
          rw w.search-is (subst (λ (st : Start). HasTaken p st (sources_of p c.args.roles.now st) (front_of w.take_roots.new.self)) (sym w.in-Roots.is) w.take_roots.ensures.taken)
      | in-Owners w ↦
          let taken = subst (λ owners. HasTaken p Owners (ways_from p.table (map (id_at p.cells) owners)) (front_of w.take_owners.new.self)) w.owners.ensures w.take_owners.ensures.taken in
          rw w.search-is (subst (λ (st : Start). HasTaken p st (sources_of p c.args.roles.now st) (front_of w.take_owners.new.self)) (sym w.in-Owners.is) taken)
    ] in
    let grows : FrontGrows c.args.table.now (front_of c.in_ok-search.search) (front_of c.match-start.search) = elim c.match-start.branch [
      | in-Roots w ↦ rw w.search-is w.take_roots.ensures.grows
      | in-Owners w ↦ rw w.search-is w.take_owners.ensures.grows
    ] in
    let all_new = λ (cell : ℕ). ap is_new (nothing-arrived c.cells.result begin c.in_ok-search.ensures.arrivals cell) in
    let begun = at-first p c.cells.ensures.placed c.cells.ensures.sound.ids.rising s f begin taken grows c.in_ok-search.ensures.order all_new in
    record {
      levels = subst (λ (l : LevelTable). AreLevelsOf p s l) (sym c.of.ensures) (c.take_levels.ensures.levels s by_cell begun);
    }

pub take_roots-requires-clause-nothing : goal.take_roots-requires-clause-nothing
take_roots-requires-clause-nothing c = taken-nothing c.args.table.now Roots c.cells.result (front_of c.in_ok-search.search) c.cells.ensures.count c.in_ok-search.ensures.arrivals
