use Rattle.std.proofs.Common.{◌≡◌, sym, ap, ◌∙◌, Option}
use Rattle.std.specs.Prelude.{IsSomeAnd}
use Rattle.std.specs.Option.{option_map}
use Rattle.std.proofs.lemmas.Result.{IfOk-weaker}
use Rattle.graph_meaning.specs.declared.paths.PathView.{PathView}
use Rattle.graph_meaning.specs.Assertions.{is_owned}
use Rattle.graph_meaning.specs.Collecting.{violating_ownees}
use Rattle.graph_meaning.specs.Heap.{Heap}
use Rattle.graph_meaning.specs.Paths.{canonical_way, root_ways, unowned_way, view_of}
use Rattle.graph_meaning.specs.Roles.{id_at}
use Rattle.object_table.specs.Placed.{id_in}
use Rattle.path_cert.specs.Levels.{Search, AreLevelsOf, way_in}
use Rattle.verdict_list.specs.Ownership.{AreViolating, unowned_search}
use Rattle.verdict_list.proofs.ViolatingOwnees.{listed-held, levels-made, levels-in}
use Rattle.verdict_list.proofs.ownership.OwnershipCheck.path.Goals as goal

pub path_by_levels-requires-clause-levels : goal.path_by_levels-requires-clause-levels
path_by_levels-requires-clause-levels c =
    levels-in c.args.table.now c.requires.check.0 c.args.self.now.levels c.requires.check.1.levels

pub path_by_levels-requires-clause-ownee : goal.path_by_levels-requires-clause-ownee
path_by_levels-requires-clause-ownee c =
    listed-held (id_in c.args.table.now) c.args.self.now.ownees (violating_ownees c.requires.check.0) c.requires.check.1.ownees c.args.ownee c.requires.ownee

pub returns : goal.returns
unfolding unowned_way
returns c =
    let p = c.args.table.now in
    let x = id_at p.cells c.args.ownee in
    record {
      path =
          IfOk-weaker c.path_by_levels.result
          (λ (v : Option PathView). (s : Search) → IsSomeAnd c.args.self.now.levels (AreLevelsOf p s) →
          v ≡ option_map view_of (way_in p s c.args.ownee))
          (λ (v : Option PathView). (h : Heap) → AreViolating p h c.args.self.now → v ≡ option_map view_of (unowned_way h x))
          (λ v says h are. says (unowned_search h) (levels-made p h c.args.self.now are c.args.ownee c.requires.ownee)
          ∙ ap (λ t. option_map view_of (canonical_way t (is_owned h) (root_ways h.table) x)) (sym are.table)) c.path_by_levels.ensures.path;
    }
