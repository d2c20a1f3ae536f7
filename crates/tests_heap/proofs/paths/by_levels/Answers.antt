use Rattle.tests_heap.proofs.paths.by_levels.Goals as goal

pub path-requires-clause-table : goal.path-requires-clause-table
path-requires-clause-table c = c.requires

pub path_then-requires-clause-table : goal.path_then-requires-clause-table
path_then-requires-clause-table c = c.requires
