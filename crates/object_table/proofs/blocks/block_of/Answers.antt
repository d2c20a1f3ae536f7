use Rattle.std.proofs.Common.{rules, ◌-◌, ◌<◌, leb, arith}
use Rattle.std.proofs.lemmas.List.Sorted.{IsPartitionPoint-from_clause, IsPartitionedBy-leb}
use Rattle.object_table.proofs.Laid.{starts_rise, starts_before, run_found}
use Rattle.object_table.proofs.blocks.block_of.Goals as goal

-- the first block starts at 0
pub overflow_sub-result : goal.overflow_sub-result
overflow_sub-result c =
    let parted =
    IsPartitionPoint-from_clause (λ r. leb r.start c.args.place) c.args.blocks.now c.partition_point.result
    c.partition_point.ensures.partitioned
    (IsPartitionedBy-leb (λ r. r.start) c.args.blocks.now c.args.place (starts_rise c.args.blocks.now c.requires.laid))
    (λ a r f' called. search rules) in
    starts_before c.args.blocks.now c.args.place c.partition_point.result c.requires.laid c.requires.some parted

-- the last block that starts at the place or before it
pub returns : goal.returns
returns c =
    let parted =
    IsPartitionPoint-from_clause (λ r. leb r.start c.args.place) c.args.blocks.now c.partition_point.result
    c.partition_point.ensures.partitioned
    (IsPartitionedBy-leb (λ r. r.start) c.args.blocks.now c.args.place (starts_rise c.args.blocks.now c.requires.laid))
    (λ a r f' called. search rules) in
    let before : 0 < c.partition_point.result = starts_before c.args.blocks.now c.args.place c.partition_point.result c.requires.laid c.requires.some parted in
    run_found c.args.blocks.now c.args.place c.partition_point.result (c.partition_point.result - 1) c.requires.laid c.requires.in_range c.partition_point.ensures.bound (omega (arith, before)) parted
