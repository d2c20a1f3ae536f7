use Rattle.std.proofs.Common.{rules, ◌≡◌, ◌+◌, ◌-◌, length, not, ap, arith}
use Rattle.std.proofs.lemmas.List.Sorted.{IsPartitionPoint-from_clause}
use Rattle.object_table.specs.Blocks.{begins_above}
use Rattle.object_table.proofs.Searches.{runs_parted, gap_first, last_parted, rises_in, in_list, in_list_below, named_in, gap_in}
use Rattle.object_table.proofs.blocks.Blocks.search.Goals as goal

-- each block begins above the name
pub returns-then-after-eq0-clause-gap : goal.returns-then-after-eq0-clause-gap
returns-then-after-eq0-clause-gap c =
    let point =
    IsPartitionPoint-from_clause (λ r. not (begins_above c.args.name.now r.entries)) c.deref.result.now c.partition_point-after.result
    c.partition_point-after.ensures.partitioned
    (rw c.deref.ensures.value (runs_parted c.self.inside.blocks.items c.args.name.now c.self.invariant (rw c.self.view_is c.requires.rising)))
    (λ a r f' called. search rules) in
    rw (← c.self.view_is)
    (gap_first c.self.inside.blocks.items c.args.name.now c.partition_point-after.result c.self.invariant (rw c.self.view_is c.requires.rising)
    (rw c.deref.ensures.value at point) c.if-after-eq0.true)

pub search-requires : goal.search-requires
search-requires c =
    let p =
    last_parted c.self.inside.blocks.items c.partition_point-after.result c.index-block.result.now c.self.invariant
    (rw (← c.deref.ensures.value) c.partition_point-after.ensures.bound) c.if-after-eq0.false c.index-block.ensures in
    rises_in _ _ _ p (rw c.self.view_is c.requires.rising)

pub overflow_add-result : goal.overflow_add-result
overflow_add-result c =
    let p =
    last_parted c.self.inside.blocks.items c.partition_point-after.result c.index-block.result.now c.self.invariant
    (rw (← c.deref.ensures.value) c.partition_point-after.ensures.bound) c.if-after-eq0.false c.index-block.ensures in
    omega (arith, c.start.ensures, c.requires.few, ap length c.self.view_is, in_list_below _ _ _ _ p c.in-Ok.ensures.in_range)

pub overflow_add-result-in-Err : goal.overflow_add-result-in-Err
overflow_add-result-in-Err c =
    let p =
    last_parted c.self.inside.blocks.items c.partition_point-after.result c.index-block.result.now c.self.invariant
    (rw (← c.deref.ensures.value) c.partition_point-after.ensures.bound) c.if-after-eq0.false c.index-block.ensures in
    omega (arith, c.start-in-Err.ensures, c.requires.few, ap length c.self.view_is, in_list _ _ _ _ p c.in-Err.ensures.in_range)

pub returns-in-Ok-clause-in_range : goal.returns-in-Ok-clause-in_range
returns-in-Ok-clause-in_range c =
    let p =
    last_parted c.self.inside.blocks.items c.partition_point-after.result c.index-block.result.now c.self.invariant
    (rw (← c.deref.ensures.value) c.partition_point-after.ensures.bound) c.if-after-eq0.false c.index-block.ensures in
    rw (c.start.ensures, ← c.self.view_is) (in_list_below _ _ _ _ p c.in-Ok.ensures.in_range)

pub returns-in-Ok-clause-found : goal.returns-in-Ok-clause-found
returns-in-Ok-clause-found c =
    let p =
    last_parted c.self.inside.blocks.items c.partition_point-after.result c.index-block.result.now c.self.invariant
    (rw (← c.deref.ensures.value) c.partition_point-after.ensures.bound) c.if-after-eq0.false c.index-block.ensures in
    rw (c.start.ensures, ← c.self.view_is) (named_in _ _ _ _ _ p c.in-Ok.ensures.in_range c.in-Ok.ensures.found)

pub returns-in-Err-clause-in_range : goal.returns-in-Err-clause-in_range
returns-in-Err-clause-in_range c =
    let p =
    last_parted c.self.inside.blocks.items c.partition_point-after.result c.index-block.result.now c.self.invariant
    (rw (← c.deref.ensures.value) c.partition_point-after.ensures.bound) c.if-after-eq0.false c.index-block.ensures in
    rw (c.start-in-Err.ensures, ← c.self.view_is) (in_list _ _ _ _ p c.in-Err.ensures.in_range)

-- the gap in the last block that doesn't begin above the name
pub returns-in-Err-clause-gap : goal.returns-in-Err-clause-gap
returns-in-Err-clause-gap c =
    let point =
    IsPartitionPoint-from_clause (λ r. not (begins_above c.args.name.now r.entries)) c.deref.result.now c.partition_point-after.result
    c.partition_point-after.ensures.partitioned
    (rw c.deref.ensures.value (runs_parted c.self.inside.blocks.items c.args.name.now c.self.invariant (rw c.self.view_is c.requires.rising)))
    (λ a r f' called. search rules) in
    let p =
    last_parted c.self.inside.blocks.items c.partition_point-after.result c.index-block.result.now c.self.invariant
    (rw (← c.deref.ensures.value) c.partition_point-after.ensures.bound) c.if-after-eq0.false c.index-block.ensures in
    let next : c.partition_point-after.result - 1 + 1 ≡ c.partition_point-after.result = omega arith in
    rw (c.start-in-Err.ensures, ← c.self.view_is)
    (gap_in c.self.inside.blocks.items c.args.name.now c.partition_point-after.result (c.partition_point-after.result - 1) c.in-Err.place
    c.index-block.result.now c.self.invariant (rw c.self.view_is c.requires.rising) p (rw c.deref.ensures.value at point) next
    c.in-Err.ensures.in_range c.in-Err.ensures.gap)
