use Rattle.std.proofs.Common.{◌∙◌, ap, length, map, arith}
use Rattle.object_table.specs.Placed.{id_in}
use Rattle.verdict_list.proofs.listing.first_verdicts.Goals as goal

pub verdicts_on-requires-clause-found : goal.verdicts_on-requires-clause-found
verdicts_on-requires-clause-found g c = record {
  dead = rw c.deref.ensures.value c.in_ok-dead.ensures.taken;
  kinds = rw c.deref-2.ensures.value c.in_ok-kinds.ensures.seen;
  unshared = rw c.deref-3.ensures.value c.in_ok-unshared.ensures.taken;
  once = rw c.deref-3.ensures.value c.in_ok-unshared.ensures.once;
  few = omega (
    arith,
    ap length c.deref.ensures.value,
    ap length c.deref-2.ensures.value,
    ap length c.deref-3.ensures.value,
    c.in_ok-dead.ensures.few,
    c.in_ok-kinds.ensures.few,
    c.in_ok-unshared.ensures.few,
  );
}

pub returns-clause-verdicts : goal.returns-clause-verdicts
returns-clause-verdicts g c h are =
    let p = c.args.counted.now.table.now in
    let tell = c.in_ok-kinds.ensures.tell h are in
    c.in_ok-list.ensures.verdicts h are (record {
      dead = ap (map (id_in p)) c.deref.ensures.value ∙ c.in_ok-dead.ensures.violators h are;
      kinds = rw c.deref-2.ensures.value (c.in_ok-kinds.ensures.kinds h are);
      tell = rw c.deref-2.ensures.value (record {
        says = tell.says;
        first = λ less. tell.first (omega (arith, less, ap length c.deref.ensures.value, c.len.ensures, c.saturating_sub-left.ensures));
      });
      unshared = ap (map (id_in p)) c.deref-3.ensures.value ∙ c.in_ok-unshared.ensures.violators h are;
    })
