use Rattle.std.proofs.Common.{◌≡◌, ◌<◌, true, false, length, replicate, None, ap, sym, ◌∙◌, arith}
use Rattle.std.specs.Option.{IsSome, is_some}
use Rattle.std.proofs.lemmas.List.{length-set, length-replicate}
use Rattle.graph_meaning.specs.Assertions.{is_traced}
use Rattle.graph_meaning.specs.Heap.{kind_at}
use Rattle.graph_meaning.specs.Roles.{no_roles}
use Rattle.object_table.specs.Placed.{id_in}
use Rattle.assert_registry.proofs.Marking.{get_or-replicate_same}
use Rattle.path_cert.proofs.HeldObjects.{held-within, id-held, kind-in_range, kind-is}
use Rattle.verdict_list.specs.Kinds.{name_of}
use Rattle.verdict_list.proofs.ByIds.{nth_id}
use Rattle.verdict_list.proofs.Counting.{counted_none, counted_past, counted_more, few_more, named_at, no_count}
use Rattle.plain_collection.proofs.Counts.{counts-instances}
use Rattle.plain_collection.proofs.instances.count_instances.Goals as goal
use Rattle.plain_collection.proofs.instances.count_instances.Goals.{then-kept-cell, else-kept-cell}

pub loop-number-init : goal.loop-number-init
loop-number-init c =
    let p = c.args.table.now in
    let n = c.kinds.result in
    rw c.in_ok-counts.ensures (record {
      counts = length-replicate n 0 ∙ c.kinds.ensures.count;
      few = no_count n;
      counted =
          λ h trace. (
            replicate n None,
            length-replicate n None ∙ c.kinds.ensures.count,
            counted_none p (no_roles 0 0) h (replicate n 0) (replicate n None) (λ kind. get_or-replicate_same n kind 0) (λ kind. get_or-replicate_same n kind None),
          );
    })

pub bounds-kept-cell : goal.bounds-kept-cell
bounds-kept-cell c =
    let (id, held, at) =
    nth_id c.args.table.now c.loop-number.number c.nth_cell-cell.result c.live-number-end.result c.nth_cell-cell.ensures.cell c.loop-number-test.true c.live-number-end.ensures.count in
    omega (arith, held-within c.args.table.now c.nth_cell-cell.result id held, c.requires)

pub kind_at-requires : goal.kind_at-requires
kind_at-requires c =
    let (id, held, at) =
    nth_id c.args.table.now c.loop-number.number c.nth_cell-cell.result c.live-number-end.result c.nth_cell-cell.ensures.cell c.loop-number-test.true c.live-number-end.ensures.count in
    record { taken = ap is_some held }

pub count_one-requires-clause-kind : goal.count_one-requires-clause-kind
count_one-requires-clause-kind c =
    let (id, held, at) =
    nth_id c.args.table.now c.loop-number.number c.nth_cell-cell.result c.live-number-end.result c.nth_cell-cell.ensures.cell c.loop-number-test.true c.live-number-end.ensures.count in
    let within = kind-in_range c.args.table.now c.cells-all.ensures.placed c.nth_cell-cell.result c.kind_at.result (ap is_some held) c.kind_at.ensures.number in
    omega (arith, within, c.loop-number.invariant.counts)

pub count_one-requires-clause-few : goal.count_one-requires-clause-few
count_one-requires-clause-few c =
    omega (arith, c.loop-number.invariant.few c.kind_at.result, c.loop-number-test.true, c.live-number-end.ensures.count, c.cells-all.ensures.sound.limits.objects, c.cells-all.ensures.sound.limits.possible.objects)

pub loop-number-preserved : goal.loop-number-preserved
loop-number-preserved c =
    let p = c.args.table.now in
    let i = c.loop-number.invariant in
    let (id, held, at) = nth_id p c.loop-number.number c.nth_cell-cell.result c.live-number-end.result c.nth_cell-cell.ensures.cell c.loop-number-test.true c.live-number-end.ensures.count in
    elim c.if-kept-cell.branch [
      | then-kept-cell w ↦
          let number = w.kind_at.result in
          let taken : IsSome (id_in p c.nth_cell-cell.result) = ap is_some held in
          let within : number < length p.table.kinds = kind-in_range p c.cells-all.ensures.placed c.nth_cell-cell.result number taken w.kind_at.ensures.number in
          let named : kind_at p.table id ≡ name_of p number =
          ap (kind_at p.table) (sym (id-held p c.nth_cell-cell.result id held))
          ∙ sym (kind-is p c.cells-all.ensures.placed c.nth_cell-cell.result number taken w.kind_at.ensures.number (name_of p number) (named_at p number within)) in
          rw (w.counts-is, w.count_one.ensures) (record {
            counts = length-set c.loop-number.counts.items number _ ∙ i.counts;
            few = few_more c.loop-number.counts.items number c.loop-number.number (omega (arith, within, i.counts)) i.few;
            counted = λ h trace.
                let traced : is_traced h id ≡ true = sym (trace c.nth_cell-cell.result id held) ∙ w.if-kept-cell.true in
                let (places, many, counted) = i.counted h trace in (
                  _,
                  length-set places number _ ∙ many,
                  counted_more p (no_roles 0 0) h c.cells-all.ensures.sound.kinds c.loop-number.counts.items places c.loop-number.number id
                      c.nth_cell-cell.result number at traced held within named i.counts many counted,
                );
          })
      | else-kept-cell w ↦ rw w.counts-is (record {
        counts = i.counts;
        few = λ kind. omega (arith, i.few kind);
        counted = λ h trace.
            let untraced : is_traced h id ≡ false = sym (trace c.nth_cell-cell.result id held) ∙ w.if-kept-cell.false in
            let (places, many, counted) = i.counted h trace in
            (places, many, counted_past p (no_roles 0 0) h c.loop-number.counts.items places c.loop-number.number id at untraced counted);
      })
    ]

pub returns-clause-instances : goal.returns-clause-instances
returns-clause-instances c h same trace =
    let (places, many, counted) = c.loop-number.invariant.counted h trace in
    counts-instances c.args.table.now (no_roles 0 0) h c.loop-number.counts.items places c.loop-number.number same
    (omega (arith, c.loop-number-test.false, c.live-number-end.ensures.count)) counted
