use Rattle.std.proofs.Common.{◌≡◌, ℕ, ◌<◌, Some, true, false, length, get_or, replicate, None, ap, sym, subst, ◌∙◌, arith}
use Rattle.std.specs.List.{slice_get}
use Rattle.std.specs.Option.{IsSome, IfSome, is_some}
use Rattle.std.proofs.lemmas.List.{length-set, length-replicate}
use Rattle.graph_meaning.specs.Assertions.{is_traced}
use Rattle.graph_meaning.specs.Heap.{ids, kind_at}
use Rattle.object_table.specs.Placed.{id_in}
use Rattle.assert_registry.proofs.Marking.{get_or-replicate_same}
use Rattle.path_cert.proofs.HeldObjects.{held-within, id-held, kind-in_range, kind-is}
use Rattle.verdict_list.specs.Kinds.{name_of, limit_in}
use Rattle.verdict_list.proofs.ByIds.{nth_id}
use Rattle.verdict_list.proofs.Counting.{counted_none, counted_past, counted_more, counted_all, held_more, few_more, named_at, no_count}
use Rattle.verdict_list.proofs.past_limit.first_past_limits.Goals as goal
use Rattle.verdict_list.proofs.past_limit.first_past_limits.Goals.{After-kind_at-kind, After-nth_cell-cell, then-kept-cell, else-kept-cell}

pub loop-number-init : goal.loop-number-init
loop-number-init c =
    let p = c.args.traced.table.now in
    let n = c.kinds-kinds.result in
    rw (c.in_ok-counts.ensures, c.in_ok-places.ensures) (record {
      counts = length-replicate n 0 ∙ c.kinds-kinds.ensures.count;
      places = length-replicate n None ∙ c.kinds-kinds.ensures.count;
      few = no_count n;
      held = λ kind. subst (λ o. IfSome o (λ cell. IsSome (id_in p cell))) (sym (get_or-replicate_same n kind None)) tt;
      counted = λ h stand trace. counted_none p c.args.traced.roles.now h (replicate n 0) (replicate n None) (λ kind. get_or-replicate_same n kind 0) (λ kind. get_or-replicate_same n kind None);
    })

module _ (c : After-nth_cell-cell) where
  -- the object in the cell is the one with this number, by id
  nth : (id : ℕ) × (id_in c.args.traced.table.now c.nth_cell-cell.result ≡ Some id) × (slice_get (ids c.args.traced.table.now.table) c.loop-number.number ≡ Some id)
  nth =
      nth_id c.args.traced.table.now c.loop-number.number c.nth_cell-cell.result c.live-number-end.result c.nth_cell-cell.ensures.cell c.loop-number-test.true
      c.live-number-end.ensures.count

pub bounds-kept-cell : goal.bounds-kept-cell
bounds-kept-cell c =
    let (id, held, at) = nth (goal.at.bounds-kept-cell c).After-nth_cell-cell in
    omega (arith, held-within c.args.traced.table.now c.nth_cell-cell.result id held, c.requires.kept)

pub kind_at-kind-requires : goal.kind_at-kind-requires
kind_at-kind-requires c = let (id, held, at) = nth (goal.at.kind_at-kind-requires c).After-nth_cell-cell in record { taken = ap is_some held }

-- the object's type is one of the table's
module _ (c : After-kind_at-kind) where
  in_range : c.kind_at-kind.result < length c.args.traced.table.now.table.kinds
  in_range =
      let (id, held, at) =
      nth_id c.args.traced.table.now c.loop-number.number c.nth_cell-cell.result c.live-number-end.result c.nth_cell-cell.ensures.cell c.loop-number-test.true
      c.live-number-end.ensures.count in
      kind-in_range c.args.traced.table.now c.cells-all.ensures.placed c.nth_cell-cell.result c.kind_at-kind.result (ap is_some held) c.kind_at-kind.ensures.number

pub limit-requires : goal.limit-requires
limit-requires c = omega (arith, in_range (goal.at.limit-requires c).After-kind_at-kind, c.requires.roles.many_kinds)

pub count_one-requires-clause-counts : goal.count_one-requires-clause-counts
count_one-requires-clause-counts c = omega (arith, in_range (goal.at.count_one-requires-clause-counts c).After-kind_at-kind, c.loop-number.invariant.counts)

pub count_one-requires-clause-places : goal.count_one-requires-clause-places
count_one-requires-clause-places c = omega (arith, in_range (goal.at.count_one-requires-clause-places c).After-kind_at-kind, c.loop-number.invariant.places)

pub count_one-requires-clause-small : goal.count_one-requires-clause-small
count_one-requires-clause-small c =
    omega (arith, c.loop-number.invariant.few c.kind_at-kind.result, c.loop-number-test.true, c.live-number-end.ensures.count, c.cells-all.ensures.sound.limits.objects, c.cells-all.ensures.sound.limits.possible.objects)

pub loop-number-preserved : goal.loop-number-preserved
loop-number-preserved c =
    let p = c.args.traced.table.now in
    let i = c.loop-number.invariant in
    let (id, held, at) = nth (goal.at.loop-number-preserved c).After-nth_cell-cell in
    elim c.if-kept-cell.branch [
      | then-kept-cell w ↦
          let number = w.kind_at-kind.result in
          let taken : IsSome (id_in p c.nth_cell-cell.result) = ap is_some held in
          let within : number < length p.table.kinds = kind-in_range p c.cells-all.ensures.placed c.nth_cell-cell.result number taken w.kind_at-kind.ensures.number in
          let named : kind_at p.table id ≡ name_of p number =
          ap (kind_at p.table) (sym (id-held p c.nth_cell-cell.result id held))
          ∙ sym (kind-is p c.cells-all.ensures.placed c.nth_cell-cell.result number taken w.kind_at-kind.ensures.number (name_of p number) (named_at p number within)) in
          rw (w.counts-is, w.places-is, w.count_one.ensures.counts, w.count_one.ensures.places, w.limit.ensures) (record {
            counts = length-set c.loop-number.counts.items number _ ∙ i.counts;
            places = length-set c.loop-number.places.items number _ ∙ i.places;
            few = few_more c.loop-number.counts.items number c.loop-number.number (omega (arith, within, i.counts)) i.few;
            held =
                held_more p c.loop-number.places.items (limit_in c.args.traced.roles.now number) (get_or c.loop-number.counts.items number 0)
                c.nth_cell-cell.result number (omega (arith, within, i.places)) taken i.held;
            counted = λ h stand trace.
                let traced : is_traced h id ≡ true = sym (trace c.nth_cell-cell.result id held) ∙ w.if-kept-cell.true in
                counted_more p c.args.traced.roles.now h c.cells-all.ensures.sound.kinds c.loop-number.counts.items c.loop-number.places.items
                c.loop-number.number id c.nth_cell-cell.result number at traced held within named i.counts i.places (i.counted h stand trace);
          })
      | else-kept-cell w ↦ rw (w.counts-is, w.places-is) (record {
        counts = i.counts;
        places = i.places;
        few = λ kind. omega (arith, i.few kind);
        held = i.held;
        counted = λ h stand trace.
            let untraced : is_traced h id ≡ false = sym (trace c.nth_cell-cell.result id held) ∙ w.if-kept-cell.false in
            counted_past p c.args.traced.roles.now h c.loop-number.counts.items c.loop-number.places.items c.loop-number.number id at untraced (i.counted h stand trace);
      })
    ]

pub returns-clause-each : goal.returns-clause-each
returns-clause-each c = c.loop-number.invariant.places

pub returns-clause-held : goal.returns-clause-held
returns-clause-held c = c.loop-number.invariant.held

pub returns-clause-past : goal.returns-clause-past
returns-clause-past c h known =
    counted_all c.args.traced.table.now c.args.traced.roles.now h c.loop-number.counts.items c.loop-number.places.items c.loop-number.number known.stand.table
    (omega (arith, c.loop-number-test.false, c.live-number-end.ensures.count)) (c.loop-number.invariant.counted h known.stand known.keeps)
