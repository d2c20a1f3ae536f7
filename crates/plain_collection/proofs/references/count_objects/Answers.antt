use Rattle.std.proofs.Common.{◌<◌, ◌+◌, ◌*◌, ◌^◌, ◌++◌, [], length, sym, subst, refl, ◌∙◌, arith, append-nil}
use Rattle.std.specs.Prelude.{IsSome}
use Rattle.object_paths.proofs.Listing.{nth_object-held, nth_object-below, with_scanned, object-scanned, object-passed, scanned-all}
use Rattle.plain_collection.proofs.Counts.{counts-same, most-weaker}
use Rattle.plain_collection.proofs.references.count_objects.Goals as goal
use Rattle.plain_collection.proofs.references.count_objects.Goals.{then-is_scanned, else-is_scanned}

pub is_scanned-requires-clause-roles : goal.is_scanned-requires-clause-roles
is_scanned-requires-clause-roles c =
    let within : c.loop-number.number < length c.args.table.now.table.objects = omega arith in
    subst (λ n. c.nth_cell-cell.result < n) (sym c.requires.roles) (nth_object-below c.args.table.now c.loop-number.number c.nth_cell-cell.result within c.nth_cell-cell.ensures.cell)

pub is_scanned-requires-clause-kept : goal.is_scanned-requires-clause-kept
is_scanned-requires-clause-kept c =
    let within : c.loop-number.number < length c.args.table.now.table.objects = omega arith in
    subst (λ n. c.nth_cell-cell.result < n) (sym c.requires.kept) (nth_object-below c.args.table.now c.loop-number.number c.nth_cell-cell.result within c.nth_cell-cell.ensures.cell)

pub count_slots-requires-clause-holder : goal.count_slots-requires-clause-holder
count_slots-requires-clause-holder c =
    let within : c.loop-number.number < length c.args.table.now.table.objects = omega arith in
    subst IsSome (sym (nth_object-held c.args.table.now c.loop-number.number c.nth_cell-cell.result within c.nth_cell-cell.ensures.cell)) refl

pub count_slots-requires-clause-few : goal.count_slots-requires-clause-few
count_slots-requires-clause-few c =
    let within : c.loop-number.number < length c.args.table.now.table.objects = omega arith in
    let most = c.requires.sound.limits.objects in
    let possible = c.requires.sound.limits.possible.objects in
    most-weaker c.loop-number.counts.items (2 ^ 32 + 2 ^ 32 * c.loop-number.number) (2 ^ 63) (omega arith) c.loop-number.invariant.few

pub loop-number-init : goal.loop-number-init
loop-number-init c = record {
  counts = λ is_scanned said before begun.
      counts-same c.args.table.now before (λ id. before id ++ []) c.args.counts.now.items (λ id. sym (append-nil (before id))) begun;
  each = refl;
  few = most-weaker c.args.counts.now.items (2 ^ 32) (2 ^ 32 + 2 ^ 32 * 0) (omega arith) c.requires.few;
}

pub loop-number-preserved : goal.loop-number-preserved
loop-number-preserved c =
    let p = c.args.table.now in
    let n = c.loop-number.number in
    let cell = c.nth_cell-cell.result in
    let is = c.nth_cell-cell.ensures.cell in
    let within : c.loop-number.number < length c.args.table.now.table.objects = omega arith in
    let held = nth_object-held p n cell within is in
    let counts = c.loop-number.counts.items in
    let was = c.loop-number.invariant in
    elim c.if-is_scanned.branch [
      | then-is_scanned w ↦
          rw w.counts-is (record {
            counts = λ is_scanned said before begun.
                let scanned = said cell _ held ∙ sym c.is_scanned.ensures ∙ w.if-is_scanned.true in
                counts-same p _ _ w.count_slots.new.counts.items (object-scanned p n cell within is before is_scanned scanned)
                (w.count_slots.ensures.counts (with_scanned p.table before is_scanned n) (was.counts is_scanned said before begun));
            each = w.count_slots.ensures.each ∙ was.each;
            few = most-weaker w.count_slots.new.counts.items (2 ^ 32 + 2 ^ 32 * n + 2 ^ 32) (2 ^ 32 + 2 ^ 32 * (n + 1)) (omega arith) (w.count_slots.ensures.few (2 ^ 32 + 2 ^ 32 * n) was.few);
          })
      | else-is_scanned w ↦
          rw w.counts-is (record {
            counts = λ is_scanned said before begun.
                let passed = said cell _ held ∙ sym c.is_scanned.ensures ∙ w.if-is_scanned.false in
                counts-same p _ _ counts (object-passed p n cell within is before is_scanned passed) (was.counts is_scanned said before begun);
            each = was.each;
            few = most-weaker counts (2 ^ 32 + 2 ^ 32 * n) (2 ^ 32 + 2 ^ 32 * (n + 1)) (omega arith) was.few;
          })
    ]

pub returns-clause-counts : goal.returns-clause-counts
returns-clause-counts c is_scanned said before begun =
    counts-same c.args.table.now _ _ c.loop-number.counts.items (scanned-all c.args.table.now.table before is_scanned c.loop-number.number (omega arith))
    (c.loop-number.invariant.counts is_scanned said before begun)
