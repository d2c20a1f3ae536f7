use Rattle.std.proofs.Common.{◌<◌, ◌++◌, [], length, sym, subst, refl, ◌∙◌, arith, append-nil}
use Rattle.std.specs.Prelude.{IsSome}
use Rattle.object_paths.specs.Findings.{finding_in}
use Rattle.object_paths.proofs.Listing.{finds-same, nth_object-held, nth_object-below, with_scanned, object-scanned, object-passed, scanned-all}
use Rattle.object_paths.proofs.search.Search.take_objects.Goals as goal
use Rattle.object_paths.proofs.search.Search.take_objects.Goals.{then-is_scanned, else-is_scanned}

pub is_scanned-requires-clause-roles : goal.is_scanned-requires-clause-roles
is_scanned-requires-clause-roles c =
    let p = c.args.traced.table.now in
    let within : c.loop-number.number < length c.args.traced.table.now.table.objects = omega arith in
    subst (λ n. c.nth_cell-cell.result < n) (sym c.requires.roles) (nth_object-below p c.loop-number.number c.nth_cell-cell.result within c.nth_cell-cell.ensures.cell)

pub is_scanned-requires-clause-kept : goal.is_scanned-requires-clause-kept
is_scanned-requires-clause-kept c =
    let p = c.args.traced.table.now in
    let within : c.loop-number.number < length c.args.traced.table.now.table.objects = omega arith in
    subst (λ n. c.nth_cell-cell.result < n) (sym c.requires.kept) (nth_object-below p c.loop-number.number c.nth_cell-cell.result within c.nth_cell-cell.ensures.cell)

pub take_slots-requires-clause-holder : goal.take_slots-requires-clause-holder
take_slots-requires-clause-holder c =
    let p = c.args.traced.table.now in
    let within : c.loop-number.number < length c.args.traced.table.now.table.objects = omega arith in
    subst IsSome (sym (nth_object-held p c.loop-number.number c.nth_cell-cell.result within c.nth_cell-cell.ensures.cell)) refl

pub loop-number-init : goal.loop-number-init
loop-number-init c = record {
  count = refl;
  finds = λ is_scanned said asked before begun.
      finds-same c.args.traced.table.now asked before (λ id. before id ++ []) (finding_in c.args.self.now) (λ id. sym (append-nil (before id))) begun;
}

pub loop-number-preserved : goal.loop-number-preserved
loop-number-preserved c =
    let p = c.args.traced.table.now in
    let n = c.loop-number.number in
    let cell = c.nth_cell-cell.result in
    let is = c.nth_cell-cell.ensures.cell in
    let within : c.loop-number.number < length c.args.traced.table.now.table.objects = omega arith in
    let held = nth_object-held p n cell within is in
    let was = c.loop-number.invariant in
    elim c.if-is_scanned.branch [
      | then-is_scanned w ↦
          rw w.self-is (record {
            count = w.take_slots.ensures.count ∙ was.count;
            finds = λ is_scanned said asked before begun.
                let scanned = said cell _ held ∙ sym c.is_scanned.ensures ∙ w.if-is_scanned.true in
                finds-same p asked _ _ (finding_in w.take_slots.new.self) (object-scanned p n cell within is before is_scanned scanned)
                (w.take_slots.ensures.finds asked (with_scanned p.table before is_scanned n) (was.finds is_scanned said asked before begun));
          })
      | else-is_scanned w ↦
          rw w.self-is (record {
            count = was.count;
            finds = λ is_scanned said asked before begun.
                let passed = said cell _ held ∙ sym c.is_scanned.ensures ∙ w.if-is_scanned.false in
                finds-same p asked _ _ (finding_in c.loop-number.self) (object-passed p n cell within is before is_scanned passed)
                (was.finds is_scanned said asked before begun);
          })
    ]

pub returns-clause-finds : goal.returns-clause-finds
returns-clause-finds c is_scanned said asked before begun =
    finds-same c.args.traced.table.now asked _ _ (finding_in c.loop-number.self) (scanned-all c.args.traced.table.now.table before is_scanned c.loop-number.number (omega arith))
    (c.loop-number.invariant.finds is_scanned said asked before begun)
