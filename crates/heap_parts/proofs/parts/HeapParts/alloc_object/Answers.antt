use Rattle.std.proofs.Common.{sym, ap, refl, subst, ◌∙◌, Ok, Err}
use Rattle.graph_meaning.specs.declared.refusal.Stop.TheVariants.{Refused, OutOfMemory}
use Rattle.graph_meaning.specs.Heap.{regions_of}
use Rattle.graph_meaning.specs.Step.{with_member}
use Rattle.region_log.specs.Regions.{RegionTable, IsAbove}
use Rattle.heap_parts.proofs.Operations.{steps-alloc, parts-alloc, new_id-above}
use Rattle.heap_parts.proofs.Stepping.{handed_on, parts_in}
use Rattle.heap_parts.proofs.parts.HeapParts.alloc_object.Goals as goal

-- there is no room in the regions
pub returns-in_default : goal.returns-in_default
returns-in_default c =
    let s = parts_in c.self.inside in
    let same = ap (λ (r : RegionTable). r.regions) c.in_default.ensures.err in
    elim c.match-alloc_refusal.branch [
      | goal.in-Some w ↦
          rw (← c.self.view_is, w.result-is)
          (steps-alloc s c.self.invariant s.placed c.reserve.new.self (Err (Refused w.in-Some.refusal)) c.args.id c.args.kind.now c.args.slots c.args.thread
          (sym w.in-Some.ensures.refusal) tt (refl, same))
      | goal.in-None w ↦
          rw (← c.self.view_is, w.result-is)
          (steps-alloc s c.self.invariant s.placed c.reserve.new.self (Err OutOfMemory) c.args.id c.args.kind.now c.args.slots c.args.thread
          (sym w.in-None.ensures.refusal) tt (refl, same))
    ]

pub returns-in_err-alloc_object : goal.returns-in_err-alloc_object
returns-in_err-alloc_object c =
    let s = parts_in c.self.inside in
    let stop = c.in_err-alloc_object.field-0.0 in
    rw (← c.self.view_is, handed_on c.from_residual.result stop c.from_residual.ensures)
    (steps-alloc s c.self.invariant c.alloc_object.new.self c.reserve.new.self (Err stop) c.args.id c.args.kind.now c.args.slots c.args.thread
    c.in_err-alloc_object.ensures.refused tt (c.in_err-alloc_object.ensures.err, ap (λ (r : RegionTable). r.regions) c.in-Ok.ensures.done))

pub note-requires-clause-above : goal.note-requires-clause-above
note-requires-clause-above c =
    let s = parts_in c.self.inside in
    subst (λ regions. IsAbove c.args.id (regions_of regions c.args.thread)) (sym (ap (λ (r : RegionTable). r.regions) c.in-Ok.ensures.done))
    (new_id-above s c.self.invariant c.args.id c.args.kind.now c.args.slots c.args.thread c.in_ok-alloc_object.ensures.refused)

pub invariant_of-self-2 : goal.invariant_of-self-2
invariant_of-self-2 c =
    let s = parts_in c.self.inside in
    parts-alloc s c.self.invariant c.alloc_object.new.self c.note.new.self c.args.id c.args.kind.now c.args.slots c.args.thread
    c.in_ok-alloc_object.ensures.refused c.in_ok-alloc_object.ensures.added
    (ap (λ (r : RegionTable). r.regions) c.note.ensures
    ∙ ap (λ (r : RegionTable). with_member r.regions c.args.thread c.args.id) c.in-Ok.ensures.done)
    (ap (λ (r : RegionTable). r.unasserted) c.note.ensures
    ∙ ap (λ (r : RegionTable). with_member r.unasserted c.args.thread c.args.id) c.in-Ok.ensures.done)

pub returns : goal.returns
returns c =
    let s = parts_in c.self.inside in
    rw (← c.self.view_is)
    (steps-alloc s c.self.invariant c.alloc_object.new.self c.note.new.self (Ok tt) c.args.id c.args.kind.now c.args.slots c.args.thread
    c.in_ok-alloc_object.ensures.refused (
      c.in_ok-alloc_object.ensures.added,
      (ap (λ (r : RegionTable). r.regions) c.note.ensures ∙ ap (λ (r : RegionTable). with_member r.regions c.args.thread c.args.id) c.in-Ok.ensures.done),
    )
    tt)
