use Rattle.std.proofs.Common.{refl, ap, ◌∙◌}
use Rattle.heap_snapshot.specs.ToTrace.{snapshot_status, text_of}
use Rattle.heap_snapshot.proofs.Conversions.{converted_by, nothing_converted}
use Rattle.heap_snapshot.proofs.to_trace.to_trace.Goals as goal

pub returns-in-Err-OutOfMemory : goal.returns-in-Err-OutOfMemory
returns-in-Err-OutOfMemory g c = nothing_converted _ _ refl

pub returns-in-Ok-conversion_of : goal.returns-in-Ok-conversion_of
returns-in-Ok-conversion_of g c =
    let same = c.deref.ensures.value in
    converted_by _ _ c.in-Ok.bytes.items c.in-Ok.ensures.read (c.deref-in-Ok-conversion_of.ensures.value ∙ c.in-Ok-conversion_of.ensures.0 ∙ ap text_of same)
    (c.in-Ok-conversion_of.ensures.1 ∙ ap snapshot_status same) c.write_once.ensures.writes

pub returns : goal.returns
returns g c = nothing_converted _ _ refl
