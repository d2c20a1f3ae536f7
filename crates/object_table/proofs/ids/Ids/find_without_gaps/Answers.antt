use Rattle.std.proofs.Common.{◌∙◌, sym}
use Rattle.std.proofs.lemmas.Bool.{ltb-true}
use Rattle.object_table.proofs.Lookups.{found-seen}
use Rattle.object_table.proofs.ids.Ids.find_without_gaps.Goals as goal

-- the entry that was looked at has the id
pub returns-then-number : goal.returns-then-number
returns-then-number c =
    let looked = c.in_ok-entry.ensures.lookup in
    found-seen c.args.self.now c.deref-3.result.now c.args.number _ c.in_ok-entry.entry.now (c.deref-3.ensures.value ∙ c.self.view_is) c.requires
    (ltb-true _ _ (sym looked.0)) looked.1 (sym c.number.ensures.value ∙ c.if-number.true)
