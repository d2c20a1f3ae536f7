use Rattle.std.proofs.Common.{◌∙◌, sym}
use Rattle.std.proofs.lemmas.Bool.{ltb-true}
use Rattle.object_table.proofs.Lookups.{found-seen}
use Rattle.object_table.proofs.ids.Ids.find_close.Goals as goal

-- the entry that was looked at has the id
pub returns-then-number-2 : goal.returns-then-number-2
returns-then-number-2 c =
    let looked = c.in_ok-id.ensures.lookup in
    found-seen c.args.self.now c.deref.result.now c.args.number _ c.in_ok-id.field-0.now (c.deref.ensures.value ∙ c.self.view_is) c.requires
    (ltb-true _ _ (sym looked.0)) looked.1 (sym c.number-then-number.ensures.value ∙ c.if-number-2.true)
