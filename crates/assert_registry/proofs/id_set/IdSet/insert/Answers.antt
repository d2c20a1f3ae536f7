use Rattle.std.proofs.Common.{◌≡◌, Some, ap, sym, ◌∙◌, rules}
use Rattle.std.specs.Option.{option_copied}
use Rattle.graph_meaning.specs.Reach.{has_id}
use Rattle.assert_registry.proofs.IdSet.{has_id-slice_get, insert_key-again, sorted-set_of}
use Rattle.assert_registry.proofs.id_set.IdSet.insert.Goals as goal

pub returns-then-eq-clause-done : goal.returns-then-eq-clause-done
returns-then-eq-clause-done c =
    let ids = c.self.inside.ids.items in
    let last : option_copied c.last.result ≡ Some c.args.id = search rules in
    let at = has_id-slice_get c.deref.result.now _ c.args.id (sym c.last.ensures.value ∙ last) in
    rw (← c.self.view_is) (sym (insert_key-again ids c.args.id (ap (λ xs. has_id xs c.args.id) (sym c.deref.ensures.value) ∙ at)))

pub returns-then-eq-clause-rising : goal.returns-then-eq-clause-rising
returns-then-eq-clause-rising c = rw (← c.self.view_is) (sorted-set_of c.self.inside.ids.items)

pub returns-in_err-push-clause-rising : goal.returns-in_err-push-clause-rising
returns-in_err-push-clause-rising c = sorted-set_of c.push.new.self.items

pub returns-clause-rising : goal.returns-clause-rising
returns-clause-rising c = sorted-set_of c.push.new.self.items
