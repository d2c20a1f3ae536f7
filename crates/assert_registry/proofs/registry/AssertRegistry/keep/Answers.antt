use Rattle.std.proofs.Common.{◌≡◌, filter, refl, rules}
use Rattle.std.proofs.lemmas.List.Elements.{All-filter}
use Rattle.std.proofs.lemmas.Map.Entries.{filter_from_retain_pairs}
use Rattle.graph_meaning.specs.Heap.{is_live}
use Rattle.assert_registry.proofs.Owners.{IsByAnother}
use Rattle.assert_registry.proofs.registry.AssertRegistry.keep.Goals as goal

pub invariant_of-self : goal.invariant_of-self
invariant_of-self c =
    let t = c.args.table.now.table in
    let (consistent, room) = c.self.invariant in
    let owners : c.retain.new.self.entries ≡ filter (λ o. is_live t o.0) c.self.inside.owners.entries =
    filter_from_retain_pairs _ (λ f. f.1 ≡ c.args.table) (λ o. is_live t o.0) (λ f k v b w f' i s. search rules) _ _ _ refl c.retain.ensures.filtered in (
      record {
        dead = c.retain_live.ensures.rising;
        unshared = c.retain_live-2.ensures.rising;
        owners = c.retain.ensures.ordered;
        others = rw owners (All-filter (λ o. is_live t o.0) IsByAnother c.self.inside.owners.entries consistent.others);
      },
      room,
    )

pub returns : goal.returns
returns c =
    let t = c.args.table.now.table in
    let owners : c.retain.new.self.entries ≡ filter (λ o. is_live t o.0) c.self.inside.owners.entries =
    filter_from_retain_pairs _ (λ f. f.1 ≡ c.args.table) (λ o. is_live t o.0) (λ f k v b w f' i s. search rules) _ _ _ refl c.retain.ensures.filtered in
    rw (← c.self.view_is, c.retain_live.ensures.live, c.retain_live-2.ensures.live, owners) refl
