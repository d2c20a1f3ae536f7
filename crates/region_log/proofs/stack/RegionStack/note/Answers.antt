use Rattle.std.proofs.Common.{◌≡◌, ◌++◌, ◌∷◌, [], map, List, ℕ, false, refl, sym, ap, ◌∙◌, subst, arith, eqb-true, vec_len}
use Rattle.std.proofs.lemmas.List.{nil_from_length}
use Rattle.region_log.specs.Regions.{ThreadRegions, regions_from, thread_with_object}
use Rattle.region_log.specs.declared.stack.RegionStack.TheInside.{Inside}
use Rattle.region_log.proofs.Stacks.{regions-append}
use Rattle.region_log.proofs.stack.RegionStack.note.Goals as goal
use Rattle.region_log.proofs.stack.RegionStack.note.Goals.{then-not-is_empty, else-not-is_empty}

-- what is seen of the fields, where no thread is reserved
abbrev seen : Inside → ThreadRegions
seen s = record {
  regions = regions_from s.ids.items s.starts.items;
  unasserted = regions_from s.unasserted.items s.unasserted_starts.items;
  reserved = false;
}

-- where no region is open, an object comes to none
none_noted : (id : ℕ) (ids starts : List ℕ) → starts ≡ [] → regions_from ids starts ≡ map (λ (r : List ℕ). r ++ id ∷ []) (regions_from ids starts)
none_noted id ids starts empty =
    subst (λ (xs : List ℕ). regions_from ids xs ≡ map (λ (r : List ℕ). r ++ id ∷ []) (regions_from ids xs)) (sym empty) refl

pub returns : goal.returns
returns c =
    let v = c.self.inside in
    let id = c.args.id in
    let changed : seen c.if-not-is_empty.self-inside ≡ thread_with_object (seen v) id = elim c.if-not-is_empty.branch [
      | then-not-is_empty w ↦
          ap seen w.self-inside-is
          ∙ (λ i. record {
            regions = ((ap (λ (ids : List ℕ). regions_from ids v.starts.items) w.push_reserved.ensures.items) ∙ regions-append v.ids.items (id ∷ []) v.starts.items c.self.invariant.0.within) i;
            unasserted =
                ((ap (λ (ids : List ℕ). regions_from ids v.unasserted_starts.items) w.push_reserved-then-not-is_empty.ensures.items)
                ∙ regions-append v.unasserted.items (id ∷ []) v.unasserted_starts.items c.self.invariant.2.within) i;
            reserved = false;
          })
      | else-not-is_empty w ↦
          let none = eqb-true (vec_len v.starts) 0 (sym c.is_empty.ensures ∙ w.if-not-is_empty.false) in
          let empty : v.starts.items ≡ [] = nil_from_length v.starts.items (omega (arith, v.starts.ok.0)) in
          let also_empty : v.unasserted_starts.items ≡ [] = nil_from_length v.unasserted_starts.items (omega (arith, v.starts.ok.0, c.self.invariant.4)) in
          ap seen w.self-inside-is
          ∙ (λ i. record {
            regions = none_noted id v.ids.items v.starts.items empty i;
            unasserted = none_noted id v.unasserted.items v.unasserted_starts.items also_empty i;
            reserved = false;
          })
    ] in
    changed ∙ ap (λ (t : ThreadRegions). thread_with_object t id) c.self.view_is
