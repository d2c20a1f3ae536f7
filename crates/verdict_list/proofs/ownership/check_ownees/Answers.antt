use Rattle.std.proofs.Common.{◌≡◌, ◌<◌, ℕ, not, List, [], ◌∷◌, length, filter, get_or, sym, ap, refl, subst, ◌∙◌, arith, eqb-true}
use Rattle.std.specs.Prelude.{IsSome}
use Rattle.std.specs.List.{All}
use Rattle.std.specs.Option.{is_some}
use Rattle.std.specs.Vec.{vec_len}
use Rattle.std.proofs.lemmas.List.Elements.{All-filter}
use Rattle.graph_meaning.specs.Roles.{id_at}
use Rattle.object_table.specs.Placed.{id_in}
use Rattle.path_cert.specs.Levels.{level_in}
use Rattle.path_cert.proofs.HeldObjects.{held-id, held-within}
use Rattle.verdict_list.specs.Cells.{is_kept}
use Rattle.verdict_list.proofs.ViolatingOwnees.{none-violating, some-violating}
use Rattle.verdict_list.proofs.ownership.check_ownees.Goals as goal

no_items : (xs : List ℕ) → length xs ≡ 0 → xs ≡ []
no_items [] none = refl
no_items (x ∷ xs) none = absurd (omega arith)

pub returns-then-is_empty : goal.returns-then-is_empty
returns-then-is_empty c =
    let p = c.args.table.now in
    let r = c.args.roles.now in
    let known = c.cells-cells.ensures in
    let doubts = c.args.doubts.items in
    let none : c.args.doubts.items ≡ [] = no_items c.args.doubts.items (sym c.args.doubts.ok.0 ∙ eqb-true (vec_len c.args.doubts) 0 (sym c.is_empty.ensures ∙ c.if-is_empty.true)) in
    record {
      violating = λ h stand are. record {
        table = stand.table;
        ownees = none-violating p r h known.placed stand doubts are known.sound.ids.rising none;
        levels = tt;
        made = λ some. absurd (some none);
      };
      objects = c.requires.doubts;
      levels = tt;
    }

pub with_level-requires : goal.with_level-requires
with_level-requires c =
    let p = c.args.table.now in
    let doubts = c.args.doubts.items in
    let held = c.requires.doubts in
    let are = c.in_ok-levels.ensures.levels.1 in
    record {
      ownees = λ k d less.
          let at = ap (λ (xs : List ℕ). get_or xs k d) c.as_slice.ensures.value in
          let here = held k d (subst (λ (xs : List ℕ). k < length xs) c.as_slice.ensures.value less) in
          let within = held-within p (get_or doubts k d) (id_at p.cells (get_or doubts k d)) (held-id p (get_or doubts k d) here) in
          subst (λ n. get_or c.as_slice.result.now k d < n) (sym are.each) (subst (λ n. n < length p.cells) (sym at) within);
    }

pub not_found-requires-clause-ownees : goal.not_found-requires-clause-ownees
not_found-requires-clause-ownees c =
    let p = c.args.table.now in
    let all = All (λ (cell : ℕ). IsSome (id_in p cell)) in
    let met =
    All-filter (λ (x : ℕ). is_some (level_in c.in_ok-levels.levels x)) (λ (cell : ℕ). IsSome (id_in p cell)) c.as_slice.result.now (subst all (sym c.as_slice.ensures.value) c.requires.doubts) in
    subst all (sym (c.as_slice-2.ensures.value ∙ c.in_ok-met.ensures.met)) met

pub returns : goal.returns
returns c =
    let p = c.args.table.now in
    let r = c.args.roles.now in
    let known = c.cells-cells.ensures in
    let all = All (λ (cell : ℕ). IsSome (id_in p cell)) in
    let met =
    All-filter (λ (x : ℕ). is_some (level_in c.in_ok-levels.levels x)) (λ (cell : ℕ). IsSome (id_in p cell)) c.as_slice.result.now (subst all (sym c.as_slice.ensures.value) c.requires.doubts) in
    record {
      violating = λ h stand are.
          let levels = c.in_ok-levels.ensures.unowned h stand in
          let are_met = ap (filter (λ (x : ℕ). is_some (level_in c.in_ok-levels.levels x))) c.as_slice.ensures.value in
          record {
            table = stand.table;
            ownees =
                some-violating p r h known.placed stand c.args.doubts.items are known.sound.ids.rising c.in_ok-levels.levels levels
                c.as_slice-2.result.now c.in_ok-ownees.ownees.items (c.as_slice-2.ensures.value ∙ c.in_ok-met.ensures.met ∙ are_met)
                c.in_ok-ownees.ensures.violating;
            levels = levels;
            made = λ some. refl;
          };
      objects =
          subst all (sym c.in_ok-ownees.ensures.violating)
          (All-filter (λ (x : ℕ). not (is_kept p r x)) (λ (cell : ℕ). IsSome (id_in p cell)) c.as_slice-2.result.now
          (subst all (sym (c.as_slice-2.ensures.value ∙ c.in_ok-met.ensures.met)) met));
      levels = c.in_ok-levels.ensures.levels;
    }
