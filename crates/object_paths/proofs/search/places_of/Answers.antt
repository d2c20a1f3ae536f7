use Rattle.std.proofs.Common.{◌≡◌, ◌≢◌, ◌<◌, ◌+◌, ℕ, List, ⊎_elim, length, get_or, replicate, Option, None, Some, sym, ap, subst, ◌∙◌, arith, rules}
use Rattle.std.specs.List.{slice_get}
use Rattle.std.specs.Prelude.{slice_set}
use Rattle.std.proofs.lemmas.Bool.{cases_eq}
use Rattle.std.proofs.lemmas.List.{get_or-set_same, get_or-set_other, length-set, length-replicate}
use Rattle.std.proofs.lemmas.Option.{slice_get_within, slice_get-get_or, get_or_from_slice_get}
use Rattle.assert_registry.proofs.Marking.{get_or-replicate_same}
use Rattle.heap_base.specs.Counting.{IsOnce}
use Rattle.object_paths.proofs.Places.{once-place}
use Rattle.object_paths.proofs.search.places_of.Goals as goal

pub loop-place-init : goal.loop-place-init
loop-place-init c =
    let none : c.in_ok-places.places.items ≡ replicate c.args.cells None = search rules in
    record {
      each = ap length none ∙ length-replicate c.args.cells None;
      placed = λ n cell less. absurd (omega arith);
      only = λ n cell at. absurd (let e = sym (ap (λ xs. get_or xs cell None) none ∙ get_or-replicate_same c.args.cells cell None) ∙ at in cc);
    }

module _ (asked : List ℕ) (once : IsOnce asked) (places : List (Option ℕ)) (n : ℕ) (within : n < length asked) (below : get_or asked n 0 < length places) where
  abbrev cell_now : ℕ
  cell_now = get_or asked n 0

  abbrev after : List (Option ℕ)
  after = slice_set places cell_now (Some n)

  here : get_or after cell_now None ≡ Some n
  here = get_or-set_same places cell_now (Some n) None below

  there : (cell : ℕ) → cell ≢ cell_now → get_or after cell None ≡ get_or places cell None
  there cell other = get_or-set_other places cell_now cell (Some n) None other

  placed-next : ((m cell : ℕ) → m < n → slice_get asked m ≡ Some cell → get_or places cell None ≡ Some m) → (m cell : ℕ) → m < n + 1 → slice_get asked m ≡ Some cell → get_or after cell None ≡ Some m
  placed-next was m cell less at = ⊎_elim now before (cases_eq m n)
    where
      is : get_or asked m 0 ≡ cell
      is = get_or_from_slice_get asked m cell 0 at

      now : m ≡ n → get_or after cell None ≡ Some m
      now same =
          let same_cell : cell ≡ cell_now = sym is ∙ ap (λ k. get_or asked k 0) same in
          ap (λ x. get_or after x None) same_cell ∙ here ∙ ap Some (sym same)

      before : m ≢ n → get_or after cell None ≡ Some m
      before apart =
          let other : cell ≢ cell_now = λ same. apart (once-place asked m n once (slice_get_within asked m cell at) within (is ∙ same)) in
          there cell other ∙ was m cell (omega arith) at

  only-next : ((m cell : ℕ) → get_or places cell None ≡ Some m → slice_get asked m ≡ Some cell) → (m cell : ℕ) → get_or after cell None ≡ Some m → slice_get asked m ≡ Some cell
  only-next was m cell at = ⊎_elim now before (cases_eq cell cell_now)
    where
      now : cell ≡ cell_now → slice_get asked m ≡ Some cell
      now same =
          let placed : Some n ≡ Some m = sym here ∙ ap (λ x. get_or after x None) (sym same) ∙ at in
          let same_place : n ≡ m = cc in
          ap (slice_get asked) (sym same_place) ∙ slice_get-get_or asked n 0 within ∙ ap Some (sym same)

      before : cell ≢ cell_now → slice_get asked m ≡ Some cell
      before other = was m cell (sym (there cell other) ∙ at)

pub loop-place-preserved : goal.loop-place-preserved
loop-place-preserved c =
    let asked = c.args.asked.now in
    let places = c.loop-place.places.items in
    let n = c.loop-place.place in
    let was = c.loop-place.invariant in
    let within : c.loop-place.place < length c.args.asked.now = c.loop-place-test.true in
    let bound = c.requires.in_range c.loop-place.place 0 within in
    let below : get_or c.args.asked.now c.loop-place.place 0 < length c.loop-place.places.items = subst (λ m. get_or c.args.asked.now c.loop-place.place 0 < m) (sym was.each) bound in
    record {
      each = length-set places (get_or asked n 0) (Some n) ∙ was.each;
      placed = placed-next asked c.requires.once places n within below was.placed;
      only = only-next asked c.requires.once places n within below was.only;
    }

pub returns-clause-placed : goal.returns-clause-placed
returns-clause-placed c n cell at =
    let within = slice_get_within c.args.asked.now n cell at in
    let past = c.loop-place-test.false in
    c.loop-place.invariant.placed n cell (omega arith) at
