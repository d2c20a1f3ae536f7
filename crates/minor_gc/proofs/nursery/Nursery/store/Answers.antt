use Rattle.std.proofs.Common.{◌≡◌, ℕ, length, Bool, set, get_or, None, IsSome, refl, sym, ap, subst, ◌∙◌, arith}
use Rattle.std.specs.Prelude.{nat_lt}
use Rattle.std.specs.List.{count_by}
use Rattle.std.specs.Result.{result_err}
use Rattle.std.specs.Vec.{vec_capacity}
use Rattle.std.proofs.lemmas.Bool.{lt-ltb}
use Rattle.std.proofs.lemmas.List.{get_or_read}
use Rattle.heap_base.specs.Counting.{bit}
use Rattle.graph_meaning.specs.Heap.{Table, targets}
use Rattle.minor_gc.specs.Generations.{Generations, is_young}
use Rattle.minor_gc.specs.Nurseries.{NurseryParts, generations_of}
use Rattle.minor_gc.proofs.Inside.{parts_in}
use Rattle.minor_gc.proofs.Stored.{SlotStore, StoredParts, Stores, StoresInOld, Recounts, has_slot, slot_before, slot_after, slot_was, slot_now, stored_young, stored_old}
use Rattle.minor_gc.proofs.Stored.{count_changes, count_some, count_few, count_is, marks_tell, within_counts, room_for_it, not_live_refused}
use Rattle.minor_gc.proofs.Targets.{leads_to}
use Rattle.minor_gc.proofs.nursery.Nursery.store.Goals as goal
use Rattle.minor_gc.proofs.nursery.Nursery.store.Goals.{After-index_mut}

-- ---- where the object is young, or isn't live

pub invariant_of-self-then-number-self : goal.invariant_of-self-then-number-self
invariant_of-self-then-number-self c =
    let write : SlotStore = record { at = c.args.at; slot = c.args.slot; to = c.args.to } in
    let after : StoredParts = record {
      placed = c.store.new.self;
      counts = c.self.inside.counts.items;
      remembered = c.self.inside.remembered.items;
      room = vec_capacity c.self.inside.remembered;
    } in
    let stores : Stores (parts_in c.self.inside) write after = record {
      nursery = c.self.invariant;
      table = c.in_ok-store.ensures.stored;
      cells = c.store.ensures.cells;
      room = omega arith;
    } in
    stored_young stores (lt-ltb c.self.inside.old_up_to c.args.at (omega (arith, c.if-number-self.true, c.number.ensures.value))) refl refl

-- a table with the age that is old still
abbrev aged : ℕ → Table → Generations
aged old_up_to table = record { table = table; old_up_to = old_up_to }

pub returns-then-number-self : goal.returns-then-number-self
returns-then-number-self c =
    rw (← c.self.view_is) (record {
      refused = sym c.in_ok-store.ensures.refused;
      stored = ap (aged c.self.inside.old_up_to) c.in_ok-store.ensures.stored;
      err = tt;
    })

pub returns-in_default-clause-refused : goal.returns-in_default-clause-refused
returns-in_default-clause-refused c =
    rw (← c.self.view_is, c.number-in_default.ensures.value) (not_live_refused c.self.inside.table.table c.args.at c.args.slot c.args.to (sym c.in_default.ensures.live))

pub holds_young-after-requires-clause-placed : goal.holds_young-after-requires-clause-placed
holds_young-after-requires-clause-placed c = c.cells.ensures.placed

-- ---- where it is old

-- the store, and what was read before the count is changed
module _ (c : After-index_mut) where
  abbrev before : NurseryParts
  before = parts_in c.self.inside

  abbrev write : SlotStore
  write = record { at = c.args.at; slot = c.args.slot; to = c.args.to }

  abbrev young : ℕ → Bool
  young = is_young (generations_of before)

  old : StoresInOld before write c.in-Some.cell
  old =
      let placed = c.cells-cells.ensures.placed in
      record {
        before = record { nursery = c.self.invariant; placed = placed; sound = c.cells-cells.ensures.sound };
        held = c.in-Some.ensures.cell;
        low = omega (arith, c.if-number-self.false, c.number.ensures.value);
        has = has_slot write c.self.inside.table.table (placed.live c.in-Some.cell c.args.at c.in-Some.ensures.cell) (sym c.store-2.ensures.refused ∙ ap result_err c.in_ok-store-2.was);
      }

  read : c.index_mut.result.now ≡ get_or c.self.inside.counts.items c.in-Some.cell 0
  read = get_or_read c.self.inside.counts.items c.in-Some.cell c.index_mut.result.now (within_counts old) c.index_mut.ensures.value 0

  count : c.index_mut.result.now ≡ count_by young (targets c.self.inside.table.table c.args.at)
  count = read ∙ count_is old

  -- whether the slot held a young object, and whether it holds one
  young_before : c.holds_young-before.result ≡ leads_to young (slot_before old.has)
  young_before = c.holds_young-before.ensures young (rw c.deref.ensures.value (marks_tell old)) ∙ ap (leads_to young) (slot_was old)

  young_after : c.holds_young-after.result ≡ leads_to young (slot_after old.has)
  young_after =
      let same = λ (other : ℕ). ap (λ l. get_or l other None) c.store-2.ensures.cells in
      let now = slot_now old c.store-2.new.self c.in_ok-store-2.ensures.stored (same c.in-Some.cell) in
      c.holds_young-after.ensures young (rw c.deref-2.ensures.value (λ other x there. marks_tell old other x (sym (same other) ∙ there)))
      ∙ ap (leads_to young) now

pub recount-requires-clause-before : goal.recount-requires-clause-before
recount-requires-clause-before c was =
    let b = (goal.at.recount-requires-clause-before c).After-index_mut in
    omega (arith, count_some (old b).has (young b) (sym (young_before b) ∙ was), count b)

pub recount-requires-clause-fits : goal.recount-requires-clause-fits
recount-requires-clause-fits c wasnt is =
    let b = (goal.at.recount-requires-clause-fits c).After-index_mut in
    let changes = count_changes (old b).has (young b) in
    let limits = c.cells-cells.ensures.sound.limits in
    let few = count_few (old b).has (young b) (omega (arith, limits.slots, limits.possible.slots)) in
    let none : bit (leads_to (young b) (slot_before (old b).has)) ≡ 0 = ap bit (sym (young_before b) ∙ wasnt) in
    let one : bit (leads_to (young b) (slot_after (old b).has)) ≡ 1 = ap bit (sym (young_after b) ∙ is) in
    omega (arith, few, changes, none, one, count b)

pub recount-requires-clause-room : goal.recount-requires-clause-room
recount-requires-clause-room c none =
    let b = (goal.at.recount-requires-clause-room c).After-index_mut in
    omega (arith, room_for_it (old b) (sym (read b) ∙ none), c.self.inside.remembered.ok.0)

pub invariant_of-self-2 : goal.invariant_of-self-2
invariant_of-self-2 c =
    let b = (goal.at.invariant_of-self-2 c).After-index_mut in
    let after : StoredParts = record {
      placed = c.store-2.new.self;
      counts = set c.self.inside.counts.items c.in-Some.cell c.recount.new.count;
      remembered = c.recount.new.remembered.items;
      room = vec_capacity c.recount.new.remembered;
    } in
    let stores : Stores (before b) (write b) after = record {
      nursery = c.self.invariant;
      table = c.in_ok-store-2.ensures.stored;
      cells = c.store-2.ensures.cells;
      room = c.recount.ensures.room;
    } in
    let changes = count_changes (old b).has (young b) in
    let table = ap (λ (t : Table). count_by (young b) (targets t c.args.at)) c.in_ok-store-2.ensures.stored in
    let recounts : Recounts (before b) (write b) after c.in-Some.cell c.recount.new.count = record {
      counted = omega (arith, c.recount.ensures.count, changes, count b, ap bit (young_before b), ap bit (young_after b), table);
      put = refl;
      list = λ ids was is rise has same was_at. c.recount.ensures.list ids was is rise has same (was_at ∙ ap (nat_lt 0) (sym (read b)));
    } in
    stored_old stores (old b) recounts

pub holds_young-before-requires : goal.holds_young-before-requires
holds_young-before-requires c = record {
  placed = c.cells-cells.ensures.placed;
  each = ap length c.deref.ensures.value ∙ c.self.invariant.each_mark;
  cell = subst IsSome (sym c.in-Some.ensures.cell) refl;
}

pub holds_young-after-requires-clause-each : goal.holds_young-after-requires-clause-each
holds_young-after-requires-clause-each c = ap length c.deref-2.ensures.value ∙ c.self.invariant.each_mark ∙ sym (ap length c.store-2.ensures.cells)

pub holds_young-after-requires-clause-cell : goal.holds_young-after-requires-clause-cell
holds_young-after-requires-clause-cell c = subst IsSome (sym (ap (λ l. get_or l c.in-Some.cell None) c.store-2.ensures.cells ∙ c.in-Some.ensures.cell)) refl

pub returns : goal.returns
returns c =
    rw (← c.self.view_is) (record {
      refused = sym c.in_ok-store-2.ensures.refused;
      stored = ap (aged c.self.inside.old_up_to) c.in_ok-store-2.ensures.stored;
      err = tt;
    })
