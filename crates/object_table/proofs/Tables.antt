-- What the calls on a table say and leave, in terms of its parts.
use Rattle.std.proofs.Common.{◌≡◌, ℕ, ◌+◌, ◌<◌, ◌≤◌, List, [], length, map, filter, set, get_or, slice_get, Bool, true, false, not, cond}
use Rattle.std.proofs.Common.{IsTrue, Option, Some, None, IfSome, IsSome, is_some, unwrap_or, option_and_then, position, refl, sym, ◌∙◌, ap, subst}
use Rattle.std.proofs.Common.{⊎_elim, arith}
use Rattle.std.specs.List.{All, sum_by}
use Rattle.std.specs.Option.{option_map, option_map_or}
use Rattle.std.specs.Str.{bytes_eq}
use Rattle.std.specs.Map.{remove_entry}
use Rattle.std.specs.BTreeMap.{insert_entry, is_at}
use Rattle.std.proofs.lemmas.Bool.{cases_lt}
use Rattle.std.proofs.lemmas.List.{length-map, get_or-map}
use Rattle.std.proofs.lemmas.Option.{same_Some, slice_get_within, get_or_from_slice_get, slice_get-get_or, slice_get-map}
use Rattle.heap_base.specs.Limits.{ArePossible}
use Rattle.heap_base.specs.declared.limits.Limits.{Limits}
use Rattle.heap_base.specs.declared.limits.TheConstants.{MOST_OBJECTS}
use Rattle.graph_meaning.specs.declared.refusal.Refusal.TheVariants.{NotLive}
use Rattle.graph_meaning.specs.Heap.{Slot, Object, name_cmp, ids, edge_of, is_live, slot_count}
use Rattle.graph_meaning.specs.Step.{not_live, slots_of, alloc_refusal, store_refusal, slot_refusal, root_refusal, kind_refusal, with_kind, with_changed_slot, slot_holding, slot_made_weak, with_root}
use Rattle.object_table.specs.declared.slot.Slot.{Slot as CellSlot}
use Rattle.object_table.specs.declared.table.ObjectTable.TheInside.{Inside}
use Rattle.object_table.specs.Edges.{cell_edge, AreEdgesAt}
use Rattle.object_table.specs.Placed.{id_in, slot_in, IsSound, kept_ids, LeadsToKept}
use Rattle.object_table.specs.Residents.{Resident, no_edge, is_flagged, held_at, held_after, id_held, is_taken, next_cell}
use Rattle.object_table.specs.Parts.{TableParts, slot_of, object_of, nobody, object_at_cell, placed_of, HoldsTaken, slots_at_cell, IsTable}
use Rattle.object_table.proofs.Lookups.{found}
use Rattle.object_table.proofs.Refusals.{alloc_fits, slot_fits, root_taken}
use Rattle.object_table.proofs.Sound.{sound_nothing, sound_with_object, sound_with_store, sound_with_weak, sound_with_root, sound_with_kind, sound_with_only}
use Rattle.object_table.proofs.Parts.{held_with_id, held_taken, stands_found, found_held, object_at-found, live_found, id_in-held, length-slots_in, slot_in-held, full_cells}
use Rattle.object_table.proofs.Changes.{of_some, with_name, objects-with_name, laid-with_name, with_one, added_is, added_laid, with_changed}
use Rattle.object_table.proofs.Changes.{changed_is, changed_cells, changed_laid, with_kept, kept_is, kept_laid, slot_count-is, slot_count-added}
use Rattle.object_table.proofs.Changes.{slot_count-changed, next_within}

-- the parts of a table, as it has them
abbrev pub parts_in : Inside → TableParts
parts_in t = record { cells = t.cells.cells; ids = t.ids; roots = t.roots; kinds = t.kinds; greatest = t.greatest; slots = t.slots; most = t.most }

pub table_nothing : (most : Limits) → ArePossible most → IsTable (record { cells = []; ids = []; roots = []; kinds = []; greatest = 0; slots = 0; most = most })
table_nothing most possible = record {
  laid = record {
    rising = λ i j d less within. absurd (omega arith);
    stands = λ k d h. absurd (omega arith);
    once = λ cell. refl;
    known = λ cell. tt;
    leads = λ cell. tt;
    few = omega arith;
  };
  counted = refl;
  sound = sound_nothing most possible;
}

-- ---- questions

module _ (p : TableParts) (is : IsTable p) where
  pub not_live-found : (id : ℕ) (o : Option ℕ) → o ≡ found p.ids id → not_live (placed_of p).table id ≡ cond (is_some o) None (Some (NotLive id))
  not_live-found id o at =
      let live : is_live (placed_of p).table id ≡ is_some o = live_found p is.laid id ∙ ap is_some (sym at) in
      rw live (go (is_some o))
    where
      go : (b : Bool) → cond (not b) (Some (NotLive id)) None ≡ cond b None (Some (NotLive id))
      go true = refl
      go false = refl

  -- a cell that an id leads to holds its object
  pub taken_found : (id cell : ℕ) → found p.ids id ≡ Some cell → IsSome (held_at p.cells cell)
  taken_found id cell at =
      let (o, held, same) = held_with_id p.cells cell id (stands_found p is.laid id cell at) in
      ap is_some held

  pub slots_of-found : (id cell : ℕ) (o : Resident) → found p.ids id ≡ Some cell → held_at p.cells cell ≡ Some o → slots_of (placed_of p).table id ≡ length o.slots
  slots_of-found id cell o at held =
      ap (λ q. option_map_or (λ (u : Object). length u.slots) q 0) (object_at-found p is.laid id)
      ∙ ap (λ q. option_map_or (λ (u : Object). length u.slots) (option_map (λ c. object_of p.kinds p.cells (unwrap_or (held_at p.cells c) nobody)) q) 0) at
      ∙ ap (λ c. length (map (slot_of p.cells) (unwrap_or c nobody).slots)) held
      ∙ length-map o.slots (slot_of p.cells)

  pub found_in : (id cell : ℕ) → id_in (placed_of p) cell ≡ Some id → found p.ids id ≡ Some cell
  found_in id cell at = found_held p is.laid id cell (sym (id_in-held p is.laid cell) ∙ at)

  -- the object in the cell has the slot that is not refused
  -- The object with the id stands in the cell, and has the slot.
  pub record HasSlotAt (at slot cell : ℕ) (o : Resident) : Type 0 where
    pub in_cell : id_in (placed_of p) cell ≡ Some at
    pub held : held_at p.cells cell ≡ Some o
    pub allowed : slot_refusal (placed_of p).table at slot ≡ None

  pub slot_of_cell : (at slot cell : ℕ) (o : Resident) → HasSlotAt at slot cell o → slot < length o.slots
  slot_of_cell at slot cell o has = omega (arith, slot_fits (placed_of p).table at slot has.allowed, slots_of-found at cell o (found_in at cell has.in_cell) has.held)

  -- the slots of an object hold taken cells
  pub slots_taken : (cell slot : ℕ) (o : Resident) (s : CellSlot) → held_at p.cells cell ≡ Some o → slice_get o.slots slot ≡ Some s → HoldsTaken p.cells s
  slots_taken cell slot o s held at =
      let all : All (HoldsTaken p.cells) o.slots = of_some (λ u. All (HoldsTaken p.cells) u.slots) (held_at p.cells cell) o (is.laid.leads cell) held in
      subst (HoldsTaken p.cells) (get_or_from_slice_get o.slots slot s s at) (all slot s (slice_get_within o.slots slot s at))

  -- what a slot holds, by cells and by ids
  same_held : (h : Option ℕ) → option_and_then (id_in (placed_of p)) h ≡ option_and_then (id_held p.cells) h
  same_held None = refl
  same_held (Some cell) = id_in-held p is.laid cell

  pub slot_holds : (cell slot : ℕ) (o : Resident) (s : CellSlot) → held_at p.cells cell ≡ Some o → slice_get o.slots slot ≡ Some s →
      option_and_then (id_in (placed_of p)) s.held ≡ (slot_in (placed_of p) cell slot).held
  slot_holds cell slot o s held at = same_held s.held ∙ sym (ap (λ t. t.held) (slot_in-held p is.laid cell slot o s held at))

  some_held : (s : CellSlot) → HoldsTaken p.cells s → is_some s.held ≡ is_some (option_and_then (id_held p.cells) s.held)
  some_held s taken = go s.held taken
    where
      go : (h : Option ℕ) → IfSome h (λ cell. IsTrue (is_taken p.cells cell)) → is_some h ≡ is_some (option_and_then (id_held p.cells) h)
      go None taken = refl
      go (Some cell) taken = let (o, held) = held_taken p.cells cell taken in sym (ap (λ c. is_some (option_map (λ (q : Resident). q.id) c)) held)

  pub slot_in_a_cell : (cell slot : ℕ) (o : Resident) (s : CellSlot) → held_at p.cells cell ≡ Some o → slice_get o.slots slot ≡ Some s → is_some s.held ≡ is_some (slot_in (placed_of p) cell slot).held
  slot_in_a_cell cell slot o s held at = some_held s (slots_taken cell slot o s held at) ∙ sym (ap (λ t. is_some t.held) (slot_in-held p is.laid cell slot o s held at))

  pub slot_weak : (cell slot : ℕ) (o : Resident) (s : CellSlot) → held_at p.cells cell ≡ Some o → slice_get o.slots slot ≡ Some s → s.weak ≡ (slot_in (placed_of p) cell slot).weak
  slot_weak cell slot o s held at = sym (ap (λ t. t.weak) (slot_in-held p is.laid cell slot o s held at))

  -- a slot that isn't weak is an edge where it holds something, and a weak one is none
  pub edge_strong : (cell slot : ℕ) (o : Resident) (s : CellSlot) → held_at p.cells cell ≡ Some o → slice_get o.slots slot ≡ Some s →
      s.weak ≡ false → edge_of (slot_in (placed_of p) cell slot) ≡ (slot_in (placed_of p) cell slot).held
  edge_strong cell slot o s held at strong = ap (λ b. cond b None (slot_in (placed_of p) cell slot).held) (sym (slot_weak cell slot o s held at) ∙ strong)

  pub edge_weak : (cell slot : ℕ) (o : Resident) (s : CellSlot) → held_at p.cells cell ≡ Some o → slice_get o.slots slot ≡ Some s → s.weak ≡ true → edge_of (slot_in (placed_of p) cell slot) ≡ None
  edge_weak cell slot o s held at weak = ap (λ b. cond b None (slot_in (placed_of p) cell slot).held) (sym (slot_weak cell slot o s held at) ∙ weak)

  -- the edges of an object by cells are those of its slots
  pub edges_are : (cell : ℕ) (o : Resident) → held_at p.cells cell ≡ Some o → AreEdgesAt (placed_of p) cell (map cell_edge o.slots)
  edges_are cell o held = record {
    count = length-map o.slots cell_edge ∙ sym (length-slots_in p is.laid cell o held);
    leads = λ slot within.
        let at = slice_get-get_or o.slots slot no_edge (below slot within) in
        ap (option_and_then (id_in (placed_of p))) (edge_is slot within) ∙ leads_by slot (get_or o.slots slot no_edge) at (get_or o.slots slot no_edge).weak refl;
    in_a_cell = λ slot within.
        let at = slice_get-get_or o.slots slot no_edge (below slot within) in
        ap is_some (edge_is slot within) ∙ in_a_cell_by slot (get_or o.slots slot no_edge) at (get_or o.slots slot no_edge).weak refl;
  }
    where
      below : (slot : ℕ) → slot < length (map cell_edge o.slots) → slot < length o.slots
      below slot within = rw (length-map o.slots cell_edge) at within

      edge_is : (slot : ℕ) → slot < length (map cell_edge o.slots) → get_or (map cell_edge o.slots) slot None ≡ cell_edge (get_or o.slots slot no_edge)
      edge_is slot within = get_or-map cell_edge o.slots slot no_edge None (below slot within)

      leads_by : (slot : ℕ) (s : CellSlot) → slice_get o.slots slot ≡ Some s → (weak : Bool) → s.weak ≡ weak →
          option_and_then (id_in (placed_of p)) (cond weak None s.held) ≡ edge_of (slot_in (placed_of p) cell slot)
      leads_by slot s at true weak = sym (edge_weak cell slot o s held at weak)
      leads_by slot s at false strong = slot_holds cell slot o s held at ∙ sym (edge_strong cell slot o s held at strong)

      in_a_cell_by : (slot : ℕ) (s : CellSlot) → slice_get o.slots slot ≡ Some s → (weak : Bool) → s.weak ≡ weak →
          is_some (cond weak None s.held) ≡ is_some (edge_of (slot_in (placed_of p) cell slot))
      in_a_cell_by slot s at true weak = sym (ap is_some (edge_weak cell slot o s held at weak))
      in_a_cell_by slot s at false strong = slot_in_a_cell cell slot o s held at ∙ sym (ap is_some (edge_strong cell slot o s held at strong))

  -- what a root names is found
  pub root_found : (root id : ℕ) → root < length p.roots → IfSome (slice_get p.roots root) (λ r. id ≡ r.1) → is_some (found p.ids id) ≡ true
  root_found root id h named =
      let d : List ℕ × ℕ = ([], 0) in
      let same : id ≡ (get_or p.roots root d).1 = rw (slice_get-get_or p.roots root d h) at named in
      let live : IsTrue (is_live (placed_of p).table (get_or (map (λ r. r.1) p.roots) root 0)) = is.sound.roots root 0 (rw (length-map p.roots (λ r. r.1)) h) in
      sym (live_found p is.laid id) ∙ ap (is_live (placed_of p).table) (same ∙ sym (get_or-map (λ (r : List ℕ × ℕ). r.1) p.roots root d 0 h)) ∙ live

  pub root_in : (cell id : ℕ) (o : Option (List ℕ × ℕ)) → found p.ids id ≡ Some cell → IfSome o (λ r. id ≡ r.1) → IfSome o (λ r. id_in (placed_of p) cell ≡ Some r.1)
  root_in cell id None at named = tt
  root_in cell id (Some r) at named = id_in-held p is.laid cell ∙ stands_found p is.laid id cell at ∙ ap Some named

  pub nth_within : (number : ℕ) → number < length (placed_of p).table.objects → number < length p.ids
  nth_within number h = rw (length-map p.ids (λ e. object_at_cell p.kinds p.cells e.1)) at h

  -- the objects by id stand in the order in which their ids are kept
  pub nth_in : (number cell : ℕ) → number < length p.ids → IfSome (slice_get p.ids number) (λ e. cell ≡ e.1) → id_in (placed_of p) cell ≡ slice_get (ids (placed_of p).table) number
  nth_in number cell h at =
      let d : ℕ × ℕ = (0, 0) in
      let e : ℕ × ℕ = get_or p.ids number d in
      let here : slice_get p.ids number ≡ Some e = slice_get-get_or p.ids number d h in
      let there : cell ≡ e.1 = rw here at at in
      let stands : id_held p.cells e.1 ≡ Some e.0 = is.laid.stands number d h in
      let (o, held, same) = held_with_id p.cells e.1 e.0 stands in
      let objects : List Object = map (λ x. object_at_cell p.kinds p.cells x.1) p.ids in
      let listed : slice_get (ids (placed_of p).table) number ≡ Some (object_at_cell p.kinds p.cells e.1).id =
      slice_get-map (λ (q : Object). q.id) objects number
      ∙ ap (option_map (λ (q : Object). q.id))
      (slice_get-map (λ (x : ℕ × ℕ). object_at_cell p.kinds p.cells x.1) p.ids number
      ∙ ap (option_map (λ (x : ℕ × ℕ). object_at_cell p.kinds p.cells x.1)) here) in
      id_in-held p is.laid cell ∙ ap (id_held p.cells) there ∙ stands ∙ sym (listed ∙ ap Some (ap (λ q. (unwrap_or q nobody).id) held ∙ same))

-- ---- a table after a call

module _ (p : TableParts) (is : IsTable p) where
  pub table_with_name : (name : List ℕ) → kind_refusal (placed_of p).table name ≡ None →
      IsTable (with_name p is.laid name) × ((placed_of (with_name p is.laid name)).table ≡ record (placed_of p).table { kinds = with_kind p.kinds name })
  table_with_name name allowed =
      let same : (placed_of (with_name p is.laid name)).table ≡ record (placed_of p).table {
        kinds =
            with_kind p.kinds name;
      } = ap (λ l. record { objects = l; roots = p.roots; greatest = p.greatest; kinds = with_kind p.kinds name; most = p.most }) (objects-with_name p is.laid name) in (
        record {
          laid = laid-with_name p is.laid name;
          counted = is.counted ∙ sym (ap slot_count same);
          sound = subst IsSound (sym same) (sound_with_kind (placed_of p).table name is.sound allowed);
        },
        same,
      )

  pub table_with_root : (name : List ℕ) (id : ℕ) → root_refusal (placed_of p).table name (Some id) ≡ None → IsTable (record p { roots = insert_entry name_cmp p.roots name id })
  unfolding with_root
  table_with_root name id allowed = record {
    laid = record { rising = is.laid.rising; stands = is.laid.stands; once = is.laid.once; known = is.laid.known; leads = is.laid.leads; few = is.laid.few };
    counted = is.counted;
    sound = sound_with_root (placed_of p).table name (Some id) is.sound allowed;
  }

  pub table_without_root : (name : List ℕ) → IsTable (record p { roots = remove_entry (is_at (name_cmp name)) p.roots })
  unfolding with_root
  table_without_root name = record {
    laid = record { rising = is.laid.rising; stands = is.laid.stands; once = is.laid.once; known = is.laid.known; leads = is.laid.leads; few = is.laid.few };
    counted = is.counted;
    sound = sound_with_root (placed_of p).table name None is.sound (root_taken (placed_of p).table name);
  }

  -- ---- a slot is changed

  -- what a change of a slot leaves
  pub record IsChanged (at slot : ℕ) (change : Slot → Slot) (later : List (Option Resident)) : Type 0 where
    pub table : IsTable (record p { cells = later })
    pub same : (placed_of (record p { cells = later })).table ≡ with_changed_slot (placed_of p).table at slot change
    pub cells : (placed_of (record p { cells = later })).cells ≡ (placed_of p).cells

  changed_with : (at slot cell : ℕ) (change : Slot → Slot) (o : Resident) (s value : CellSlot) (later : List (Option Resident)) →
      HasSlotAt p is at slot cell o → slice_get o.slots slot ≡ Some s →
      change (slot_of p.cells s) ≡ slot_of p.cells value → HoldsTaken p.cells value →
      IsSound (with_changed_slot (placed_of p).table at slot change) →
      later ≡ set p.cells cell (Some (record o { slots = set o.slots slot value })) → IsChanged at slot change later
  changed_with at slot cell change o s value later has there changes taken sound put =
      let its_id : o.id ≡ at = same_Some o.id at (sym (ap (option_map (λ (q : Resident). q.id)) has.held) ∙ sym (id_in-held p is.laid cell) ∙ has.in_cell) in
      let same : (placed_of (with_changed p is.laid cell slot o s value has.held there change changes)).table ≡ with_changed_slot (placed_of p).table at slot change =
      changed_is p is.laid cell slot o s value has.held there change changes ∙ ap (λ id. with_changed_slot (placed_of p).table id slot change) its_id in
      subst (IsChanged at slot change) (sym put) (record {
        table = record {
          laid = changed_laid p is.laid cell slot o s value has.held there change changes taken;
          counted = is.counted ∙ sym (slot_count-changed (placed_of p).table at slot change) ∙ sym (ap slot_count same);
          sound = subst IsSound (sym same) sound;
        };
        same = same;
        cells = changed_cells p is.laid cell slot o s value has.held there change changes;
      })

  pub stored : (at slot cell : ℕ) (to target : Option ℕ) (o : Resident) (s : CellSlot) (later : List (Option Resident)) →
      HasSlotAt p is at slot cell o → slice_get o.slots slot ≡ Some s →
      option_and_then (id_in (placed_of p)) target ≡ to → IfSome target (λ c. IsSome (id_in (placed_of p) c)) →
      store_refusal (placed_of p).table at slot to ≡ None →
      later ≡ set p.cells cell (Some (record o { slots = set o.slots slot (record { held = target; weak = s.weak }) })) →
      IsChanged at slot (slot_holding to) later
  stored at slot cell to target o s later has there holds taken allowed put =
      changed_with at slot cell (slot_holding to) o s (record { held = target; weak = s.weak }) later has there
      (ap (λ id. record { held = id; weak = s.weak }) (sym holds ∙ same_held p is target))
      (go target taken)
      (sound_with_store (placed_of p).table at slot to is.sound allowed) put
    where
      go : (h : Option ℕ) → IfSome h (λ c. IsSome (id_in (placed_of p) c)) → IfSome h (λ c. IsTrue (is_taken p.cells c))
      go None taken = tt
      go (Some c) taken = one (held_at p.cells c) refl (subst IsSome (id_in-held p is.laid c) taken)
        where
          one : (q : Option Resident) → held_at p.cells c ≡ q → IsSome (option_map (λ (u : Resident). u.id) q) → is_some q ≡ true
          one None e some = absurd cc
          one (Some u) e some = refl

  pub made_weak : (at slot cell : ℕ) (weak : Bool) (o : Resident) (s : CellSlot) (later : List (Option Resident)) →
      HasSlotAt p is at slot cell o → slice_get o.slots slot ≡ Some s →
      later ≡ set p.cells cell (Some (record o { slots = set o.slots slot (record { held = s.held; weak = weak }) })) →
      IsChanged at slot (slot_made_weak weak) later
  made_weak at slot cell weak o s later has there put =
      changed_with at slot cell (slot_made_weak weak) o s (record { held = s.held; weak = weak }) later has there refl
      (slots_taken p is cell slot o s has.held there)
      (sound_with_weak (placed_of p).table at slot weak is.sound has.allowed) put

  -- ---- an object more

  -- the new id is above all others
  above_all : (id : ℕ) → p.greatest < id → All (λ e. e.0 < id) p.ids
  above_all id above k d h =
      let e : ℕ × ℕ = get_or p.ids k d in
      let (o, held, same) = held_with_id p.cells e.1 e.0 (is.laid.stands k d h) in
      let objects : List Object = map (λ f. object_at_cell p.kinds p.cells f.1) p.ids in
      let long : length objects ≡ length p.ids = length-map p.ids (λ f. object_at_cell p.kinds p.cells f.1) in
      let low = is.sound.ids.within k 0 (subst (λ n. k < n) (sym (length-map objects (λ u. u.id) ∙ long)) h) in
      let its_id : get_or (map (λ (u : Object). u.id) objects) k 0 ≡ e.0 =
      get_or-map (λ (u : Object). u.id) objects k (object_at_cell p.kinds p.cells d.1) 0 (subst (λ n. k < n) (sym long) h)
      ∙ ap (λ (u : Object). u.id) (get_or-map (λ (f : ℕ × ℕ). object_at_cell p.kinds p.cells f.1) p.ids k d (object_at_cell p.kinds p.cells d.1) h)
      ∙ ap (λ c. (unwrap_or c nobody).id) held
      ∙ same in
      omega (arith, low, its_id)

  module _ (name : List ℕ) (id number slots : ℕ) (named : number ≡ unwrap_or (position (bytes_eq name) p.kinds) (length p.kinds))
      (allowed : alloc_refusal (placed_of p).table id name slots ≡ None) where
    length-objects : length (placed_of p).table.objects ≡ length p.ids
    length-objects = length-map p.ids (λ e. object_at_cell p.kinds p.cells e.1)

    pub room_for_ids : length p.ids < MOST_OBJECTS
    room_for_ids = omega (arith, (alloc_fits (placed_of p).table id name slots allowed).room, is.sound.limits.possible.objects, length-objects)

    pub room_for_cell : next_cell p.cells < MOST_OBJECTS
    room_for_cell = ⊎_elim
        (λ inside. omega (arith, inside, is.laid.few))
        (λ past.
        let full : next_cell p.cells ≡ length p.cells = omega (arith, next_within p.cells) in
        omega (arith, full, full_cells p is.laid full, room_for_ids))
        (cases_lt (next_cell p.cells) (length p.cells))

    pub table_with_one : IsTable (with_one p is.laid name id number slots named)
    table_with_one =
        let same = added_is p is.laid name id number slots named in
        let fits = alloc_fits (placed_of p).table id name slots allowed in
        record {
          laid = added_laid p is.laid name id number slots named (above_all id fits.above) room_for_ids;
          counted = ap (λ n. n + slots) is.counted ∙ sym (slot_count-added (placed_of p).table id name slots) ∙ sym (ap slot_count same);
          sound = subst IsSound (sym same) (sound_with_object (placed_of p).table id name slots is.sound allowed);
        }

  -- ---- cells are emptied

  module _ (kept : List Bool) (later : List (Option Resident)) (long : length later ≤ length p.cells)
      (after : (cell : ℕ) → held_at later cell ≡ held_after kept p.cells cell)
      (leads : LeadsToKept (placed_of p).table (kept_ids (placed_of p).cells kept)) where
    sound_kept : (slots : ℕ) → IsSound (placed_of (with_kept p is.laid kept later after slots)).table
    sound_kept slots = subst IsSound (sym (kept_is p is.laid kept later after slots)) (sound_with_only (placed_of p).table (kept_ids (placed_of p).cells kept) is.sound leads)

    pub table_kept : (slots : ℕ) → slots ≡ sum_by (λ e. slots_at_cell later e.1) (filter (λ e. is_flagged kept e.1) p.ids) → IsTable (with_kept p is.laid kept later after slots)
    table_kept slots counted = record {
      laid = kept_laid p is.laid kept later after slots long;
      counted = counted ∙ sym (slot_count-is (with_kept p is.laid kept later after slots));
      sound = sound_kept slots;
    }

-- ---- an object by its place among the ids

module _ (cells : List (Option Resident)) (ids : List (ℕ × ℕ)) (place cell : ℕ) (h : place < length ids) (is : IfSome (slice_get ids place) (λ e. cell ≡ e.1)) where
  pub place_cell : (d : ℕ × ℕ) → cell ≡ (get_or ids place d).1
  place_cell d = rw (slice_get-get_or ids place d h) at is

  pub place_taken : All (λ e. IsTrue (is_taken cells e.1)) ids → IsSome (held_at cells cell)
  place_taken taken = let d : ℕ × ℕ = (0, 0) in ap (is_taken cells) (place_cell d) ∙ taken place d h

  module _ (o : Resident) (held : held_at cells cell ≡ Some o) where
    slots_here : (d : ℕ × ℕ) → slots_at_cell cells (get_or ids place d).1 ≡ length o.slots
    slots_here d = ap (slots_at_cell cells) (sym (place_cell d)) ∙ ap (λ (c : Option Resident). length (unwrap_or c nobody).slots) held

    pub place_slots : (n : ℕ) → n ≡ length o.slots → (d : ℕ × ℕ) → n ≡ slots_at_cell cells (get_or ids place d).1
    place_slots n counted d = counted ∙ sym (slots_here d)
