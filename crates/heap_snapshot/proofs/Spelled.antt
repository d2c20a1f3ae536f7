-- The lines of a trace, spelled out.
use Rattle.std.proofs.Common.{◌≡◌, ℕ, List, ◌++◌, sym, ◌∙◌, append_assoc}
use Rattle.std.specs.Prelude.{codes, decimal}
use Rattle.json.specs.Print.{quoted}
use Rattle.serde_json.proofs.OnLiterals.{serde_json_on_literals}
use Rattle.heap_snapshot.specs.Trace.{data_line, alloc_data, store_data, root_data}

pub store_spelled : (at slot to : ℕ) →
    data_line (store_data at slot to) ≡ codes "{\"at\":" ++ decimal at ++ codes ",\"op\":\"store\",\"slot\":" ++ decimal slot ++ codes ",\"to\":" ++ decimal to ++ codes "}\n"
unfolding data_line serde_json_on_literals
store_spelled at slot to = simp append_assoc

nested : (a b c d e f g : List ℕ) → a ++ b ++ c ++ d ++ e ++ f ++ g ≡ a ++ (b ++ (c ++ (d ++ (e ++ (f ++ g)))))
nested a b c d e f g = simp append_assoc

alloc_nested : (id slots : ℕ) (kind : List ℕ) →
    data_line (alloc_data id slots kind) ≡ codes "{\"id\":" ++ (decimal id ++ (codes ",\"op\":\"alloc\",\"slots\":" ++ (decimal slots ++ (codes ",\"type\":" ++ (quoted kind ++ codes "}\n")))))
unfolding data_line serde_json_on_literals
alloc_nested id slots kind = simp append_assoc

pub alloc_spelled : (id slots : ℕ) (kind : List ℕ) →
    data_line (alloc_data id slots kind) ≡ codes "{\"id\":" ++ decimal id ++ codes ",\"op\":\"alloc\",\"slots\":" ++ decimal slots ++ codes ",\"type\":" ++ quoted kind ++ codes "}\n"
alloc_spelled id slots kind =
    alloc_nested id slots kind ∙ sym (nested (codes "{\"id\":") (decimal id) (codes ",\"op\":\"alloc\",\"slots\":") (decimal slots) (codes ",\"type\":") (quoted kind) (codes "}\n"))

pub root_spelled : (name : List ℕ) (to : ℕ) → data_line (root_data name to) ≡ codes "{\"name\":" ++ quoted name ++ codes ",\"op\":\"root\",\"to\":" ++ decimal to ++ codes "}\n"
unfolding data_line serde_json_on_literals
root_spelled name to = simp append_assoc

-- ---- pieces that are appended one after another

pub seven : (t a b c d e f g : List ℕ) → ((((((t ++ a) ++ b) ++ c) ++ d) ++ e) ++ f) ++ g ≡ t ++ (a ++ b ++ c ++ d ++ e ++ f ++ g)
seven t a b c d e f g = simp append_assoc

pub five : (t a b c d e : List ℕ) → ((((t ++ a) ++ b) ++ c) ++ d) ++ e ≡ t ++ (a ++ b ++ c ++ d ++ e)
five t a b c d e = simp append_assoc
