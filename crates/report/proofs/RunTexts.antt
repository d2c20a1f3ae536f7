-- The report on a run whose items come one after another.
use Rattle.std.proofs.Common.{◌≡◌, List, [], ◌∷◌, ◌++◌, ◌∙◌, ap}
use Rattle.std.proofs.lemmas.List.{append_assoc, append-nil}
use Rattle.std.proofs.lemmas.Grind.{flat_map-append}
use Rattle.graph_meaning.specs.declared.collection.Collection.{Collection}
use Rattle.report.specs.Run.{Totals, RunResult, Ending, with_collections, empty_run, with_earlier}
use Rattle.report.specs.Text.{collection_text}
use Rattle.report.specs.Report.{collections_text, last_line, report_text}
use Rattle.report.proofs.Runs.{with_collections-nil, with_collections-append}

pub collections_text-append : (xs ys : List Collection) → collections_text (xs ++ ys) ≡ collections_text xs ++ collections_text ys
collections_text-append xs ys = flat_map-append collection_text xs ys

pub collections_text-one : (c : Collection) → collections_text (c ∷ []) ≡ collection_text c
collections_text-one c = append-nil (collection_text c)

pub report_text-with_earlier : (before : Totals) (made : List Collection) (r : RunResult) →
    report_text before (with_earlier made r) ≡ collections_text made ++ report_text (with_collections before made) r
unfolding report_text
report_text-with_earlier before made r =
    ap (λ t. t ++ last_line (with_collections before (made ++ r.collections)) r.ending) (collections_text-append made r.collections)
    ∙ ap (λ (t : Totals). (collections_text made ++ collections_text r.collections) ++ last_line t r.ending) (with_collections-append before made r.collections)
    ∙ append_assoc (collections_text made) (collections_text r.collections) (last_line (with_collections (with_collections before made) r.collections) r.ending)

-- a run that ends at once has the last line alone
pub report_text-empty_run : (before : Totals) (ending : Ending) → report_text before (empty_run ending) ≡ last_line before ending
unfolding report_text
report_text-empty_run before ending = ap (λ (t : Totals). last_line t ending) (with_collections-nil before)
