use Rattle.std.proofs.lemmas.List.Filters.{FiltersInPlace}
use Rattle.object_table.specs.Residents.{is_flagged}
use Rattle.object_table.proofs.ids.compact.Given as goal

-- of the entries before this place those that are kept stand first, and the others are as they were
abbrev pub invariant-loop-place : goal.invariant-loop-place
invariant-loop-place l = FiltersInPlace (λ e. is_flagged l.kept e.1) l.initial.entries l.entries l.end l.place
