use Rattle.std.proofs.Common.{◌≡◌, ℕ, List, true, IsSome, refl, sym, ap, subst, ◌∙◌, arith}
use Rattle.std.specs.List.{flat_map}
use Rattle.std.specs.Option.{is_some}
use Rattle.std.proofs.lemmas.Bool.{false≢true}
use Rattle.std.proofs.lemmas.List.{take_all, get_or_read}
use Rattle.graph_meaning.specs.Heap.{targets, is_live}
use Rattle.object_table.proofs.ObjectsByCell.{id-held}
use Rattle.minor_gc.specs.Marks.{MarksAll}
use Rattle.minor_gc.specs.Searches.{marks_of}
use Rattle.minor_gc.proofs.Marking.{Meets-none, Meets-join, flat_map_last}
use Rattle.minor_gc.proofs.search.Search.take_objects.Goals as goal
use Rattle.minor_gc.proofs.search.Search.take_objects.Goals.{in-Some, in_default}

pub loop-id-init : goal.loop-id-init
loop-id-init c = Meets-none c.args.table.now (marks_of c.args.self.now)

pub follow-requires-clause-cell : goal.follow-requires-clause-cell
follow-requires-clause-cell c = subst IsSome (sym c.in-Some.ensures.cell) refl

pub loop-id-preserved : goal.loop-id-preserved
loop-id-preserved c =
    let p = c.args.table.now in
    let ids = c.args.ids.now in
    let i = c.loop-id.id-index in
    let more = flat_map_last (targets p.table) ids i c.id-item.result (omega arith) c.id-item.is in
    elim c.match-cell_of.branch [
      | in-Some w ↦
          let its = id-held p w.in-Some.cell c.id-item.result w.in-Some.ensures.cell in
          let one = subst (λ id. MarksAll p (targets p.table id) (marks_of c.loop-id.self) (marks_of w.follow.new.self)) its w.follow.ensures.meets in
          rw w.self-is (subst (λ ys. MarksAll p ys (marks_of c.args.self.now) (marks_of w.follow.new.self)) (sym more) (Meets-join c.loop-id.invariant one))
      | in_default w ↦
          let item = get_or_read ids i c.id-item.result (omega arith) c.id-item.is c.id-item.result in
          let live : is_live p.table c.id-item.result ≡ true = ap (is_live p.table) item ∙ c.requires.live i c.id-item.result (omega arith) in
          absurd (false≢true (sym (ap is_some w.in_default.is) ∙ c.cell_of.ensures.live ∙ live))
    ]

pub returns : goal.returns
returns c =
    let p = c.args.table.now in
    subst (λ (xs : List ℕ). MarksAll p (flat_map (targets p.table) xs) (marks_of c.args.self.now) (marks_of c.loop-id.self))
    (take_all c.loop-id.id-index c.args.ids.now (omega arith))
    c.loop-id.invariant
