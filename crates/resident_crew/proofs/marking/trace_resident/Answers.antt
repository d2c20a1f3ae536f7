use Rattle.std.proofs.Common.{◌≡◌, ℕ, length, sym, ap, ◌∙◌, subst, arith}
use Rattle.std.specs.List.{All}
use Rattle.std.specs.Arc.{arc_value}
use Rattle.header_rule.specs.ClosedWords.{count_in}
use Rattle.heap_base.specs.Counting.{bit, is_positive}
use Rattle.header_rule.specs.Passes.{ArePassesOf, all_adds, all_wins}
use Rattle.scan_job.specs.Cells.{graph_of}
use Rattle.scan_job.specs.Jobs.{graph_in}
use Rattle.scan_job.specs.Phases.{CanBeginPhase}
use Rattle.scan_job.specs.Shared.{SharedHeap}
use Rattle.scan_job.specs.States.{passes_of}
use Rattle.heap_marking.specs.TracedCells.{AreWonOnce, IsNewFor, ThreePhases, all_tallies}
use Rattle.heap_marking.proofs.TracedWords.{AreClosed, are-closed, is-trace, count-of}
use Rattle.heap_marking.proofs.WholeTrace.{can-begin, all-new, many-after, passes-after}
use Rattle.resident_crew.specs.Scans.{shared_by_scan}
use Rattle.resident_crew.specs.declared.scan.ResidentScan.{ResidentScan}
use Rattle.resident_crew.proofs.Tallies.{few-tallied}
use Rattle.resident_crew.proofs.marking.trace_resident.Goals as goal
use Rattle.resident_crew.proofs.marking.trace_resident.Goals.{In_ok-jobs, In_ok-words}

pub run_phases-requires-clause-begin : goal.run_phases-requires-clause-begin
run_phases-requires-clause-begin g c κs within =
    let m = c.in_ok-memory.memory in
    let s : SharedHeap = record { headers = m.headers; table = c.args.table.now; roles = c.args.roles.now } in
    let begins : CanBeginPhase s m.jobs.items m.first = can-begin s m.jobs.items m.first (record {
      passes = m.pass_each;
      new = subst (λ n. All (IsNewFor m.headers.cells n) m.jobs.items) (c.in_ok-memory.ensures.kinds ∙ c.kinds.ensures.count) m.new_jobs;
      cells = c.in_ok-memory.ensures.cells ∙ c.cells-cells.ensures.count;
      some = m.some_jobs;
      few = m.few_jobs;
      lists = m.list_each;
      list_room = m.list_room;
    })
    c.requires.roles c.cells-cells.ensures.placed c.cells-cells.ensures.sound in
    subst (λ x. CanBeginPhase x m.jobs.items m.first) (sym c.in_ok-shared.ensures) begins

pub merge_tallies-requires-clause-few : goal.merge_tallies-requires-clause-few
merge_tallies-requires-clause-few g c =
    let m = c.in_ok-memory.memory in
    let many = many-after (graph_in (shared_by_scan (arc_value c.in_ok-shared.shared))) m.jobs.items c.in_ok-jobs.jobs.items c.in_ok-jobs.ensures.phases in
    let few = m.few_jobs in
    let all = ap length c.deref.ensures.value in
    omega arith

pub take_passes-requires-clause-room : goal.take_passes-requires-clause-room
take_passes-requires-clause-room g c =
    let m = c.in_ok-memory.memory in
    let many = many-after (graph_in (shared_by_scan (arc_value c.in_ok-shared.shared))) m.jobs.items c.in_ok-jobs.jobs.items c.in_ok-jobs.ensures.phases in
    let room = m.pass_room in
    omega arith

pub read_all-requires : goal.read_all-requires
read_all-requires g c =
    let m = c.in_ok-memory.memory in
    let s = shared_by_scan (arc_value c.in_ok-shared.shared) in
    let js = m.jobs.items in
    let ms = c.in_ok-jobs.jobs.items in
    let given : ArePassesOf s.headers (passes_of js) = subst (λ (x : SharedHeap). ArePassesOf x.headers (passes_of js)) (sym c.in_ok-shared.ensures) m.pass_each in
    let kept : ArePassesOf s.headers (passes_of ms) = passes-after (graph_in s) js ms c.in_ok-jobs.ensures.phases s c.in_ok-jobs.ensures.ready given in
    let there : ArePassesOf c.deref-2.result.now.headers (passes_of ms) = subst (λ (x : ResidentScan). ArePassesOf x.headers (passes_of ms)) (sym c.deref-2.ensures) kept in
    record { passes = subst (ArePassesOf c.deref-2.result.now.headers) (sym c.take_passes.ensures) there }

-- the phases over what the table and the roles say
phases_are : (g : _) (c : In_ok-jobs g) → ThreePhases (graph_of c.args.table.now c.args.roles.now) c.in_ok-memory.memory.jobs.items c.in_ok-jobs.jobs.items
phases_are g c = subst (λ (x : SharedHeap). ThreePhases (graph_in x) c.in_ok-memory.memory.jobs.items c.in_ok-jobs.jobs.items) c.in_ok-shared.ensures c.in_ok-jobs.ensures.phases

-- there is a header for each cell
cells_are : (g : _) (c : In_ok-words g) → c.deref-2.result.now.headers.cells ≡ length c.args.table.now.cells
cells_are g c =
    ap (λ (x : ResidentScan). x.headers.cells) c.deref-2.ensures ∙ ap (λ (x : SharedHeap). x.headers.cells) c.in_ok-shared.ensures ∙ c.in_ok-memory.ensures.cells ∙ c.cells-cells.ensures.count

-- the words are those of the jobs after the phases
closed : (g : _) (c : In_ok-words g) → AreClosed (length c.args.table.now.cells) c.in_ok-words.words c.in_ok-jobs.jobs.items
closed g c =
    let read = c.in_ok-words.ensures in
    are-closed _ c.deref-2.result.now.headers.cells _ _ c.take_passes.new.passes.items (cells_are g c) c.take_passes.ensures read.counts read.marks read.wins

pub of-requires-clause-below : goal.of-requires-clause-below
of-requires-clause-below g c kind =
    let m = c.in_ok-memory.memory in
    let ms = c.in_ok-jobs.jobs.items in
    let phases = phases_are g (goal.at.of-requires-clause-below g c).In_ok-jobs in
    let once : AreWonOnce ms = subst (λ ps. (x : ℕ) → all_wins x ps ≡ bit (is_positive (all_adds x ps))) c.take_passes.ensures c.in_ok-words.ensures.wins in
    let few = few-tallied c.args.table.now c.args.roles.now c.requires.roles m.jobs.items ms (all-new m.headers.cells (length m.tally) m.jobs.items m.new_jobs) phases once kind in
    let sum = c.merge_tallies.ensures.sums kind in
    let all = ap (all_tallies kind) c.deref.ensures.value in
    let cells = c.in_ok-memory.ensures.cells in
    let count = c.cells-cells.ensures.count in
    let most = m.few_cells in
    omega arith

pub returns-clause-trace : goal.returns-clause-trace
returns-clause-trace g c h stand =
    let at = goal.at.returns-clause-trace g c in
    let m = c.in_ok-memory.memory in
    let made = c.in_ok-traced.ensures in
    is-trace c.args.table.now c.args.roles.now c.cells-cells.ensures.placed c.cells-cells.ensures.sound c.requires.roles m.jobs.items c.in_ok-jobs.jobs.items
    (all-new m.headers.cells (length m.tally) m.jobs.items m.new_jobs) (phases_are g at.In_ok-jobs) c.in_ok-words.words (closed g at.In_ok-words)
    h stand c.in_ok-traced.traced made.words (c.in_ok-words.ensures.cells ∙ cells_are g at.In_ok-words) made.counts
    (made.kinds ∙ c.merge_tallies.ensures.kinds ∙ c.in_ok-memory.ensures.kinds ∙ c.kinds.ensures.count)
    (λ kind. made.instances kind ∙ c.merge_tallies.ensures.sums kind ∙ ap (all_tallies kind) c.deref.ensures.value)

pub returns-clause-counts : goal.returns-clause-counts
returns-clause-counts g c h stand cell id found =
    let at = goal.at.returns-clause-counts g c in
    let m = c.in_ok-memory.memory in
    ap (λ w. count_in w cell) c.in_ok-traced.ensures.words
    ∙ count-of c.args.table.now c.args.roles.now c.cells-cells.ensures.placed c.cells-cells.ensures.sound c.requires.roles m.jobs.items c.in_ok-jobs.jobs.items
    (all-new m.headers.cells (length m.tally) m.jobs.items m.new_jobs) (phases_are g at.In_ok-jobs) c.in_ok-words.words (closed g at.In_ok-words)
    h stand cell id found
