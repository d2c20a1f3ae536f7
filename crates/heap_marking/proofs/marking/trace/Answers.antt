use Rattle.std.proofs.Common.{length, sym, ap, ◌∙◌, subst, arith}
use Rattle.std.specs.Prelude.{slice_index}
use Rattle.std.specs.List.{All}
use Rattle.header_rule.specs.ClosedWords.{count_in}
use Rattle.header_rule.specs.Passes.{ArePassesOf}
use Rattle.scan_job.specs.Cells.{graph_of}
use Rattle.heap_marking.specs.TracedCells.{IsNewFor, all_tallies}
use Rattle.heap_marking.proofs.TracedWords.{are-closed, is-trace, count-of}
use Rattle.heap_marking.proofs.WholeTrace.{can-begin, all-new, many-after, passes-after}
use Rattle.heap_marking.proofs.marking.trace.Goals as goal

pub run_phases-requires-after_bounds : goal.run_phases-requires-after_bounds
run_phases-requires-after_bounds g c κs within =
    let kit = c.args.kit in
    let m = kit.memory in
    let begins = can-begin _ m.jobs.items m.first (record {
      passes = m.pass_each;
      new = subst (λ n. All (IsNewFor m.headers.cells n) m.jobs.items) c.requires.kinds m.new_jobs;
      cells = c.requires.cells;
      some = m.some_jobs;
      few = m.few_jobs;
      lists = m.list_each;
      list_room = m.list_room;
    })
    c.requires.roles c.cells-cells.ensures.placed c.cells-cells.ensures.sound in
    record {
      ready = begins.ready;
      left = begins.left;
      jobs = kit.job_each;
      lists = begins.lists ∙ kit.job_each;
      list_room = begins.list_room;
      room = (let room = kit.crew_room in let cells = c.requires.cells in omega arith);
    }

pub merge_tallies-requires-clause-few : goal.merge_tallies-requires-clause-few
merge_tallies-requires-clause-few g c =
    let many = many-after (graph_of c.args.table.now c.args.roles.now) c.args.kit.memory.jobs.items c.run_phases.new.jobs.items c.in_ok-run_phases.ensures.phases in
    let few = c.args.kit.memory.few_jobs in
    let all = ap length c.deref.ensures.value in
    omega arith

pub take_passes-requires-clause-room : goal.take_passes-requires-clause-room
take_passes-requires-clause-room g c =
    let many = many-after (graph_of c.args.table.now c.args.roles.now) c.args.kit.memory.jobs.items c.run_phases.new.jobs.items c.in_ok-run_phases.ensures.phases in
    let room = c.args.kit.memory.pass_room in
    omega arith

pub close-words-requires : goal.close-words-requires
close-words-requires g c =
    record {
      passes = subst (ArePassesOf c.args.kit.memory.headers) (sym c.take_passes.ensures)
          (passes-after (graph_of c.args.table.now c.args.roles.now) c.args.kit.memory.jobs.items c.run_phases.new.jobs.items
          c.in_ok-run_phases.ensures.phases _ c.in_ok-run_phases.ensures.ready c.args.kit.memory.pass_each);
    }

pub returns-clause-trace : goal.returns-clause-trace
returns-clause-trace g c h stand =
    let kit = c.args.kit in
    let p = c.args.table.now in
    let ms = c.run_phases.new.jobs.items in
    let shut = c.close-words.ensures in
    let made = c.make.ensures in
    is-trace p c.args.roles.now c.cells-cells.ensures.placed c.cells-cells.ensures.sound c.requires.roles kit.memory.jobs.items ms
    (all-new kit.memory.headers.cells (length kit.memory.tally) kit.memory.jobs.items kit.memory.new_jobs) c.in_ok-run_phases.ensures.phases
    c.close-words.result
    (are-closed (length p.cells) kit.memory.headers.cells c.close-words.result ms c.take_passes.new.passes.items c.requires.cells c.take_passes.ensures shut.counts shut.marks shut.wins)
    h stand c.make.result made.words (shut.cells ∙ c.requires.cells) made.counts
    (ap length made.instances ∙ c.merge_tallies.ensures.kinds ∙ c.requires.kinds)
    (λ kind. ap (λ t. slice_index t kind) made.instances ∙ c.merge_tallies.ensures.sums kind ∙ ap (all_tallies kind) c.deref.ensures.value)

pub returns-clause-counts : goal.returns-clause-counts
returns-clause-counts g c h stand cell id at =
    let kit = c.args.kit in
    let p = c.args.table.now in
    let ms = c.run_phases.new.jobs.items in
    let shut = c.close-words.ensures in
    ap (λ w. count_in w cell) c.make.ensures.words
    ∙ count-of p c.args.roles.now c.cells-cells.ensures.placed c.cells-cells.ensures.sound c.requires.roles kit.memory.jobs.items ms
    (all-new kit.memory.headers.cells (length kit.memory.tally) kit.memory.jobs.items kit.memory.new_jobs) c.in_ok-run_phases.ensures.phases
    c.close-words.result
    (are-closed (length p.cells) kit.memory.headers.cells c.close-words.result ms c.take_passes.new.passes.items c.requires.cells c.take_passes.ensures shut.counts shut.marks shut.wins)
    h stand cell id at
