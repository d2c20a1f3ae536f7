use Rattle.std.proofs.Common.{[], length, ap, ◌∙◌}
use Rattle.std.proofs.lemmas.List.{length-replicate}
use Rattle.scan_job.specs.Shared.{shared_behind}
use Rattle.root_phase.proofs.RootRuns.{RootStart, first-of-begun, first-unspent, root-begun, root-first}
use Rattle.root_phase.proofs.roots.begin_root_phase.Goals as goal

pub meet_roots-requires-clause-ready : goal.meet_roots-requires-clause-ready
meet_roots-requires-clause-ready c =
    first-of-begun (shared_behind c.args.shared.now) c.args.jobs.now.items c.begin_phase.new.jobs.items c.index_mut.result.now c.requires.some
    c.requires.ready c.begin_phase.ensures c.index_mut.ensures.value

pub meet_roots-requires-clause-left : goal.meet_roots-requires-clause-left
meet_roots-requires-clause-left c =
    first-unspent c.args.jobs.now.items c.begin_phase.new.jobs.items c.index_mut.result.now c.requires.some c.requires.left c.begin_phase.ensures c.index_mut.ensures.value

pub returns : goal.returns
returns c =
    let s = shared_behind c.args.shared.now in
    let js = c.args.jobs.now.items in
    let p : RootStart s js c.args.first.now = record {
      can = c.requires;
      begins = c.begin_phase.new.jobs.items;
      are_begun = c.begin_phase.ensures;
      old = record { job = c.index_mut.result.now; lists = c.clear.new.self.lists };
      new = record { job = c.meet_roots.new.job; lists = c.meet_roots.new.first.lists };
      is_first = c.index_mut.ensures.value;
      workers = ap length c.clear.ensures.lists ∙ length-replicate (length c.args.first.now.lists) [] ∙ c.requires.lists;
      met = c.meet_roots.ensures.met;
      ready = c.meet_roots.ensures.ready;
    } in
    record {
      begun = root-begun s js c.args.first.now p;
      first = root-first s js c.args.first.now p;
      first_room = c.meet_roots.ensures.room ∙ c.clear.ensures.room;
    }
