use Rattle.std.proofs.Common.{[], length, replicate, ap, ◌∙◌, arith}
use Rattle.scan_job.specs.Shared.{shared_behind}
use Rattle.scan_job.proofs.Starting.{first-ready}
use Rattle.scan_job.proofs.OwnerCells.{few-owners}
use Rattle.scan_job.proofs.PhaseRuns.{owner-start, owner-begun}
use Rattle.owner_phase.proofs.Dealt.{dealt-owners}
use Rattle.owner_phase.proofs.owners.begin_owner_phase.Goals as goal

pub add_owners-requires : goal.add_owners-requires
add_owners-requires c =
    let s = shared_behind c.args.shared.now in
    let can = c.requires in
    let ready = (first-ready s c.args.jobs.now.items can.some can.ready).1 in
    let few = few-owners s.table s.roles ready.roles in
    let owners = ap length c.owners.ensures in
    record {
      some = (let a = can.some in let e = c.len.ensures in omega arith);
      lists = c.clear.ensures.lists ∙ ap (λ n. replicate n []) (can.lists ∙ (let e = c.len.ensures in let v = c.args.jobs.now.ok in omega arith));
      room = (let room = c.clear.ensures.room in let enough = can.list_room in omega arith);
      few = (let cells = ready.placed.few in omega arith);
    }

pub returns-clause-begun : goal.returns-clause-begun
returns-clause-begun c =
    let s = shared_behind c.args.shared.now in
    let js = c.args.jobs.now.items in
    owner-begun s js c.args.first.now c.requires (record {
      start = owner-start s js c.args.first.now c.requires;
      load = record { jobs = c.begin_phase.new.jobs.items; first = c.add_owners.new.first.lists };
      are_begun = c.begin_phase.ensures;
      lists = dealt-owners s.roles c.add_owners.ensures.lists (let e = c.len.ensures in let v = c.args.jobs.now.ok in omega arith) c.owners.ensures;
    })
