use Rattle.std.proofs.Common.{ap, subst, ◌∙◌}
use Rattle.std.proofs.lemmas.Result.{IfOk-weaker}
use Rattle.graph_meaning.specs.Roles.{owner_in, has_owner}
use Rattle.graph_meaning.specs.Laws.{AllLive}
use Rattle.graph_meaning.specs.Collecting.{first_with_paths}
use Rattle.verdict_list.proofs.ViolatingOwnees.{doubts-held}
use Rattle.verdict_list.proofs.Collected.{verdicts_agree}
use Rattle.plain_collection.specs.PlainTraces.{plain_counts}
use Rattle.plain_collection.proofs.AllOwnees.{ownees-doubted}
use Rattle.plain_collection.proofs.plain_trace.PlainTrace.verdicts.Goals as goal

pub check_ownees-requires-clause-doubts : goal.check_ownees-requires-clause-doubts
check_ownees-requires-clause-doubts c =
    doubts-held c.args.table.now c.ownees_of.ensures.placed (λ cell. has_owner (owner_in c.args.roles.now cell)) c.in_ok-ownees.ownees.items c.in_ok-ownees.ensures.ownees

pub all_verdicts-requires-clause-counts : goal.all_verdicts-requires-clause-counts
all_verdicts-requires-clause-counts c =
    let (h, trace) = c.requires.trace in
    let stand = trace.counts.stand in
    let doubts = ownees-doubted c.args.table.now c.args.roles.now h stand c.in_ok-ownees.ownees.items c.in_ok-ownees.ensures.ownees in
    (h, trace.counts, c.in_ok-check.ensures.violating h stand doubts)

pub returns : goal.returns
returns c = record {
  verdicts =
      IfOk-weaker c.all_verdicts.result _ _
      (λ v are h trace.
      let p = c.args.table.now in
      let stand = trace.counts.stand in
      let doubts = ownees-doubted p c.args.roles.now h stand c.in_ok-ownees.ownees.items c.in_ok-ownees.ensures.ownees in
      are h trace.counts (c.in_ok-check.ensures.violating h stand doubts)
      ∙ ap (first_with_paths c.args.paths)
      (verdicts_agree p c.cells-cells.ensures.placed h (plain_counts c.args.self.now) trace.references (subst (λ tb. AllLive tb h.unshared) stand.table stand.refers.unshared)))
      c.all_verdicts.ensures.verdicts;
}
