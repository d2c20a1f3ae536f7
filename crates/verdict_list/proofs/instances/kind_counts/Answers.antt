use Rattle.std.proofs.Common.{◌+◌, get_or, ap, sym, refl, subst, ◌∙◌, arith}
use Rattle.std.specs.Option.{IsSome, IfSome}
use Rattle.object_table.specs.Placed.{id_in}
use Rattle.std.proofs.lemmas.List.{length-append}
use Rattle.std.proofs.lemmas.Option.{slice_get-get_or}
use Rattle.std.proofs.lemmas.List.Elements.{All-nil, All-push}
use Rattle.verdict_list.specs.Kinds.{IsCountedBy, IsSeenIn}
use Rattle.verdict_list.proofs.Counting.{kinds_more, kinds_all}
use Rattle.verdict_list.proofs.instances.kind_counts.Goals as goal

pub loop-kind-init : goal.loop-kind-init
loop-kind-init g c = rw c.new-counts.ensures.items (record {
  kinds = refl;
  many = refl;
  seen = All-nil (IsSeenIn c.args.counted.now.table.now);
  each = All-nil (IsCountedBy c.args.counted.now.roles.now (g.T.HeapCounts.counts c.args.counted.now.counts.now) c.args.places.now);
})

pub loop-kind-preserved : goal.loop-kind-preserved
loop-kind-preserved g c = rw c.in_ok-push.ensures.items (record {
  kinds = kinds_more c.loop-kind.counts.items c.args.kinds.now c.loop-kind.kind-index _ (slice_get-get_or c.args.kinds.now c.loop-kind.kind-index 0 c.loop-kind-test.true) c.loop-kind.invariant.kinds;
  many = length-append c.loop-kind.counts.items _ ∙ ap (λ n. n + 1) c.loop-kind.invariant.many;
  seen =
      All-push (IsSeenIn c.args.counted.now.table.now) c.loop-kind.counts.items _ c.loop-kind.invariant.seen
      (record {
        seen = (c.requires.over c.loop-kind.kind-index 0 c.loop-kind-test.true).seen;
        first = subst (λ o. IfSome o (λ cell. IsSome (id_in c.args.counted.now.table.now cell))) (sym c.at_kind.ensures) (c.requires.held (get_or c.args.kinds.now c.loop-kind.kind-index 0));
      });
  each =
      All-push (IsCountedBy c.args.counted.now.roles.now (g.T.HeapCounts.counts c.args.counted.now.counts.now) c.args.places.now) c.loop-kind.counts.items _
      c.loop-kind.invariant.each (record { limit = c.limit_of.ensures; found = c.found.ensures; first = c.at_kind.ensures });
})

pub returns-clause-kinds : goal.returns-clause-kinds
returns-clause-kinds g c = kinds_all c.loop-kind.counts.items c.args.kinds.now c.loop-kind.kind-index c.loop-kind-test.false c.loop-kind.invariant.kinds

pub returns-clause-each : goal.returns-clause-each
returns-clause-each g c = c.loop-kind.invariant.each

pub returns-clause-many : goal.returns-clause-many
returns-clause-many g c = omega (arith, c.loop-kind.invariant.many, c.loop-kind-test.false, c.loop-kind.auto.kind-index-end)

pub returns-clause-seen : goal.returns-clause-seen
returns-clause-seen g c = c.loop-kind.invariant.seen
