use Rattle.std.proofs.Common.{◌≡◌, ◌<◌, List, ℕ, sym, ap, ◌∙◌, subst, arith}
use Rattle.graph_meaning.specs.Step.{with_member}
use Rattle.region_log.specs.Regions.{RegionTable}
use Rattle.tests_heap.proofs.Noted.{AreUpTo, upto-note}
use Rattle.tests_heap.proofs.regions.Run.note.Goals as goal

pub invariant_of-self-2 : goal.invariant_of-self-2
invariant_of-self-2 g c =
    let id = c.in_ok-id.id in
    let thread = c.in_ok-thread.thread in
    let above : c.args.self.now.last < id = omega (arith, c.in_ok-id.ensures) in
    let before : c.reserve.new.self.regions ≡ c.args.self.now.log.regions = ap (λ (r : RegionTable). r.regions) c.in_ok-reserve.ensures.done in
    let after = ap (λ (r : RegionTable). r.regions) c.note.ensures ∙ ap (λ (rs : List (List (List ℕ))). with_member rs thread id) before in
    record {
      below =
          subst (λ (n : ℕ). AreUpTo n c.note.new.self.regions) c.in_ok-id.ensures
          (subst (AreUpTo id) (sym after) (upto-note c.args.self.now.last c.args.self.now.log.regions thread id above c.args.self.now.below));
    }
