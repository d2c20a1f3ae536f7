use Rattle.std.proofs.Common.{◌≡◌, ◌-◌, ◌<◌, length, take, get_or, sym, ap, ◌∙◌, subst, arith, vec_len}
use Rattle.region_log.specs.Regions.{AreStarts, regions_from}
use Rattle.region_log.proofs.Stacks.{last, outer, regions-close, regions-nested, AreStarts-close}
use Rattle.region_log.proofs.stack.cut_innermost.Goals as goal
use Rattle.region_log.proofs.stack.cut_innermost.Goals.{After-truncate}

module _ (c : After-truncate) where
  long : vec_len c.args.starts.now ≡ length c.args.starts.now.items
  long = omega (arith, c.args.starts.now.ok.0)

  some : 0 < length c.args.starts.now.items
  some = omega (arith, c.in-Some.ensures.cases, long)

  starts_are : c.pop.new.self.items ≡ outer c.args.ids.now.items c.args.starts.now.items c.requires some
  starts_are = c.in-Some.ensures.rest ∙ ap (λ n. take (n - 1) c.args.starts.now.items) long

  start_is : c.in-Some.start ≡ last c.args.ids.now.items c.args.starts.now.items c.requires some
  start_is =
      let at = c.in-Some.ensures.value 0 (omega (arith, c.in-Some.ensures.cases)) in
      let same : c.in-Some.start ≡ get_or c.args.starts.now.items (vec_len c.args.starts.now - 1) 0 = cc in
      same ∙ ap (λ n. get_or c.args.starts.now.items (n - 1) 0) long

  ids_are : c.truncate.new.self.items ≡ take (last c.args.ids.now.items c.args.starts.now.items c.requires some) c.args.ids.now.items
  ids_are = c.truncate.ensures.items ∙ ap (λ n. take n c.args.ids.now.items) start_is

pub returns-clause-regions : goal.returns-clause-regions
returns-clause-regions c =
    (λ i. regions_from (ids_are c i) (starts_are c i)) ∙ regions-close c.args.ids.now.items c.args.starts.now.items c.requires (some c)

pub returns-clause-nested : goal.returns-clause-nested
returns-clause-nested c = regions-nested c.args.ids.now.items c.args.starts.now.items c.requires (some c)

pub returns-clause-starts : goal.returns-clause-starts
returns-clause-starts c =
    subst (AreStarts c.truncate.new.self.items) (sym (starts_are c))
    (subst (λ ids. AreStarts ids (outer c.args.ids.now.items c.args.starts.now.items c.requires (some c))) (sym (ids_are c))
    (AreStarts-close c.args.ids.now.items c.args.starts.now.items c.requires (some c)))
