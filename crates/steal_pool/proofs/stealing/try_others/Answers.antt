use Rattle.std.proofs.Common.{List, ◌++◌, subst, sym}
use Rattle.steal_pool.specs.declared.victim.Victim.{Victim}
use Rattle.steal_pool.specs.Victims.{AreUntouched, StealsFromOne}
use Rattle.steal_pool.proofs.VictimLists.{all_untouched, untouched_append, gave_front, gave_back, either_way}
use Rattle.steal_pool.proofs.stealing.try_others.Goals as goal

pub returns-in-Some : goal.returns-in-Some
returns-in-Some c =
    let p = c.split_at_mut-before.result.0.now in
    subst (λ (xs : List Victim). StealsFromOne xs c.in-Some.task (p ++ c.try_each.new.others)) (sym c.split_at_mut-before.ensures.value)
    (gave_back p p c.split_at_mut-before.result.1.now c.try_each.new.others c.in-Some.task (all_untouched p) c.in-Some.ensures)

pub returns-in-None : goal.returns-in-None
returns-in-None c =
    let p = c.split_at_mut-before.result.0.now in
    let q = c.split_at_mut-before.result.1.now in
    let p' : List Victim = c.try_each-in-None.new.others in
    let q' : List Victim = c.try_each.new.others in
    either_way (AreUntouched p p') (AreUntouched c.args.others.now (p' ++ q')) (λ t. StealsFromOne p t p')
    (λ t. StealsFromOne c.args.others.now t (p' ++ q')) c.try_each-in-None.result
    (λ a. subst (λ (xs : List Victim). AreUntouched xs (p' ++ q')) (sym c.split_at_mut-before.ensures.value) (untouched_append p p' q q' a c.in-None.ensures))
    (λ t a. subst (λ (xs : List Victim). StealsFromOne xs t (p' ++ q')) (sym c.split_at_mut-before.ensures.value) (gave_front p p' q q' t a c.in-None.ensures))
    c.try_each-in-None.ensures
