use Rattle.std.proofs.Common.{refl, rules}
use Rattle.graph_meaning.proofs.roles.Roles.make.Goals as goal

pub returns : goal.returns
returns c =
    let limits = c.in_ok-limits.ensures.items_if_clones_equal (λ y cloned. search rules) in
    rw (c.in_ok-dead.ensures, c.in_ok-unshared.ensures, c.in_ok-ownees.ensures, limits, c.in_ok-owners.ensures.items) refl
