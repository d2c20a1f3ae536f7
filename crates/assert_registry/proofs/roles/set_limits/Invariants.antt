use Rattle.std.proofs.Common.{◌≡◌, ◌<◌, ◌≤◌, ℕ, None, get_or}
use Rattle.graph_meaning.specs.Roles.{kinds_of}
use Rattle.assert_registry.proofs.roles.set_limits.Given as goal

abbrev pub invariant-loop-kind : goal.invariant-loop-kind
invariant-loop-kind l = record {
  kinds : kinds_of l.roles ≡ l.kinds;
  set : (k : ℕ) → k < l.kind → get_or l.roles.limits k None ≡ get_or l.limits k None;
  none : (k : ℕ) → l.kind ≤ k → get_or l.roles.limits k None ≡ None;
  rest : l.roles ≡ record l.fn.roles { limits = l.roles.limits };
}
