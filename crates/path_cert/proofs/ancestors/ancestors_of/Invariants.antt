use Rattle.std.proofs.Common.{◌≡◌, length}
use Rattle.path_cert.specs.Ancestors.{AreAncestors}
use Rattle.path_cert.proofs.ancestors.ancestors_of.Given as goal

abbrev pub invariant-loop-cell : goal.invariant-loop-cell
invariant-loop-cell l = record {
  each : length l.ancestors.items ≡ length l.arrivals;
  ancestors : AreAncestors l.arrivals l.ancestors.items;
}
