use Rattle.std.proofs.Common.{◌≡◌, ℕ, ◌<◌}
use Rattle.std.specs.Prelude.{nat_le}
use Rattle.header_rule.specs.ClosedWords.{count_in, has_mark_in}
use Rattle.header_rule.specs.declared.mark.Mark.TheVariants.{Found, MetByRoots}
use Rattle.tests_audit.proofs.tests.agreements.agree_on_words.Given as goal

abbrev pub invariant-loop-cell : goal.invariant-loop-cell
invariant-loop-cell l = record {
  many : (cell : ℕ) → cell < l.cell → nat_le 2 (count_in l.made cell) ≡ nat_le 2 (count_in l.real cell);
  found : (cell : ℕ) → cell < l.cell → has_mark_in Found l.made cell ≡ has_mark_in Found l.real cell;
  met : (cell : ℕ) → cell < l.cell → has_mark_in MetByRoots l.made cell ≡ has_mark_in MetByRoots l.real cell;
}
