use Rattle.std.proofs.Common.{◌≡◌, ℕ, ◌+◌}
use Rattle.std.specs.List.{All}
use Rattle.heap_base.specs.Counting.{times, total}
use Rattle.header_rule.specs.declared.mark.Mark.{Mark}
use Rattle.header_rule.specs.Views.{times_marked}
use Rattle.header_rule.specs.Passes.{HasSeat, rights_of, all_adds, all_wins, all_marks}
use Rattle.header_rule.proofs.closing.joined.Given as goal

abbrev pub invariant-loop-pass : goal.invariant-loop-pass
invariant-loop-pass l = record {
  table : l.whole.table_id ≡ l.shared.table.shared.table_id;
  passes : All (HasSeat l.shared) l.passes.items;
  rights : l.whole.me.0.rights + total rights_of l.passes.items ≡ total rights_of l.fn.passes.items;
  adds : (x : ℕ) → times x l.whole.me.0.adds + all_adds x l.passes.items ≡ all_adds x l.fn.passes.items;
  wins : (x : ℕ) → times x l.whole.me.0.wins + all_wins x l.passes.items ≡ all_wins x l.fn.passes.items;
  marks : (m : Mark) (x : ℕ) → times_marked m x l.whole.me.0.marks + all_marks m x l.passes.items ≡ all_marks m x l.fn.passes.items;
}

abbrev pub decreases-loop-pass : goal.decreases-loop-pass
decreases-loop-pass l = goal.left-loop-pass l
