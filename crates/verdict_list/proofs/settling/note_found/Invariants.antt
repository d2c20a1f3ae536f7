use Rattle.std.proofs.Common.{◌≡◌, ◌&&◌, ℕ, Bool, map, take, length}
use Rattle.graph_meaning.specs.Reach.{has_id}
use Rattle.verdict_list.specs.Settling.{Flags}
use Rattle.verdict_list.proofs.settling.note_found.Given as goal

-- of the ownees so far
abbrev pub invariant-loop-place : goal.invariant-loop-place
invariant-loop-place l = record {
  each : length l.found ≡ length l.fn.found;
  found : (test : ℕ → Bool) → l.answers ≡ map test l.ownees → Flags (λ x. has_id (take l.place l.ownees) x && test x) l.fn.found l.found;
}
