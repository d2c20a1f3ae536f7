use Rattle.std.proofs.Common.{◌≡◌, Result, Ok, Err, Bool, true, false, MatchResult, ℕ, sym, ◌∙◌}
use Rattle.std.specs.Result.{is_ok}
use Rattle.heap_snapshot.proofs.Danglings.{has_id-searched}
use Rattle.heap_snapshot.proofs.dangling.has_id.Goals as goal

told : (r : Result ℕ ℕ) (b : Bool) → MatchResult r (λ i. b ≡ true) (λ i. b ≡ false) → is_ok r ≡ b
told (Ok i) b is = sym is
told (Err i) b is = sym is

pub returns : goal.returns
returns c =
    c.is_ok.ensures.value ∙ told c.binary_search.result _ (has_id-searched c.args.ids.now c.args.id c.binary_search.result c.binary_search.ensures.position c.requires)
