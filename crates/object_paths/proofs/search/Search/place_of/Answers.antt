use Rattle.std.proofs.Common.{◌≡◌, ℕ, Option, None, Some, refl, ap, ◌∙◌, Bor, get_or, arith}
use Rattle.std.specs.Prelude.{unwrap_or}
use Rattle.std.specs.Option.{option_map, option_flatten, option_copied}
use Rattle.object_paths.proofs.search.Search.place_of.Goals as goal

flatten_copied : (o : Option (Bor (Option ℕ))) → option_flatten (option_copied o) ≡ unwrap_or (option_map (λ (x : Bor (Option ℕ)). x.now) o) None
flatten_copied None = refl
flatten_copied (Some x) = refl

pub returns : goal.returns
returns c =
    c.flatten.ensures ∙ ap option_flatten c.copied.ensures ∙ flatten_copied c.get.result ∙ c.get.ensures.lookup.4 (omega arith) None ∙ ap (λ xs. get_or xs c.args.cell None) c.deref.ensures.value
