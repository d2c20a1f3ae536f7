use Rattle.std.proofs.Common.{subst}
use Rattle.header_rule.specs.OwnStates.{OwnState}
use Rattle.header_rule.specs.WholeWords.{TellsWords}
use Rattle.header_rule.proofs.OwnWords.{own_tell}
use Rattle.header_rule.proofs.own_words.OwnWords.into_words.Goals as goal

pub returns-clause-tell : goal.returns-clause-tell
returns-clause-tell c = subst (λ (o : OwnState). TellsWords c.self.inside.words.items o.view) c.self.view_is (own_tell _ c.self.invariant)
