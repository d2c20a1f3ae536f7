-- What clap's answer tells of the words.
use Rattle.std.proofs.Common.{◌≡◌, ◌≢◌, inl, inr, Bool, true, false, not, List, ◌∷◌, [], refl, subst, length, arith}
use Rattle.std.specs.Prelude.{◌&&◌, Err, IsErrAnd, Result}
use Rattle.std.proofs.lemmas.Bool.Decides.{nat_tests}
use Rattle.clap.specs.Words.{HasKind, IsAmong, Kinds, Text, fault_of, is_simple_and_free, kind_of}
use Rattle.clap.specs.Walk.{is_empty}
use Rattle.clap.specs.declared.error.Error.{Error}
use Rattle.clap.specs.declared.error.kind.ErrorKind.{ErrorKind}
use Rattle.clap.specs.declared.error.kind.ErrorKind.TheVariants.{OutOfMemory}
use Rattle.clap.proofs.OnLiterals.{clap_on_literals}
use Rattle.settings.specs.declared.settings.SettingsError.TheVariants as settings_error
use Rattle.settings.specs.declared.settings.SettingsError.TheVariants.{Usage}
use Rattle.settings.specs.Command.{command, is_well_formed}

pub is_simple : is_simple_and_free command ≡ true
unfolding clap_on_literals
is_simple = refl

-- there is no word
pub none_refused : (words : List Text) → length words ≡ 0 → is_well_formed words ≡ false
unfolding is_well_formed
none_refused [] none = refl
none_refused (w ∷ ws) none = absurd (omega (arith, none))

not_empty : {X : Type 0} (x : X) (xs : List X) → is_empty (x ∷ xs) ≡ false
not_empty x xs = grind (arith, nat_tests)

some_fault : (k : ErrorKind) (kinds : Kinds) → IsAmong k kinds → is_empty kinds ≡ false
some_fault k [] among = absurd among
some_fault k (x ∷ xs) among = not_empty x xs

and_false : (b : Bool) → (b && false) ≡ false
and_false true = refl
and_false false = refl

-- clap refused the words, and not because memory ran out
pub fault_refused : (words : List Text) (e : Error) → kind_of e ≢ OutOfMemory → HasKind (fault_of command words) e → is_well_formed words ≡ false
unfolding is_well_formed
fault_refused words e other has = elim has [
  | inl memory ↦ absurd (other memory)
  | inr among ↦ rw (some_fault (kind_of e) (fault_of command words) among) (and_false (not (is_empty words)))
]

-- clap took the words
pub no_fault_taken : (words : List Text) → length words ≢ 0 → fault_of command words ≡ [] → is_well_formed words ≡ true
unfolding is_well_formed
no_fault_taken [] some none = absurd (some refl)
no_fault_taken (w ∷ ws) some none = rw (none, not_empty w ws) refl

-- what is said of the error is said of this one
pub err_gives : {T E : Type 0} (r : Result T E) (P : E → Type 0) (e : E) → r ≡ Err e → IsErrAnd r P → P e
err_gives r P e is given = subst (λ x. IsErrAnd x P) is given

pub not_both : Usage ≡ settings_error.OutOfMemory → ⊥
not_both e = cc
