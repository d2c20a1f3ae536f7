-- Members that are read one after another, beside the object that they make.
use Rattle.std.proofs.Common.{◌≡◌, ℕ, ◌-◌, ◌<◌, ◌≤◌, List, [], ◌∷◌, length, Option, Some, None, option_map, option_and_then, refl, ap, ◌∙◌, arith}
use Rattle.json.specs.Token.{Token}
use Rattle.json.specs.Lex.{tokens}
use Rattle.json.specs.Json as json
use Rattle.json.specs.Json.{Parse, parse_map, read_key, members, value, if_last}
use Rattle.json.proofs.Grammar.{members_end, members_more, value-begin_object}
use Rattle.serde_json.specs.Data.{Data, object, Members, no_members, put}
use Rattle.serde_json.specs.Read.{of_json, of_members, converted, read}

-- ---- the members that are still to come, behind those that were found

abbrev behind : Members → Option (json.Members × List Token) → Option (Members × List Token)
behind found = converted (λ all. of_members all found)

behind-member : (k : List ℕ) (j : json.Json) (d : Data) (found : Members) → of_json j ≡ Some d → (o : Option (json.Members × List Token)) →
    behind found (parse_map (json.member k j) o) ≡ behind (put k d found) o
behind-member k j d found e None = refl
behind-member k j d found e (Some p) = rw e

abbrev pick : {A : Type 0} → A → Option A → A
pick d None = d
pick d (Some a) = a

both : {A : Type 0} (x : Option A) (r s : List Token) (a : A) → option_map {U = A × List Token} (λ y. (y, r)) x ≡ Some (a, s) → (x ≡ Some a) × (r ≡ s)
both None r s a e = absurd (cc)
both (Some y) r s a e = let same = ap (pick (y, r)) e in (ap (λ p. Some p.0) same, ap (λ p. p.1) same)

pub converted_some : {A B : Type 0} (f : A → Option B) (o : Option (A × List Token)) (b : B) (r : List Token) → converted f o ≡ Some (b, r) → (a : A) × (o ≡ Some (a, r)) × (f a ≡ Some b)
converted_some f None b r e = absurd (cc)
converted_some f (Some p) b r e = let is = both (f p.0) p.1 r b e in (p.0, ap (λ s. Some (p.0, s)) is.1, is.0)

module _ (p : Parse json.Json) (found : Members) where
  pub member_passed : (n : ℕ) (k : List ℕ) (ts s r : List Token) (d : Data) → 0 < n → read_key ts ≡ Some (Some k, s) → converted of_json (p s) ≡ Some (d, r)
      → behind found (members p n ts) ≡ behind (put k d found) (members p (n - 1) r)
  member_passed n k ts s r d some key e =
      let j = converted_some of_json (p s) d r e in
      ap (behind found) (members_more p n k ts s r j.0 some key j.1) ∙ behind-member k j.0 d found j.2 _

  pub members_passed : (n : ℕ) (ts r : List Token) → length ts ≤ n → read_key ts ≡ Some (None, r) → behind found (members p n ts) ≡ Some (found, r)
  members_passed n ts r enough e = ap (behind found) (members_end p n ts r enough e)

-- ---- the whole text

whole_object : (o : Option (json.Members × List Token)) (found : Members) → behind no_members o ≡ Some (found, [])
    → option_and_then of_json (option_and_then (λ p. if_last p.0 p.1) (parse_map json.object o)) ≡ Some (object found)
whole_object None found e = absurd (cc)
whole_object (Some p) found e = let is = both (of_members p.0 no_members) p.1 [] found e in rw (is.1) (rw (is.0))

pub object_read : (text : List ℕ) (rest : List Token) (found : Members) → tokens text ≡ Token.begin_object ∷ rest → behind no_members (members (value 126) (length rest) rest) ≡ Some (found, [])
    → read text ≡ Some (object found)
object_read text rest found begun is =
    ap (λ ts. option_and_then of_json (option_and_then (λ p. if_last p.0 p.1) (value 127 ts))) begun
    ∙ ap (λ o. option_and_then of_json (option_and_then (λ p. if_last p.0 p.1) o)) (value-begin_object 127 rest (omega arith))
    ∙ whole_object (members (value 126) (length rest) rest) found is
