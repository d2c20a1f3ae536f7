-- What follows a value that was passed over.
use Rattle.std.proofs.Common.{◌≡◌, ℕ, ◌-◌, ◌<◌, ◌≤◌, ◌∷◌, List, length, Option, Some, None, option_map, is_some, IsTrue, refl, ap, ◌∙◌}
use Rattle.json.specs.Token.{Token}
use Rattle.json.specs.Json as json
use Rattle.json.specs.Json.{Parse, parse_map, after_end_array, read_key, items, members, value}
use Rattle.json.proofs.Grammar.{left, left_some, value_is, value-begin_array, value-begin_object, items_end, items_more}
use Rattle.serde_json.specs.Data.{Data, Num, number, array, object, item, Members, no_members, put}
use Rattle.serde_json.specs.Read.{converted, number_of, of_items, of_json, of_members}
use Rattle.trace_reader.specs.Skips.{after_items, after_members, after_value}
use Rattle.trace_reader.proofs.ObjectLemmas.{converted_some, member_passed, members_passed}

pub value_passed : (depth : ℕ) (ts r : List Token) → after_value depth ts ≡ Some r → (d : Data) × (converted of_json (value depth ts) ≡ Some (d, r))
value_passed depth ts r e = left_some (converted of_json (value depth ts)) r e

rest_kept : {A B : Type 0} (f : A → B) (r : List Token) (x : Option A) → left (option_map (λ b. (b, r)) (option_map f x)) ≡ left (option_map (λ a. (a, r)) x)
rest_kept f r None = refl
rest_kept f r (Some a) = refl

-- ---- a number

after_number : (o : Option Num) (ts : List Token) → IsTrue (is_some o) → left (option_map (λ d. (d, ts)) (option_map number o)) ≡ Some ts
after_number None ts taken = absurd (cc)
after_number (Some n) ts taken = refl

pub number_passed : (depth : ℕ) (s : List ℕ) (ts : List Token) → IsTrue (is_some (number_of s)) → after_value depth (Token.number s ∷ ts) ≡ Some ts
number_passed depth s ts taken = ap (λ o. left (converted of_json o)) (value_is depth _) ∙ after_number (number_of s) ts taken

-- ---- an array

of_array : (o : Option (json.Items × List Token)) → left (converted of_json (parse_map json.array o)) ≡ left (converted of_items o)
of_array None = refl
of_array (Some p) = rest_kept array p.1 (of_items p.0)

pub array_opened : (depth : ℕ) (ts : List Token) → 0 < depth → after_value depth (Token.begin_array ∷ ts) ≡ after_items (depth - 1) ts
array_opened depth ts some = ap (λ o. left (converted of_json o)) (value-begin_array depth ts some) ∙ of_array (items (value (depth - 1)) (length ts) ts)

behind_item : (j : json.Json) (d : Data) → of_json j ≡ Some d → (o : Option (json.Items × List Token)) → left (converted of_items (parse_map (json.item j) o)) ≡ left (converted of_items o)
behind_item j d e None = refl
behind_item j d e (Some p) = rw e (rest_kept (item d) p.1 (of_items p.0))

-- ---- an object

of_object : (o : Option (json.Members × List Token)) → left (converted of_json (parse_map json.object o)) ≡ left (converted (λ all. of_members all no_members) o)
of_object None = refl
of_object (Some p) = rest_kept object p.1 (of_members p.0 no_members)

pub object_opened : (depth : ℕ) (ts : List Token) → 0 < depth → after_value depth (Token.begin_object ∷ ts) ≡ after_members (depth - 1) ts
object_opened depth ts some = ap (λ o. left (converted of_json o)) (value-begin_object depth ts some) ∙ of_object (members (value (depth - 1)) (length ts) ts)

-- ---- their loops, a turn at a time

module _ (p : Parse json.Json) where
  pub item_skipped : (n : ℕ) (ts r : List Token) → 0 < n → after_end_array ts ≡ None → left (converted of_json (p ts)) ≡ Some r
      → left (converted of_items (items p n ts)) ≡ left (converted of_items (items p (n - 1) r))
  item_skipped n ts r some going e =
      let d = left_some (converted of_json (p ts)) r e in
      let j = converted_some of_json (p ts) d.0 r d.1 in
      ap (λ o. left (converted of_items o)) (items_more p n ts r j.0 some going j.1) ∙ behind_item j.0 d.0 j.2 _

  pub items_skipped : (n : ℕ) (ts r : List Token) → length ts ≤ n → after_end_array ts ≡ Some r → left (converted of_items (items p n ts)) ≡ Some r
  items_skipped n ts r enough e = ap (λ o. left (converted of_items o)) (items_end p n ts r enough e)

  pub member_skipped : (found : Members) (n : ℕ) (k : List ℕ) (ts s r : List Token) → 0 < n → read_key ts ≡ Some (Some k, s) → left (converted of_json (p s)) ≡ Some r
      → (d : Data) × (left (converted (λ all. of_members all found) (members p n ts)) ≡ left (converted (λ all. of_members all (put k d found)) (members p (n - 1) r)))
  member_skipped found n k ts s r some key e =
      let d = left_some (converted of_json (p s)) r e in
      (d.0, ap left (member_passed p found n k ts s r d.0 some key d.1))

  pub members_skipped : (found : Members) (n : ℕ) (ts r : List Token) → length ts ≤ n → read_key ts ≡ Some (None, r) → left (converted (λ all. of_members all found) (members p n ts)) ≡ Some r
  members_skipped found n ts r enough e = ap left (members_passed p found n ts r enough e)
