use Rattle.std.proofs.Common.{◌≡◌, ℕ, suc, ◌<◌, [], ◌∷◌, List, length, map, get_or, replicate, refl, sym, ap, ◌∙◌, arith}
use Rattle.std.specs.Global.{Vec}
use Rattle.steal_pool.specs.declared.task.Task.{Task}
use Rattle.steal_pool.specs.FirstLists.{FirstLists}
use Rattle.steal_pool.proofs.ListLemmas.{take_front}
use Rattle.steal_pool.proofs.first_tasks.FirstTasks.clear.Goals as goal

items_length : (xs : List (Vec Task)) → length (map (λ (v : Vec Task). v.items) xs) ≡ length xs
items_length [] = refl
items_length (x ∷ xs) = let e = items_length xs in omega arith

all_empty : (xs : List (Vec Task)) → ((k : ℕ) (d : Vec Task) → k < length xs → (let w : Vec Task = get_or xs k d in w.items) ≡ [])
    → map (λ (v : Vec Task). v.items) xs ≡ replicate (length xs) []
all_empty [] h = refl
all_empty (x ∷ xs) h = λ i. h 0 x (omega arith) i ∷ all_empty xs (λ k d l. h (suc k) d (omega arith)) i

pub returns-clause-lists : goal.returns-clause-lists
returns-clause-lists c =
    let v = c.self.inside.lists in
    let ws : List (Vec Task) = c.loop-list.list-items in
    let k = c.loop-list.invariant in
    let is : map (λ (u : Vec Task). u.items) v.items ≡ c.args.self.now.lists = ap (λ (f : FirstLists). f.lists) c.self.view_is in
    let same = take_front v.len ws _ (k.len ∙ (ap length (sym is) ∙ (items_length v.items ∙ sym v.ok.0))) in
    let a = c.loop-list.auto.list-items in
    let b = c.loop-list-test.false in
    ap (map (λ (u : Vec Task). u.items)) same
    ∙ (all_empty ws (λ j d l. k.cleared j d (omega arith)) ∙ ap (λ n. replicate n []) k.len)
