use Rattle.std.proofs.Common.{◌≡◌, ℕ, zero, suc, ◌<◌, [], ◌∷◌, ◌++◌, List, length, map, get_or, slice_index_or, slice_set, refl, sym, ap, ◌∙◌, subst, arith}
use Rattle.std.specs.Global.{Vec}
use Rattle.std.proofs.lemmas.List.{map-set}
use Rattle.steal_pool.specs.declared.task.Task.{Task}
use Rattle.steal_pool.specs.FirstLists.{FirstLists}
use Rattle.steal_pool.proofs.first_tasks.FirstTasks.add.Goals as goal

list_at : (xs : List (Vec Task)) (i : ℕ) (d : Vec Task) → i < length (map (λ (v : Vec Task). v.items) xs)
    → get_or (map (λ (v : Vec Task). v.items) xs) i [] ≡ (let w : Vec Task = get_or xs i d in w.items)
list_at [] i d l = absurd (omega arith)
list_at (x ∷ xs) zero d l = refl
list_at (x ∷ xs) (suc i) d l = list_at xs i d (omega arith)

pub returns-clause-lists : goal.returns-clause-lists
returns-clause-lists c =
    let xs = c.self.inside.lists.items in
    let i = c.args.worker in
    let is : map (λ (v : Vec Task). v.items) xs ≡ c.args.self.now.lists = ap (λ (f : FirstLists). f.lists) c.self.view_is in
    let here = subst (λ (fs : List (List Task)). i < length fs) (sym is) c.requires.worker in
    let at =
    ap (λ (fs : List (List Task)). slice_index_or fs i []) (sym is)
    ∙ (list_at xs i c.index_mut.result.now here ∙ ap (λ (v : Vec Task). v.items) (sym c.index_mut.ensures.value)) in
    map-set (λ (v : Vec Task). v.items) xs i c.push_reserved.new.self
    ∙ (ap (λ (fs : List (List Task)). slice_set fs i c.push_reserved.new.self.items) is
    ∙ ap (slice_set c.args.self.now.lists i) (c.push_reserved.ensures.items ∙ ap (λ (ys : List Task). ys ++ c.args.task ∷ []) (sym at)))
