use Rattle.std.proofs.Common.{get_or, ◌≡◌, ℕ, zero, suc, false, List, [], replicate, refl, sym, ◌∙◌, ap}
use Rattle.lists.specs.Lists.{entries_of, has_node}
use Rattle.task_lists.specs.Tasks.{tasks_in}
use Rattle.groups.proofs.Standing.{nobody_listed}
use Rattle.groups.proofs.groups.Groups.new.Goals as goal

none : (m n : ℕ) → entries_of (replicate m []) n ≡ []
none zero n = refl
none (suc m) zero = refl
none (suc m) (suc n) = none m n

none_set : (m n : ℕ) → ◌≡◌ {A = ℕ} (get_or (replicate m 0) n 0) 0
none_set zero n = refl
none_set (suc m) zero = refl
none_set (suc m) (suc n) = none_set m n

pub returns-clause-stands : goal.returns-clause-stands
returns-clause-stands c = λ s table clear nobody.
    let empty : (group : ℕ) → entries_of c.new.result group ≡ [] = λ group.
    ap (λ (ls : List (List (ℕ × ℕ))). entries_of ls group) c.new.ensures.empty ∙ none 17 group in
    record {
      bits = λ group. none_set 16 group ∙ sym (clear group);
      tasks = λ group. ap tasks_in (empty group) ∙ sym (nobody_listed s nobody group);
      conditions = λ group task away has.
          absurd
          (let no : has_node task (entries_of c.new.result group) ≡ false = ap (has_node task) (empty group) in cc (no, has));
      apart = λ task. let none = nobody task in rw none tt;
      table = table;
    }
