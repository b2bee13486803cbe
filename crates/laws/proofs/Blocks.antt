-- Where branches and loops go on, and what they leave as it was.
use Rattle.std.proofs.Common.{◌≡◌, ◌<◌, ◌+◌, ◌-◌, ◌++◌, ◌&&◌, ◌⊎◌, inl, inr, ℕ, suc, Bool, true, false, eqb, leb, length, List, []}
use Rattle.std.proofs.Common.{◌∷◌, drop, Option, Some, None, refl, ap, sym, subst, ◌∙◌, arith, get_or-set_same}
use Rattle.std.specs.Prelude.{if◌then◌else◌}
use Rattle.std.specs.List.{slice_get}
use Rattle.std.proofs.lemmas.List.{drop-map, length-map, map-append}
use Rattle.std.specs.Option.{option_or}
use Rattle.model.specs.declared.answer.AnswerCondition.{AnswerCondition}
use Rattle.model.specs.declared.block.Block.{Block}
use Rattle.model.specs.declared.block.Block.TheVariants as block
use Rattle.model.specs.declared.block.Edge.{Edge}
use Rattle.model.specs.declared.block.Edge.TheVariants.{OpensLoop, EndsLoop, OpensIf, OpensElse, EndsIf, Breaks, Inside}
use Rattle.model.specs.declared.event.Misuse.TheVariants.{WhileSuspended, WhileCritical}
use Rattle.model.specs.declared.loops.Loop.{Loop}
use Rattle.model.specs.declared.op.Op.{Op}
use Rattle.model.specs.declared.op.Op.TheVariants.{Repeat, End, If, Else, EndIf, Break}
use Rattle.model.specs.Answers.{holds}
use Rattle.model.specs.Application.{Application, op_count, script_of}
use Rattle.model.specs.Blocks.{edge_of, edges_of, jump_from, jumped_over, loops_in, past_branch, past_loop}
use Rattle.model.specs.Ops.{branch, close_turn, go_to, leave_loop, moved_to, next_turn, open_loop, skip_branch, turn}
use Rattle.model.specs.State.{State, Task, Progress, no_call, no_task, progress_at, task_at}
use Rattle.model.specs.Step.{act, misuse}
use Rattle.model.specs.Switching.{is_scheduler_suspended, is_critical}
use Rattle.model.proofs.Lists.{eqb-same}
use Rattle.model.proofs.Sorting.{by_test}
use Rattle.soundness.proofs.InScripts.{edges_at}
use Rattle.soundness.proofs.Jumping.{branches_in}
use Rattle.laws.specs.Branches.{AllStay, AreWhole, Encloses, IsQuiet, ends_branch, for_ever, is_of_blocks}

-- ---- where the task is behind its op

pub at-go_to : (app : Application) (i n : ℕ) (p : Progress) (s : State) → i < length s.tasks
    → progress_at (go_to app i n p s) i ≡ record p { op_index = n; used = 0; call = no_call }
unfolding go_to
at-go_to app i n p s l =
    ap (λ (t : Task). t.progress) (get_or-set_same s.tasks i (moved_to (op_count app i) n p (task_at s i)) no_task l)

next-go_to : (app : Application) (i n : ℕ) (p : Progress) (s : State)
    → i < length s.tasks → (progress_at (go_to app i n p s) i).op_index ≡ n
next-go_to app i n p s l = ap (λ (q : Progress). q.op_index) (at-go_to app i n p s l)

loops-go_to : (app : Application) (i n : ℕ) (p : Progress) (s : State)
    → i < length s.tasks → (progress_at (go_to app i n p s) i).loops ≡ p.loops
loops-go_to app i n p s l = ap (λ (q : Progress). q.loops) (at-go_to app i n p s l)

-- ---- over how many ops a jump goes

not_zero : {X : Type 0} (n : ℕ) (x y : X) → (if eqb (suc n) 0 then x else y) ≡ y
not_zero n x y = by_test (eqb (suc n) 0)
    (λ t. let same : suc n ≡ 0 = eqb-same (suc n) 0 t in absurd (omega arith))
    (λ f. rw f refl)

-- One op more is passed.
one_more : (passed n : ℕ) → passed ≡ n + 1 → passed + 1 ≡ suc n + 1
one_more passed n h = omega arith

inner_else : (n passed m : ℕ) → passed ≡ m + 1 → (if eqb (suc n) 0 then 1 else passed + 1) ≡ suc m + 1
inner_else n passed m h = rw (not_zero n 1 (passed + 1)) (one_more passed m h)

inner_end : (past : ℕ → ℕ) (n m : ℕ) → past n ≡ m + 1 → (if eqb (suc n) 0 then 1 else past (suc n - 1) + 1) ≡ suc m + 1
inner_end past n m h =
    let less : suc n - 1 ≡ n = omega arith in
    rw (not_zero n 1 (past (suc n - 1) + 1), less) (one_more (past n) m h)

pub past_whole_branch : (blocks : List Block) (es : List Edge) (last : Edge) (behind : List Edge)
    → AreWhole blocks es → ends_branch last ≡ true
    → past_branch (branches_in blocks) (es ++ last ∷ behind) ≡ length es + 1
past_whole_branch [] [] OpensElse behind w e = refl
past_whole_branch [] [] EndsIf behind w e = refl
past_whole_branch [] [] OpensLoop behind w e = absurd (cc)
past_whole_branch [] [] EndsLoop behind w e = absurd (cc)
past_whole_branch [] [] OpensIf behind w e = absurd (cc)
past_whole_branch [] [] Breaks behind w e = absurd (cc)
past_whole_branch [] [] Inside behind w e = absurd (cc)
past_whole_branch (b ∷ bs) [] last behind w e = absurd (cc)
past_whole_branch bs (OpensLoop ∷ es) last behind w e =
    one_more _ (length es) (past_whole_branch (block.Loop ∷ bs) es last behind w.1 e)
past_whole_branch [] (EndsLoop ∷ es) last behind w e = absurd (cc)
past_whole_branch (block.Loop ∷ bs) (EndsLoop ∷ es) last behind w e =
    one_more _ (length es) (past_whole_branch bs es last behind w.1 e)
past_whole_branch (block.If ∷ bs) (EndsLoop ∷ es) last behind w e = absurd (cc)
past_whole_branch (block.Else ∷ bs) (EndsLoop ∷ es) last behind w e = absurd (cc)
past_whole_branch bs (OpensIf ∷ es) last behind w e =
    let same : suc (branches_in bs) ≡ branches_in bs + 1 = omega arith in
    one_more _ (length es) (subst (λ k. past_branch k (es ++ last ∷ behind) ≡ length es + 1)
    same (past_whole_branch (block.If ∷ bs) es last behind w.1 e))
past_whole_branch [] (OpensElse ∷ es) last behind w e = absurd (cc)
past_whole_branch (block.Loop ∷ bs) (OpensElse ∷ es) last behind w e = absurd (cc)
past_whole_branch (block.If ∷ bs) (OpensElse ∷ es) last behind w e =
    inner_else (branches_in bs) _ (length es) (past_whole_branch (block.Else ∷ bs) es last behind w.1 e)
past_whole_branch (block.Else ∷ bs) (OpensElse ∷ es) last behind w e = absurd (cc)
past_whole_branch [] (EndsIf ∷ es) last behind w e = absurd (cc)
past_whole_branch (block.Loop ∷ bs) (EndsIf ∷ es) last behind w e = absurd (cc)
past_whole_branch (block.If ∷ bs) (EndsIf ∷ es) last behind w e =
    inner_end (λ k. past_branch k (es ++ last ∷ behind)) (branches_in bs) (length es) (past_whole_branch bs es last behind w.1 e)
past_whole_branch (block.Else ∷ bs) (EndsIf ∷ es) last behind w e =
    inner_end (λ k. past_branch k (es ++ last ∷ behind)) (branches_in bs) (length es) (past_whole_branch bs es last behind w.1 e)
past_whole_branch bs (Breaks ∷ es) last behind w e = one_more _ (length es) (past_whole_branch bs es last behind w.1 e)
past_whole_branch bs (Inside ∷ es) last behind w e = one_more _ (length es) (past_whole_branch bs es last behind w.1 e)

past_whole_loop : (blocks : List Block) (es behind : List Edge) → AreWhole blocks es
    → past_loop (loops_in blocks) (es ++ EndsLoop ∷ behind) ≡ length es + 1
past_whole_loop [] [] behind w = refl
past_whole_loop (b ∷ bs) [] behind w = absurd (cc)
past_whole_loop bs (OpensLoop ∷ es) behind w =
    let same : suc (loops_in bs) ≡ loops_in bs + 1 = omega arith in
    one_more _ (length es)
    (subst (λ k. past_loop k (es ++ EndsLoop ∷ behind) ≡ length es + 1) same (past_whole_loop (block.Loop ∷ bs) es behind w.1))
past_whole_loop [] (EndsLoop ∷ es) behind w = absurd (cc)
past_whole_loop (block.Loop ∷ bs) (EndsLoop ∷ es) behind w =
    inner_end (λ k. past_loop k (es ++ EndsLoop ∷ behind)) (loops_in bs) (length es) (past_whole_loop bs es behind w.1)
past_whole_loop (block.If ∷ bs) (EndsLoop ∷ es) behind w = absurd (cc)
past_whole_loop (block.Else ∷ bs) (EndsLoop ∷ es) behind w = absurd (cc)
past_whole_loop bs (OpensIf ∷ es) behind w = one_more _ (length es) (past_whole_loop (block.If ∷ bs) es behind w.1)
past_whole_loop [] (OpensElse ∷ es) behind w = absurd (cc)
past_whole_loop (block.Loop ∷ bs) (OpensElse ∷ es) behind w = absurd (cc)
past_whole_loop (block.If ∷ bs) (OpensElse ∷ es) behind w = one_more _ (length es) (past_whole_loop (block.Else ∷ bs) es behind w.1)
past_whole_loop (block.Else ∷ bs) (OpensElse ∷ es) behind w = absurd (cc)
past_whole_loop [] (EndsIf ∷ es) behind w = absurd (cc)
past_whole_loop (block.Loop ∷ bs) (EndsIf ∷ es) behind w = absurd (cc)
past_whole_loop (block.If ∷ bs) (EndsIf ∷ es) behind w = one_more _ (length es) (past_whole_loop bs es behind w.1)
past_whole_loop (block.Else ∷ bs) (EndsIf ∷ es) behind w = one_more _ (length es) (past_whole_loop bs es behind w.1)
past_whole_loop bs (Breaks ∷ es) behind w = one_more _ (length es) (past_whole_loop bs es behind w.1)
past_whole_loop bs (Inside ∷ es) behind w = one_more _ (length es) (past_whole_loop bs es behind w.1)

-- Behind an op of a script that jumps come ops that it jumps over.
module _ (script : List Op) (n : ℕ) (op : Op) (is : slice_get script n ≡ Some op)
    (blocks : List Block) (ops : List Op) (last : Op) (h : Encloses script n blocks ops last) where
  abbrev enclosed : List Edge
  enclosed = edges_of ops ++ edge_of last ∷ edges_of h.behind

  from_op : drop n (edges_of script) ≡ edge_of op ∷ enclosed
  from_op =
      let next : suc n ≡ n + 1 = omega arith in
      let rest : drop (n + 1) (edges_of script) ≡ enclosed =
      drop-map edge_of (n + 1) script ∙ ap edges_of h.parts ∙ map-append edge_of ops (last ∷ h.behind) in
      edges_at n script op is ∙ ap (λ es. edge_of op ∷ es) (ap (λ k. drop k (edges_of script)) next ∙ rest)

  jumps_over : (edge : Edge) → edge_of op ≡ edge → jumped_over (edge ∷ enclosed) ≡ length (edges_of ops) + 1
      → jump_from script n ≡ n + 1 + (length ops + 1)
  jumps_over edge e k =
      let many : length (edges_of ops) ≡ length ops = length-map ops edge_of in
      ap (λ es. n + 1 + jumped_over es) from_op
      ∙ ap (λ x. n + 1 + jumped_over (x ∷ enclosed)) e
      ∙ ap (λ passed. n + 1 + passed) (k ∙ ap (λ count. count + 1) many)

over_branch : (script : List Op) (n : ℕ) (op : Op) (ops : List Op) (last : Op)
    → slice_get script n ≡ Some op → Encloses script n [] ops last
    → ends_branch (edge_of last) ≡ true → (edge_of op ≡ OpensIf) ⊎ (edge_of op ≡ OpensElse)
    → jump_from script n ≡ n + 1 + (length ops + 1)
over_branch script n op ops last is h ends opens =
    let past = past_whole_branch [] (edges_of ops) (edge_of last) (edges_of h.behind) h.whole ends in
    elim opens [
      | inl e ↦ jumps_over script n op is [] ops last h OpensIf e past
      | inr e ↦ jumps_over script n op is [] ops last h OpensElse e past
    ]

over_loop : (script : List Op) (n : ℕ) (blocks : List Block) (ops : List Op)
    → slice_get script n ≡ Some Break → Encloses script n blocks ops End
    → loops_in blocks ≡ 0 → jump_from script n ≡ n + 1 + (length ops + 1)
over_loop script n blocks ops is h none =
    let past : past_loop (loops_in blocks) (edges_of ops ++ EndsLoop ∷ edges_of h.behind) ≡ length (edges_of ops) + 1 =
    past_whole_loop blocks (edges_of ops) (edges_of h.behind) h.whole in
    jumps_over script n Break is blocks ops End h Breaks refl
    (subst (λ k. past_loop k (edges_of ops ++ EndsLoop ∷ edges_of h.behind) ≡ length (edges_of ops) + 1) none past)

-- ---- branches

module _ (app : Application) (i : ℕ) (s : State) (l : i < length s.tasks) where
  pub takes : (c : AnswerCondition) → holds s.variables c (progress_at s i).answer ≡ true
      → (progress_at (branch app i c s) i).op_index ≡ (progress_at s i).op_index + 1
  unfolding branch
  takes c t = rw t (next-go_to app i ((progress_at s i).op_index + 1) (progress_at s i) s l)

  pub skips : (c : AnswerCondition) (ops : List Op) (last : Op)
      → slice_get (script_of app i) (progress_at s i).op_index ≡ Some (If c)
      → Encloses (script_of app i) (progress_at s i).op_index [] ops last → ends_branch (edge_of last) ≡ true
      → holds s.variables c (progress_at s i).answer ≡ false
      → (progress_at (branch app i c s) i).op_index ≡ (progress_at s i).op_index + 1 + (length ops + 1)
  unfolding branch
  skips c ops last is h ends t =
      let n : ℕ = (progress_at s i).op_index in
      let next = next-go_to app i (jump_from (script_of app i) n) (progress_at s i) s l in
      rw t (next ∙ over_branch (script_of app i) n (If c) ops last is h ends (inl refl))

  pub skips_other : (ops : List Op) → slice_get (script_of app i) (progress_at s i).op_index ≡ Some Else
      → Encloses (script_of app i) (progress_at s i).op_index [] ops EndIf
      → (progress_at (skip_branch app i s) i).op_index ≡ (progress_at s i).op_index + 1 + (length ops + 1)
  unfolding skip_branch
  skips_other ops is h =
      let n : ℕ = (progress_at s i).op_index in
      next-go_to app i (jump_from (script_of app i) n) (progress_at s i) s l
      ∙ over_branch (script_of app i) n Else ops EndIf is h refl (inr refl)

  -- ---- loops

  goes_back : (loop : Loop) (outer : List Loop) → (progress_at s i).loops ≡ loop ∷ outer
      → loop.left ≡ None → close_turn app i s ≡ go_to app i loop.start (progress_at s i) s
  unfolding close_turn
  goes_back loop outer is e =
      let p : Progress = progress_at s i in
      ap (λ ls. turn app i p ls s) is ∙ ap (λ left. next_turn app i p loop outer left s) e

  pub begins_again : (loop : Loop) (outer : List Loop) → (progress_at s i).loops ≡ loop ∷ outer → loop.left ≡ None
      → ((progress_at (close_turn app i s) i).op_index ≡ loop.start) × ((progress_at (close_turn app i s) i).loops ≡ loop ∷ outer)
  begins_again loop outer is e =
      let back = goes_back loop outer is e in
      let p : Progress = progress_at s i in (
        ap (λ (t : State). (progress_at t i).op_index) back ∙ next-go_to app i loop.start p s l,
        ap (λ (t : State). (progress_at t i).loops) back ∙ loops-go_to app i loop.start p s l ∙ is,
      )

  -- the task goes on with these loops open
  stay-go_to : (n : ℕ) (p : Progress) (loops : List Loop) → p.loops ≡ loops → AllStay (progress_at s i).loops loops
      → AllStay (progress_at s i).loops (progress_at (go_to app i n p s) i).loops
  stay-go_to n p loops e stay = (stay.0, ap for_ever (loops-go_to app i n p s l ∙ e) ∙ stay.1)

  same_stay : (n : ℕ) (p : Progress) → p.loops ≡ (progress_at s i).loops
      → AllStay (progress_at s i).loops (progress_at (go_to app i n p s) i).loops
  same_stay n p e = stay-go_to n p (progress_at s i).loops e ([], refl)

  stay-open_loop : (turns : Option ℕ) → AllStay (progress_at s i).loops (progress_at (open_loop app i turns s) i).loops
  unfolding open_loop
  stay-open_loop turns =
      let p : Progress = progress_at s i in
      let one : Loop = record { start = p.op_index + 1; left = turns } in
      stay-go_to (p.op_index + 1) (record p { loops = one ∷ p.loops }) (one ∷ p.loops) refl (by_turns turns) where
        by_turns : (turns : Option ℕ)
            → AllStay (progress_at s i).loops
            (record { start = (progress_at s i).op_index + 1; left = turns } ∷ (progress_at s i).loops)
        by_turns None = (record { start = (progress_at s i).op_index + 1; left = None } ∷ [], refl)
        by_turns (Some turns) = ([], refl)

  -- the innermost loop, which is not for ever, and those around it
  outer_stay : (loop : Loop) (outer : List Loop) (left : ℕ) → loop.left ≡ Some left → for_ever outer ≡ for_ever (loop ∷ outer)
  outer_stay loop outer left e = rw e refl

  stay-next_turn : (p : Progress) (loop : Loop) (outer : List Loop) (left : Option ℕ)
      → p.loops ≡ loop ∷ outer → (progress_at s i).loops ≡ loop ∷ outer
      → loop.left ≡ left → AllStay (progress_at s i).loops (progress_at (next_turn app i p loop outer left s) i).loops
  stay-next_turn p loop outer None is are e = same_stay loop.start p (is ∙ sym are)
  stay-next_turn p loop outer (Some left) is are e =
      let stay : for_ever outer ≡ for_ever (progress_at s i).loops = outer_stay loop outer left e ∙ sym (ap for_ever are) in
      let less : Loop = record loop { left = Some (left - 1) } in
      by_test (leb left 1)
      (λ t. rw t (stay-go_to (p.op_index + 1) (record p { loops = outer }) outer refl ([], stay)))
      (λ t. rw t (stay-go_to loop.start (record p { loops = less ∷ outer }) (less ∷ outer) refl ([], stay)))

  stay-turn : (p : Progress) (loops : List Loop) → p.loops ≡ loops → (progress_at s i).loops ≡ loops
      → AllStay (progress_at s i).loops (progress_at (turn app i p loops s) i).loops
  stay-turn p [] is are = same_stay (p.op_index + 1) p (is ∙ sym are)
  stay-turn p (loop ∷ outer) is are = stay-next_turn p loop outer loop.left is are refl

  stay-branch : (c : AnswerCondition) → AllStay (progress_at s i).loops (progress_at (branch app i c s) i).loops
  unfolding branch
  stay-branch c =
      let p : Progress = progress_at s i in
      by_test (holds s.variables c p.answer)
      (λ t. rw t (same_stay (p.op_index + 1) p refl))
      (λ t. rw t (same_stay (jump_from (script_of app i) p.op_index) p refl))

  pub stay-act : (op : Op) → is_of_blocks (edge_of op) ≡ true → (op ≡ Break → ⊥)
      → AllStay (progress_at s i).loops (progress_at (act app i op s) i).loops
  unfolding close_turn skip_branch
  stay-act (Repeat turns) t other = stay-open_loop turns
  stay-act End t other = stay-turn (progress_at s i) (progress_at s i).loops refl refl
  stay-act (If c) t other = stay-branch c
  stay-act Else t other = let p : Progress = progress_at s i in same_stay (jump_from (script_of app i) p.op_index) p refl
  stay-act EndIf t other = let p : Progress = progress_at s i in same_stay (p.op_index + 1) p refl
  stay-act Break t other = absurd (other refl)
  stay-act op t other = absurd (cc)

  pub leaves : (blocks : List Block) (ops : List Op) → slice_get (script_of app i) (progress_at s i).op_index ≡ Some Break
      → loops_in blocks ≡ 0 → Encloses (script_of app i) (progress_at s i).op_index blocks ops End
      → (progress_at (leave_loop app i s) i).op_index ≡ (progress_at s i).op_index + 1 + (length ops + 1)
  unfolding leave_loop
  leaves blocks ops is none h =
      let p : Progress = progress_at s i in
      next-go_to app i (jump_from (script_of app i) p.op_index) (record p { loops = drop 1 p.loops }) s l
      ∙ over_loop (script_of app i) p.op_index blocks ops is h none

  pub leaves_outer : (loop : Loop) (outer : List Loop) → (progress_at s i).loops ≡ loop ∷ outer
      → (progress_at (leave_loop app i s) i).loops ≡ outer
  unfolding leave_loop
  leaves_outer loop outer is =
      let p : Progress = progress_at s i in
      loops-go_to app i (jump_from (script_of app i) p.op_index) (record p { loops = drop 1 p.loops }) s l
      ∙ ap (λ (ls : List Loop). drop 1 ls) is

  -- ---- what they leave as it was

  pub quiet-go_to : (n : ℕ) (p : Progress) → p.answer ≡ (progress_at s i).answer → IsQuiet i s (go_to app i n p s)
  unfolding go_to
  quiet-go_to n p e = record {
    time = refl;
    elapsed = refl;
    current = refl;
    log = refl;
    answer = ap (λ (q : Progress). q.answer) (at-go_to app i n p s l) ∙ e;
  }

  quiet-branch : (c : AnswerCondition) → IsQuiet i s (branch app i c s)
  unfolding branch
  quiet-branch c =
      let p : Progress = progress_at s i in
      by_test (holds s.variables c p.answer)
      (λ t. rw t (quiet-go_to (p.op_index + 1) p refl))
      (λ t. rw t (quiet-go_to (jump_from (script_of app i) p.op_index) p refl))

  quiet-next_turn : (p : Progress) (loop : Loop) (outer : List Loop) (left : Option ℕ)
      → p.answer ≡ (progress_at s i).answer → IsQuiet i s (next_turn app i p loop outer left s)
  quiet-next_turn p loop outer None e = quiet-go_to loop.start p e
  quiet-next_turn p loop outer (Some left) e = by_test (leb left 1)
      (λ t. rw t (quiet-go_to (p.op_index + 1) (record p { loops = outer }) e))
      (λ t. rw t (quiet-go_to loop.start (record p { loops = record loop { left = Some (left - 1) } ∷ outer }) e))

  quiet-turn : (p : Progress) (loops : List Loop) → p.answer ≡ (progress_at s i).answer → IsQuiet i s (turn app i p loops s)
  quiet-turn p [] e = quiet-go_to (p.op_index + 1) p e
  quiet-turn p (loop ∷ outer) e = quiet-next_turn p loop outer loop.left e

  pub quiet-act : (op : Op) → is_of_blocks (edge_of op) ≡ true → IsQuiet i s (act app i op s)
  unfolding open_loop close_turn skip_branch leave_loop
  quiet-act (Repeat turns) t =
      let p : Progress = progress_at s i in
      quiet-go_to (p.op_index + 1) (record p { loops = record { start = p.op_index + 1; left = turns } ∷ p.loops }) refl
  quiet-act End t = quiet-turn (progress_at s i) (progress_at s i).loops refl
  quiet-act (If c) t = quiet-branch c
  quiet-act Else t = let p : Progress = progress_at s i in quiet-go_to (jump_from (script_of app i) p.op_index) p refl
  quiet-act EndIf t = let p : Progress = progress_at s i in quiet-go_to (p.op_index + 1) p refl
  quiet-act Break t =
      let p : Progress = progress_at s i in
      quiet-go_to (jump_from (script_of app i) p.op_index) (record p { loops = drop 1 p.loops }) refl
  quiet-act op t = absurd (cc)

-- no op that may not be done while a task holds the scheduler
pub fits_held : (suspended critical : Bool)
    → (if suspended && false then Some WhileSuspended else option_or None (if critical && false then Some WhileCritical else None))
    ≡ None
fits_held false false = refl
fits_held false true = refl
fits_held true false = refl
fits_held true true = refl

pub allowed_held : (s : State) (i : ℕ) (op : Op) → is_of_blocks (edge_of op) ≡ true → misuse s i op ≡ None
allowed_held s i (Repeat turns) t = fits_held (is_scheduler_suspended s) (is_critical s)
allowed_held s i End t = fits_held (is_scheduler_suspended s) (is_critical s)
allowed_held s i (If c) t = fits_held (is_scheduler_suspended s) (is_critical s)
allowed_held s i Else t = fits_held (is_scheduler_suspended s) (is_critical s)
allowed_held s i EndIf t = fits_held (is_scheduler_suspended s) (is_critical s)
allowed_held s i Break t = fits_held (is_scheduler_suspended s) (is_critical s)
allowed_held s i op t = absurd (cc)
