use Rattle.std.proofs.Common.{refl, sym}
use Rattle.kernel.proofs.suspended.own_misuse.Goals as goal

pub returns-then-is_scheduler_suspended : goal.returns-then-is_scheduler_suspended
returns-then-is_scheduler_suspended c = λ s h. rw (c.in-ResumeAll.is, sym (c.if-is_scheduler_suspended.ensures s h)) refl

pub returns-else-is_scheduler_suspended : goal.returns-else-is_scheduler_suspended
returns-else-is_scheduler_suspended c = λ s h. rw (c.in-ResumeAll.is, sym (c.if-is_scheduler_suspended.ensures s h)) refl

pub returns-then-is_holder : goal.returns-then-is_holder
returns-then-is_holder c = λ s h. rw (c.in-GiveMutex.is, sym (c.if-is_holder.ensures s h)) refl

pub returns-else-is_holder : goal.returns-else-is_holder
returns-else-is_holder c = λ s h. rw (c.in-GiveMutex.is, sym (c.if-is_holder.ensures s h)) refl
