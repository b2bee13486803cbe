use Rattle.std.proofs.Common.{◌≡◌, ◌++◌, get_or, sym, ap, ◌∙◌, subst, arith, length, take, ℕ, Vec}
use Rattle.std.specs.List.{concat}
use Rattle.std.specs.declared.alloc.Global.{Global}
use Rattle.deal.specs.Totals.{times}
use Rattle.deal.specs.Closing.{IsMarked, items_of}
use Rattle.deal.proofs.Once.{among_below}
use Rattle.deal.proofs.Gathering.{concat_more, times_within}
use Rattle.deal.proofs.deal.mark_all.Goals as goal

pub mark_list-requires : goal.mark_list-requires
mark_list-requires c x there =
    let lists = c.args.lists.now in
    let i = c.loop-list.list-index in
    let v = c.list-item.result in
    let stands = times_within lists i v x c.loop-list-test.true in
    let here : times x c.deref.result.now ≡ times x (get_or lists i v).items =
    ap (times x) (c.deref.ensures.value ∙ ap (λ (u : Vec ℕ Global). u.items) c.list-item.is) in
    omega (
      arith,
      among_below (length c.args.marks.now) (concat (items_of lists)) c.requires.0 x (omega (arith, there, here, stands)),
      c.loop-list.invariant.0,
    )

pub loop-list-preserved : goal.loop-list-preserved
loop-list-preserved c =
    let lists = c.args.lists.now in
    let i = c.loop-list.list-index in
    let v = c.list-item.result in
    let more = concat_more lists i v c.loop-list-test.true in
    let same = c.deref.ensures.value ∙ ap (λ (u : Vec ℕ Global). u.items) c.list-item.is in
    let e = c.mark_list.ensures in (
      e.0 ∙ c.loop-list.invariant.0,
      subst (λ l. IsMarked l c.mark_list.new.marks) (ap (λ l. concat (items_of (take i lists)) ++ l) same ∙ sym more)
          (e.1 (concat (items_of (take i lists))) c.loop-list.invariant.1),
    )
