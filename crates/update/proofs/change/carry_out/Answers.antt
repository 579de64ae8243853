use Rattle.std.proofs.Common.{rules}
use Rattle.update.proofs.ChangeLaws.{Prepared, prepared_settled, prepared_still, made_tracked, carried_still, carries}
use Rattle.update.proofs.change.carry_out.Goals.{then-is_awaited, else-is_awaited}
use Rattle.update.proofs.change.carry_out.Goals as goal

-- src/change.rt:97:5
pub mutate_all-requires : goal.mutate_all-requires
mutate_all-requires c =
    let prepared : Prepared c.args.count c.args.policy.now c.if-is_awaited.atoms c.if-is_awaited.index = elim c.if-is_awaited.branch [
      | then-is_awaited w ↦ rw (w.atoms-is, w.index-is) (prepared_settled _ _ _ _ w.settle_all.ensures)
      | else-is_awaited w ↦ rw (w.atoms-is, w.index-is) (search (rules, prepared_still))
    ] in
    search (rules, carries)

-- src/change.rt:99:9
pub returns-then-not-is_awaited : goal.returns-then-not-is_awaited
returns-then-not-is_awaited c =
    let prepared : Prepared c.args.count c.args.policy.now c.if-is_awaited.atoms c.if-is_awaited.index = elim c.if-is_awaited.branch [
      | then-is_awaited w ↦ rw (w.atoms-is, w.index-is) (prepared_settled _ _ _ _ w.settle_all.ensures)
      | else-is_awaited w ↦ rw (w.atoms-is, w.index-is) (search (rules, prepared_still))
    ] in
    carried_still _ _ _ _ prepared _ _ _ _ _ _ c.is_awaited-2.ensures c.if-not-is_awaited.true c.mutate_all.ensures (search rules)

-- src/change.rt:101:5
pub settle_judged-requires : goal.settle_judged-requires
settle_judged-requires c =
    let prepared : Prepared c.args.count c.args.policy.now c.if-is_awaited.atoms c.if-is_awaited.index = elim c.if-is_awaited.branch [
      | then-is_awaited w ↦ rw (w.atoms-is, w.index-is) (prepared_settled _ _ _ _ w.settle_all.ensures)
      | else-is_awaited w ↦ rw (w.atoms-is, w.index-is) (search (rules, prepared_still))
    ] in
    (made_tracked _ _ _ _ _ _ _ _ c.mutate_all.ensures prepared, search (rules, carries), search (rules, carries))

-- src/change.rt:82:1
pub returns : goal.returns
returns c =
    let prepared : Prepared c.args.count c.args.policy.now c.if-is_awaited.atoms c.if-is_awaited.index = elim c.if-is_awaited.branch [
      | then-is_awaited w ↦ rw (w.atoms-is, w.index-is) (prepared_settled _ _ _ _ w.settle_all.ensures)
      | else-is_awaited w ↦ rw (w.atoms-is, w.index-is) (search (rules, prepared_still))
    ] in
    search (rules, carries)
