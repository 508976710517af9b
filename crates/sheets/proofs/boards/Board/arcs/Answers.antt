use Rattle.std.proofs.Common.{◌≡◌, ◌≤◌, length, refl, ap, ◌∙◌, add-one, arith, below_more}
use Rattle.sheets.specs.Boards.{total, join_to}
use Rattle.sheets.specs.Made.{orders_of}
use Rattle.sheets.proofs.Arcs.{supplies, choices, choices_of, exits}
use Rattle.sheets.proofs.Held.{serves_is, may_is}
use Rattle.sheets.proofs.Joins.{join_more, join_past}
use Rattle.sheets.proofs.boards.Board.arcs.Goals as goal
use Rattle.sheets.proofs.boards.Board.arcs.Goals.{then-goes_to, else-goes_to, then-is_in_service, else-is_in_service}

pub loop-j-preserved : goal.loop-j-preserved
loop-j-preserved c =
    let orders = c.as_slice-orders.result.now in
    let nozzles = c.as_slice-nozzles.result.now in
    let t = c.loop-t-2.t in
    let j = c.loop-j.j in
    let is = may_is nozzles j c.loop-j-test.true c.goes_to.result orders t c.goes_to.ensures in
    let all = ap total c.as_slice-orders.ensures.value in
    let S = join_to (length orders) (supplies orders) in
    let C = join_to t (choices_of orders nozzles) in
    elim c.if-goes_to.branch [
      | then-goes_to w ↦
          rw w.arcs-is (
            join_more S C (choices orders nozzles t) j _ _ _ c.loop-j.invariant.0 w.push-then-goes_to.ensures.items
                (rw (is ∙ w.if-goes_to.true) (cc (all, c.total.ensures, c.value-all.ensures, c.most-most.ensures.value, w.fixed-then-goes_to.ensures))),
            omega arith,
          )
      | else-goes_to w ↦ rw w.arcs-is (join_past S C (choices orders nozzles t) j _ _ c.loop-j.invariant.0 refl (rw (is ∙ w.if-goes_to.false)), omega arith)
    ]

pub loop-t-2-preserved : goal.loop-t-2-preserved
loop-t-2-preserved c =
    let end : c.loop-j.j ≡ length c.as_slice-nozzles.result.now = omega arith in
    let few : length c.as_slice-nozzles.result.now ≤ 8 = omega (arith, ap length c.as_slice-nozzles.ensures.value) in (
      rw add-one (rw end at c.loop-j.invariant.0),
      omega arith,
      below_more _ _ c.loop-t-2.invariant.2 c.most-most.ensures.small,
    )

pub loop-j-2-preserved : goal.loop-j-2-preserved
loop-j-2-preserved c =
    let orders = orders_of c.args.self.now in
    let nozzles = c.as_slice-nozzles.result.now in
    let j = c.loop-j-2.j in
    let is = serves_is nozzles j c.loop-j-2-test.true c.is_in_service.result c.is_in_service.ensures in
    let S = join_to (length orders) (supplies orders) in
    let C = join_to (length orders) (choices_of orders nozzles) in
    elim c.if-is_in_service.branch [
      | then-is_in_service w ↦
          rw w.arcs-is (
            join_more S C (exits orders nozzles) j _ _ _ c.loop-j-2.invariant.0 w.push-then-is_in_service.ensures.items
                (rw (is ∙ w.if-is_in_service.true) (cc w.counted.ensures)),
            omega arith,
          )
      | else-is_in_service w ↦ rw w.arcs-is (join_past S C (exits orders nozzles) j _ _ c.loop-j-2.invariant.0 refl (rw (is ∙ w.if-is_in_service.false)), omega arith)
    ]

pub returns-clause-arcs : goal.returns-clause-arcs
returns-clause-arcs c =
    let end : c.loop-j-2.j ≡ length c.as_slice-nozzles.result.now = omega (arith, ap length c.as_slice-nozzles.ensures.value) in
    rw (← c.as_slice-nozzles.ensures.value) (rw end at c.loop-j-2.invariant.0)
