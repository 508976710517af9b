use Rattle.std.proofs.Common.{rules, ◌≡◌, get_or, ◌-◌, ◌≤◌, length, drop, ap, ◌∙◌, arith}
use Rattle.std.proofs.lemmas.List.{take_all, length-drop}
use Rattle.std.specs.Slice.Iter.{iter_rest}
use Rattle.sheets.proofs.Held.{may_is}
use Rattle.sheets.proofs.Walk.{no_pick, pick_at, start, take_arc, no_arc_lem, next_type, finish}
use Rattle.sheets.proofs.boards.Board.next_pieces.Goals as goal
use Rattle.sheets.proofs.boards.Board.next_pieces.Goals.{then-goes_to, else-goes_to}

pub loop-t-init : goal.loop-t-init
loop-t-init c =
    let k = length c.as_slice-orders.result.now in
    let all = take_all (256 - k) (drop k c.args.flow.now) (omega (arith, length-drop k c.args.flow.now)) in
    rw c.from.ensures (start c.as_slice-orders.result.now c.as_slice-nozzles.result.now c.args.flow.now c.args.subtour _ (c.iter-counts.ensures.rest ∙ all))

pub loop-j-preserved : goal.loop-j-preserved
loop-j-preserved c =
    let orders = c.as_slice-orders.result.now in
    let nozzles = c.as_slice-nozzles.result.now in
    let xs = c.args.flow.now in
    let i = c.args.subtour in
    let t = c.loop-t.t in
    let j = c.loop-j.j in
    let is = may_is nozzles j c.loop-j-test.true c.goes_to.result orders t c.goes_to.ensures in
    let few : length nozzles ≤ 8 = omega (arith, ap length c.as_slice-nozzles.ensures.value) in
    elim c.if-goes_to.branch [
      | then-goes_to w ↦
          let taken = rw w.unwrap.ensures at w.next.ensures.steps in
          rw (w.counts-is, w.picks-is)
          (take_arc orders nozzles xs i t j w.unwrap.result.now w.count.new.self _ (iter_rest w.next.new.self) c.loop-j.picks c.loop-j.invariant (omega arith) (omega arith) (omega arith)
          (is ∙ w.if-goes_to.true) (omega (arith, c.loop-j.invariant.few)) taken (w.count.ensures.left, w.count.ensures.piece))
      | else-goes_to w ↦ rw (w.counts-is, w.picks-is) (no_arc_lem orders nozzles xs i t j _ c.loop-j.picks c.loop-j.invariant (is ∙ w.if-goes_to.false))
    ]

pub loop-t-preserved : goal.loop-t-preserved
loop-t-preserved c =
    next_type c.as_slice-orders.result.now c.as_slice-nozzles.result.now c.args.flow.now c.args.subtour _ c.loop-j.j _ _ c.loop-j.invariant (omega arith)
    (omega (arith, ap length c.as_slice-nozzles.ensures.value))

pub returns-clause-pieces : goal.returns-clause-pieces
returns-clause-pieces c = λ j h.
    let m = c.map.ensures.items.at j no_pick 0 h in
    let e : get_or c.map.result j 0 ≡ (pick_at c.loop-t.picks j).piece = search rules in
    e
    ∙ rw (← c.as_slice-orders.ensures.value, ← c.as_slice-nozzles.ensures.value)
    (finish c.as_slice-orders.result.now c.as_slice-nozzles.result.now c.args.flow.now c.args.subtour c.loop-t.t _ _ c.loop-t.invariant (omega arith) j h)
