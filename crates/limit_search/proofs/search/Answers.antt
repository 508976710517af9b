use Rattle.std.proofs.Common.{ℕ, ◌%◌, ◌^◌, refl, ap, ◌∙◌, arith, rules}
use native.Mathlib.Nat.{mod-mod}
use Rattle.network.specs.Nets.{arcs_of}
use Rattle.network.proofs.Facts.{few_counted, from_source}
use Rattle.limit_search.proofs.Figures.{size_at, limit_at, count_more}
use Rattle.limit_search.proofs.Going.{start, planned, short, next, rest_kept}
use Rattle.limit_search.proofs.search.Goals as goal

pub overflow_add-needed : goal.overflow_add-needed
overflow_add-needed g c = omega (arith, c.counted-needed.ensures, few_counted c.args.net.now)

pub runs-init : goal.runs-init
runs-init g c = (start _ _ _ _ (omega (arith, c.counted-needed.ensures)), search rules)

-- the size is below what is wanted, so that the sum fits and the difference is no less than 0
pub capacity_under-requires : goal.capacity_under-requires
capacity_under-requires g c =
    let cut = c.cut-cut.ensures in
    let f = c.in-Short.ensures.shown in
    omega (arith, size_at (arcs_of c.args.net.now) c.in-Short.side cut.fixed cut.counted c.value-under.ensures)

pub next_limit-limit-requires : goal.next_limit-limit-requires
next_limit-limit-requires g c =
    let cut = c.cut-cut.ensures in
    let f = c.in-Short.ensures.shown in
    let size = size_at (arcs_of c.args.net.now) c.in-Short.side cut.fixed cut.counted c.value-under.ensures in
    record { below = omega arith; some = omega arith }

pub runs-preserved : goal.runs-preserved
runs-preserved g c =
    let arcs = arcs_of c.args.net.now in
    let cut = c.cut-cut.ensures in (
      next c.runs.invariant.0 _ c.value-under.ensures c.run.new.flow (from_source c.args.net.now) c.in-Short.ensures.shown
          (c.capacity_under.ensures ∙ size_at arcs c.in-Short.side cut.fixed cut.counted c.value-under.ensures)
          (omega (arith, cut.counted))
          (c.next_limit-limit.ensures ∙ limit_at arcs c.in-Short.side cut.fixed cut.counted c.args.wanted.value),
      ap (λ (n : ℕ). n % 2 ^ 32) (count_more _ _ _ _ _ c.runs.invariant.1 c.run.ensures.counted) ∙ mod-mod _ _,
    )

pub returns-in-Reached : goal.returns-in-Reached
returns-in-Reached g c =
    record {
      room = omega (arith, c.counted-needed.ensures);
      ends = planned c.runs.invariant.0 _ c.value-under.ensures c.run.new.flow c.value.ensures refl c.in-Reached.ensures.shown;
      counts = count_more _ _ _ _ _ c.runs.invariant.1 c.run.ensures.counted;
      flow = c.run.ensures.rest;
      trail = rest_kept c.runs.invariant.0 _ c.value-under.ensures;
    }

pub returns-then-cut-eq0 : goal.returns-then-cut-eq0
returns-then-cut-eq0 g c =
    let cut = c.cut-cut.ensures in
    record {
      room = omega (arith, c.counted-needed.ensures);
      ends =
          short c.runs.invariant.0 _ c.value-under.ensures c.run.new.flow (from_source c.args.net.now) c.in-Short.ensures.shown
          (c.capacity_under.ensures ∙ size_at (arcs_of c.args.net.now) c.in-Short.side cut.fixed cut.counted c.value-under.ensures)
          c.cut-cut.result cut.side cut.fixed cut.counted c.if-cut-eq0.true;
      counts = count_more _ _ _ _ _ c.runs.invariant.1 c.run.ensures.counted;
      flow = c.run.ensures.rest;
      trail = rest_kept c.runs.invariant.0 _ c.value-under.ensures;
    }
