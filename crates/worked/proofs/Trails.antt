-- Whether a trail shows every run, as a test, and what its sides tell of sheets.
use Rattle.std.proofs.Common.{◌≡◌, ℕ, ◌+◌, ◌-◌, ◌/◌, ◌^◌, ◌<◌, ◌≤◌, Bool, false, not, List, length, inl, inr, arith, pow_mono}
use Rattle.std.proofs.lemmas.Nat.{div_below, pow_pos}
use Rattle.std.proofs.lemmas.Bool.{not-true, cases_lt}
use Rattle.flows.specs.declared.Arc.{Arc}
use Rattle.flows.specs.Flows.{FromSource, Admits, inside, side_capacity, counted_across, next_limit}
use Rattle.flows.proofs.Cuts.{linear, no_limit, next_limit_lem}
use Rattle.limit_search.specs.declared.Step.{Step}
use Rattle.limit_search.specs.Trails.{step_at, side_of, ShortStep, ShowsRuns}
use Rattle.sheets.specs.declared.NozzleState.{NozzleState}
use Rattle.records.specs.declared.TypeRecord.{TypeRecord}
use Rattle.sheets.specs.Sheets.{IsSheet}
use Rattle.sheets.proofs.Fewest.{none_fewer, no_sheet}
use Rattle.book.specs.Books.{orders_in}
use Rattle.book.specs.Keeps.{Complete, TrailKept, nodes_in, arcs_in, total_in, in_service_count, nozzles_across}
use Rattle.worked.proofs.Tests.{Test, yes, equal, at_most, less, also, each, if_less, Says}
use Rattle.worked.proofs.Ready.{whole, from_source}

-- a number below 2 ^ n has no bit from n on
no_bit : (s n v : ℕ) → s < 2 ^ n → n ≤ v → inside s v ≡ false
no_bit s n v h l =
    let none : s / 2 ^ v < 1 = div_below s (2 ^ v) 1 (pow_pos v) (omega (arith, pow_mono l)) in
    let zero_is : s / 2 ^ v ≡ 0 = omega arith in
    rw zero_is

module _ (nodes W : ℕ) (arcs : List Arc) where
  abbrev pub short_test : Step → Test
  short_test x =
      also (also (yes (side_of x 0)) (also (yes (not (side_of x 1))) (less x.side.bits (2 ^ nodes)))) (also (less x.size W) (equal x.size (side_capacity (side_of x) x.limit arcs)))

  pub is_short : (x : Step) → Says (short_test x) → ShortStep nodes W arcs x
  is_short x s =
      record {
        is_side = record { source = s.0.0; sink = not-true _ s.0.1.0; below = λ v l. no_bit x.side.bits nodes v s.0.1.1 l };
        below = s.1.0;
        tight = s.1.1;
      }

  module _ (trail : List Step) (runs : ℕ) where
    abbrev turn_test : ℕ → Test
    turn_test j =
        also (equal (step_at trail (j + 1)).limit (next_limit (side_of (step_at trail j)) W arcs))
        (also (short_test (step_at trail j)) (also (less 0 (counted_across (side_of (step_at trail j)) arcs)) (if_less (step_at trail (j + 1)).size W (less (counted_across (side_of (step_at trail (j + 1))) arcs) (counted_across (side_of (step_at trail j)) arcs)))))

    abbrev pub runs_test : Test
    runs_test = also (less 0 runs) (also (at_most runs (length trail)) (also (equal (step_at trail 0).limit 0) (each (runs - 1) turn_test)))

    pub shows_runs : Says runs_test → ShowsRuns nodes W arcs trail runs
    shows_runs s =
        let turn : (j : ℕ) → j + 1 < runs → Says (turn_test j) = λ j l. s.1.1.1 j (omega arith) in
        record {
          some = s.0;
          steps = s.1.0;
          first = s.1.1.0;
          next = λ j l. (turn j l).0;
          short = λ j l. is_short (step_at trail j) (turn j l).1.0;
          counted = λ j l. (turn j l).1.1.0;
          fewer = λ j l. (turn j l).1.1.1;
        }

    -- no limit below the last one admits W
    pub none_below : FromSource arcs → ShowsRuns nodes W arcs trail runs → (L : ℕ) → L < (step_at trail (runs - 1)).limit → Admits nodes W arcs L → ⊥
    none_below o s L l =
        elim (cases_lt 1 runs) [
          | inl m ↦ let j : ℕ = runs - 2 in
              let p : ℕ → Bool = side_of (step_at trail j) in
              let at : runs - 1 ≡ j + 1 = omega arith in
              let x = s.short j (omega arith) in
              let up = next_limit_lem nodes (step_at trail j).limit W arcs p o x.is_side (s.counted j (omega arith)) (omega (arith, x.below, x.tight)) in
              let is : (step_at trail (runs - 1)).limit ≡ next_limit p W arcs = rw at (s.next j (omega arith)) in
              up.least L (omega arith)
          | inr m ↦ let at : runs - 1 ≡ 0 = omega arith in let is : (step_at trail (runs - 1)).limit ≡ 0 = rw at s.first in absurd (omega arith)
        ]

module _ (types : List TypeRecord) (nozzles : List NozzleState) (trail : List Step) (runs : ℕ) where
  abbrev pub trail_test : Test
  trail_test =
      also (equal (length trail) runs)
      (also (runs_test (nodes_in types nozzles) (total_in types) (arcs_in types nozzles) trail runs)
      (also (at_most runs (in_service_count nozzles + 1)) (each (runs - 1) (λ j. if_less (step_at trail (j + 1)).size (total_in types) (less (nozzles_across types nozzles (side_of (step_at trail (j + 1)))) (nozzles_across types nozzles (side_of (step_at trail j))))))))

  pub trail_kept : Says trail_test → TrailKept types nozzles trail runs
  trail_kept s =
      record {
        count = s.0;
        shows = shows_runs (nodes_in types nozzles) (total_in types) (arcs_in types nozzles) trail runs s.1.0;
        few = s.1.1.0;
        fewer = λ j l. s.1.1.1 j (omega arith);
      }

  -- no sheet has fewer subtours than the last limit
  pub fewest : Complete types → TrailKept types nozzles trail runs → (other : List (List ℕ)) → IsSheet types nozzles other → (step_at trail (runs - 1)).limit ≤ length other
  fewest c k other h =
      none_fewer (orders_in types) nozzles (step_at trail (runs - 1)).limit
      (none_below (nodes_in types nozzles) (total_in types) (arcs_in types nozzles) trail runs (from_source (orders_in types) nozzles) k.shows)
      other
      (rw (whole types c) h)

-- where no counted arc crosses the side of a step that is short there is no sheet
pub no_sheet_past : (types : List TypeRecord) (nozzles : List NozzleState) (x : Step) → Complete types → ShortStep (nodes_in types nozzles) (total_in types) (arcs_in types nozzles) x → counted_across (side_of x) (arcs_in types nozzles) ≡ 0 → (rows : List (List ℕ)) → IsSheet types nozzles rows → ⊥
no_sheet_past types nozzles x c s z rows h =
    no_sheet (orders_in types) nozzles
    (no_limit (nodes_in types nozzles) (total_in types) (arcs_in types nozzles) (side_of x) (from_source (orders_in types) nozzles) s.is_side z (omega (arith, linear (side_of x) x.limit (arcs_in types nozzles), s.below, s.tight)))
    rows
    (rw (whole types c) h)
