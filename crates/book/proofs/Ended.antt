-- What the search of a book's network shows of the book.
use Rattle.std.proofs.Common.{◌≡◌, ℕ, ◌+◌, ◌-◌, ◌<◌, ◌≤◌, Bool, List, [], map, length, take, sym, refl, ap, ◌∙◌, subst, ap₂, subst₂, arith}
use mathlib.Core.Path.{subst₃}
use Rattle.std.proofs.lemmas.List.{get_or-take, length-take-le}
use Rattle.flows.specs.declared.Arc.{Arc}
use Rattle.flows.specs.Sums.{only}
use Rattle.flows.specs.Flows.{crosses, counted_of, counted_across, counted_arcs, inside, next_limit}
use Rattle.flows.proofs.Sums.{sum_none}
use Rattle.network.specs.declared.sides.Cut.{Cut}
use Rattle.limit_search.specs.declared.Step.{Step}
use Rattle.limit_search.specs.declared.Found.{Found}
use Rattle.limit_search.specs.Trails.{no_step, step_at, side_of, ShortStep, ShowsRuns, PlannedBy, ShortBy, Ends}
use Rattle.sheets.specs.declared.NozzleState.{NozzleState}
use Rattle.records.specs.declared.TypeRecord.{TypeRecord}
use Rattle.sheets.specs.declared.Order.{Order}
use Rattle.sheets.specs.Sheets.{IsSheet, in_service}
use Rattle.sheets.specs.Boards.{entered, total, node_count, may, supply, choice, board_arcs, sheet_of}
use Rattle.sheets.proofs.Sums.{count_le, sum_none_of, only_none}
use Rattle.sheets.proofs.Arcs.{sum_arcs_lem}
use Rattle.sheets.proofs.Rules.{counted_service}
use Rattle.sheets.proofs.Fewest.{flow_sheet, no_sheet, none_fewer}
use Rattle.book.specs.Books.{orders_in}
use Rattle.book.specs.Keeps.{nodes_in, arcs_in, total_in, in_service_count, nozzles_across, TrailKept, PlannedKept, ShortKept}
use Rattle.book.proofs.Orders.{orders_are, complete}

pub service_few : (nozzles : List NozzleState) → in_service_count nozzles ≤ length nozzles
service_few nozzles = count_le (in_service nozzles) (length nozzles)

module _ (types : List TypeRecord) (nozzles : List NozzleState) where
  abbrev orders : List Order
  orders = orders_in types

  pub across_are : (p : ℕ → Bool) → counted_across p (arcs_in types nozzles) ≡ nozzles_across types nozzles p
  across_are p =
      omega (
        arith,
        sum_arcs_lem orders nozzles [] (λ a x. only (crosses p a) (counted_of a.capacity)),
        sum_none _ (length orders) (λ t h. only_none (crosses p (supply orders t)) 0 (λ m. refl)),
        sum_none_of _ (length orders) (length nozzles) (λ t j h l. only_none (may orders nozzles t j) (only (crosses p (choice orders t j)) 0) (λ m. only_none (crosses p (choice orders t j)) 0 (λ m. refl))),
      )

  -- the steps of the runs, read off the table
  module _ (trail : List Step) (runs : ℕ) where
    at_front : (j : ℕ) → j < runs → step_at (take runs trail) j ≡ step_at trail j
    at_front j h = get_or-take runs trail j no_step h

    shows_front : (n W : ℕ) (arcs : List Arc) → ShowsRuns n W arcs trail runs → ShowsRuns n W arcs (take runs trail) runs
    shows_front n W arcs s =
        record {
          some = s.some;
          steps = omega (arith, length-take-le runs trail s.steps);
          first = ap (λ (x : Step). x.limit) (at_front 0 s.some) ∙ s.first;
          next = λ j h.
              ap (λ (x : Step). x.limit) (at_front (j + 1) h) ∙ subst (λ (x : Step). (step_at trail (j + 1)).limit ≡ next_limit (side_of x) W arcs) (sym (at_front j (omega arith))) (s.next j h);
          short = λ j h. subst (ShortStep n W arcs) (sym (at_front j (omega arith))) (s.short j h);
          counted = λ j h. subst (λ (x : Step). 0 < counted_across (side_of x) arcs) (sym (at_front j (omega arith))) (s.counted j h);
          fewer = λ j h.
              subst₂ (λ (x y : Step). y.size < W → counted_across (side_of y) arcs < counted_across (side_of x) arcs) (sym (at_front j (omega arith))) (sym (at_front (j + 1) h)) (s.fewer j h);
        }

    kept_trail : ShowsRuns (nodes_in types nozzles) (total_in types) (arcs_in types nozzles) trail runs → runs ≤ counted_arcs (arcs_in types nozzles) + 1 → TrailKept types nozzles (take runs trail) runs
    kept_trail s few =
        let f = shows_front (nodes_in types nozzles) (total_in types) (arcs_in types nozzles) s in
        record {
          count = length-take-le runs trail s.steps;
          shows = f;
          few = omega (arith, counted_service orders nozzles);
          fewer = λ j h z. omega (arith, f.fewer j h z, across_are (side_of (step_at (take runs trail) j)), across_are (side_of (step_at (take runs trail) (j + 1))));
        }

    last_front : 0 < runs → step_at (take runs trail) (runs - 1) ≡ step_at trail (runs - 1)
    last_front h = at_front (runs - 1) (omega arith)

  module _ (all : map entered (orders_in types) ≡ types) (trail : List Step) (flow : List ℕ) (runs : ℕ) where
    entered_rows : (rows : List (List ℕ)) → IsSheet types nozzles rows → IsSheet (map entered orders) nozzles rows
    entered_rows rows s = subst (λ (l : List TypeRecord). IsSheet l nozzles rows) (sym all) s

    pub planned_kept : (cost : ℕ) → PlannedBy (nodes_in types nozzles) (total_in types) (arcs_in types nozzles) trail flow cost runs
        → PlannedKept types nozzles (sheet_of orders nozzles flow cost) (take runs trail) cost runs
    planned_kept cost p =
        let sheet = flow_sheet orders nozzles cost flow p.reaches.is_flow p.reaches.full in
        let last = last_front trail runs p.shows.some ∙ p.last in
        record {
          complete = complete types orders (sym all);
          sheet = subst (λ (l : List TypeRecord). IsSheet l nozzles (sheet_of orders nozzles flow cost)) all sheet.0;
          long = sheet.1;
          fewest = λ other s. none_fewer orders nozzles cost p.least other (entered_rows other s);
          trail = kept_trail trail runs p.shows p.few;
          last_limit = ap (λ (x : Step). x.limit) last;
          last_size = ap (λ (x : Step). x.size) last;
          last_side = ap (λ (x : Step). x.side.bits) last;
        }

    pub short_kept : (limit : ℕ) (cut : Cut) → ShortBy (nodes_in types nozzles) (total_in types) (arcs_in types nozzles) trail flow limit cut runs
        → ShortKept types nozzles (take runs trail) runs cut
    short_kept limit cut p =
        let last = last_front trail runs p.shows.some in
        record {
          complete = complete types orders (sym all);
          none = λ rows s. no_sheet orders nozzles p.never rows (entered_rows rows s);
          trail = kept_trail trail runs p.shows p.few;
          last = subst (ShortStep (nodes_in types nozzles) (total_in types) (arcs_in types nozzles)) (sym last) p.last;
          side_is = ap (λ (x : Step). x.side.bits) last ∙ ap (λ s. s.bits) p.side_is;
          uncrossed = sym (across_are (inside cut.side.bits)) ∙ (sym p.counted_is ∙ p.none);
          fixed_is = p.fixed_is;
          counted_is = p.none;
        }

-- what a search ended with, said of the book and not of the board that was made of it
pub ends_in : (types : List TypeRecord) (nozzles : List NozzleState) (orders : List Order) (states : List NozzleState) → types ≡ map entered orders → nozzles ≡ states → (nodes W : ℕ) (arcs : List Arc)
    → nodes ≡ node_count orders states → W ≡ total orders → arcs ≡ board_arcs orders states → (trail : List Step) (flow : List ℕ) (f : Found) → Ends nodes W arcs trail flow f
    → Ends (nodes_in types nozzles) (total_in types) (arcs_in types nozzles) trail flow f
ends_in types nozzles orders states e s nodes W arcs n w a trail flow f ends =
    let back = sym (orders_are types orders e) in
    subst₃ (λ (m v : ℕ) (l : List Arc). Ends m v l trail flow f) (n ∙ ap₂ node_count back (sym s)) (w ∙ ap total back) (a ∙ ap₂ board_arcs back (sym s)) ends

-- a board's trail has room in nine places
pub counted_few : (orders : List Order) (nozzles : List NozzleState) (arcs : List Arc) → arcs ≡ board_arcs orders nozzles → counted_arcs arcs ≤ length nozzles
counted_few orders nozzles arcs e = omega (arith, ap counted_arcs e, counted_service orders nozzles, service_few nozzles)
