-- A promise speaks of the nozzles only by which of them are in service, so that it outlasts the
-- scrapping of a nozzle that is out.
use Rattle.std.proofs.Common.{◌≡◌, ℕ, ◌+◌, ◌-◌, Bool, true, false, ◌&&◌, List, [], ◌∷◌, ◌++◌, map, length, get_or, set, Some, sym, refl, ap, ◌∙◌, subst, subst₂, inl, inr, arith, length-set, get_or-set_other, get_or-set_same}
use mathlib.Core.Path.{fun_ext}
use Rattle.std.specs.List.{range_with_len}
use Rattle.std.proofs.lemmas.List.{get_or_past, get_or_default}
use Rattle.std.proofs.lemmas.Bool.{cases_lt, cases_eq}
use Rattle.flows.specs.declared.Arc.{Arc}
use Rattle.flows.specs.Sums.{sum_to, only}
use Rattle.flows.specs.Flows.{crosses, inside, fixed_across}
use Rattle.network.specs.declared.sides.Cut.{Cut}
use Rattle.limit_search.specs.declared.Step.{Step}
use Rattle.limit_search.specs.Trails.{step_at, side_of, ShortStep, ShowsRuns}
use Rattle.sheets.specs.declared.NozzleState.{NozzleState}
use Rattle.sheets.specs.declared.NozzleState.TheVariants.{InService, Out, Scrapped}
use Rattle.records.specs.declared.TypeRecord.{TypeRecord}
use Rattle.sheets.specs.declared.Order.{Order}
use Rattle.sheets.specs.Sheets.{IsSheet, serves, in_service, taken, type_at}
use Rattle.sheets.specs.Boards.{order_at, nozzle_node, supply, choice, exit, join_to, when, picks, sheet_of}
use Rattle.book.specs.Books.{orders_in, is_out}
use Rattle.book.specs.Keeps.{nodes_in, arcs_in, total_in, in_service_count, nozzles_across, TrailKept, PlannedKept, ShortKept}

-- the same nozzles are in service
abbrev pub Alike : List NozzleState → List NozzleState → Type 0
Alike ns ms = (length ns ≡ length ms) × ((j : ℕ) → in_service ns j ≡ in_service ms j)

alike_back : (ns ms : List NozzleState) → Alike ns ms → Alike ms ns
alike_back ns ms a = (sym a.0, λ j. sym (a.1 j))

sheet_same : (types : List TypeRecord) (ns ms : List NozzleState) → Alike ns ms → (rows : List (List ℕ)) → IsSheet types ns rows → IsSheet types ms rows
sheet_same types ns ms a rows s =
    record {
      wide = λ i h. s.wide i h ∙ a.0;
      known = λ i j t h l e. s.known i j t h (omega (arith, a.0)) e;
      serving = λ i j t h l e. sym (a.1 j) ∙ s.serving i j t h (omega (arith, a.0)) e;
      member = λ i j t h l e. s.member i j t h (omega (arith, a.0)) e;
      whole = λ t h. subst (λ (n : ℕ). (type_at types t).quantity ≡ Some (sum_to n (taken rows t))) a.0 (s.whole t h);
      limited = λ t j h l. s.limited t j h (omega (arith, a.0));
    }

module _ (types : List TypeRecord) (ns ms : List NozzleState) (a : Alike ns ms) where
  abbrev orders : List Order
  orders = orders_in types

  w : in_service ns ≡ in_service ms
  w = fun_ext a.1

  nodes_same : nodes_in types ns ≡ nodes_in types ms
  nodes_same = ap (λ (n : ℕ). length orders + n + 2) a.0

  both : {X : Type 0} (f : ℕ → (ℕ → Bool) → X) → f (length ns) (in_service ns) ≡ f (length ms) (in_service ms)
  both f = λ i. f (a.0 i) (w i)

  arcs_same : arcs_in types ns ≡ arcs_in types ms
  arcs_same =
      both (λ (n : ℕ) (v : ℕ → Bool).
      join_to (length orders) (λ t. supply orders t ∷ [])
      ++ (join_to (length orders) (λ t. join_to n (λ j. when (v j && inside (order_at orders t).mask j) (choice orders t j ∷ [])))
      ++ join_to n (λ j. when (v j) (exit orders j ∷ []))))

  pub rows_same : (flow : List ℕ) (cost : ℕ) → sheet_of orders ns flow cost ≡ sheet_of orders ms flow cost
  rows_same flow cost =
      subst₂ (λ (arcs : List Arc) (n : ℕ). sheet_of orders ns flow cost ≡ map (λ i. map (λ j. get_or (picks arcs flow (nozzle_node orders j)) i 0) (range_with_len 0 n)) (range_with_len 0 cost)) arcs_same a.0 refl

  service_same : in_service_count ns ≡ in_service_count ms
  service_same = both (λ (n : ℕ) (v : ℕ → Bool). sum_to n (λ j. only (v j) 1))

  across_same : (p : ℕ → Bool) → nozzles_across types ns p ≡ nozzles_across types ms p
  across_same p = both (λ (n : ℕ) (v : ℕ → Bool). sum_to n (λ j. only (v j) (only (crosses p (exit orders j)) 1)))

  trail_same : (steps : List Step) (runs : ℕ) → TrailKept types ns steps runs → TrailKept types ms steps runs
  trail_same steps runs k =
      record {
        count = k.count;
        shows = subst₂ (λ (n : ℕ) (l : List Arc). ShowsRuns n (total_in types) l steps runs) nodes_same arcs_same k.shows;
        few = omega (arith, k.few, service_same);
        fewer = λ j h z. omega (arith, k.fewer j h z, across_same (side_of (step_at steps j)), across_same (side_of (step_at steps (j + 1))));
      }

  pub planned_same : (flow : List ℕ) (steps : List Step) (cost runs : ℕ) → PlannedKept types ns (sheet_of orders ns flow cost) steps cost runs → PlannedKept types ms (sheet_of orders ms flow cost) steps cost runs
  planned_same flow steps cost runs k =
      record {
        complete = k.complete;
        sheet = subst (IsSheet types ms) (rows_same flow cost) (sheet_same types ns ms a _ k.sheet);
        long = ap length (sym (rows_same flow cost)) ∙ k.long;
        fewest = λ other s. k.fewest other (sheet_same types ms ns (alike_back ns ms a) other s);
        trail = trail_same steps runs k.trail;
        last_limit = k.last_limit;
        last_size = k.last_size;
        last_side = k.last_side;
      }

  pub short_same : (steps : List Step) (runs : ℕ) (cut : Cut) → ShortKept types ns steps runs cut → ShortKept types ms steps runs cut
  short_same steps runs cut k =
      record {
        complete = k.complete;
        none = λ rows s. k.none rows (sheet_same types ms ns (alike_back ns ms a) rows s);
        trail = trail_same steps runs k.trail;
        last = subst₂ (λ (n : ℕ) (l : List Arc). ShortStep n (total_in types) l (step_at steps (runs - 1))) nodes_same arcs_same k.last;
        side_is = k.side_is;
        uncrossed = sym (across_same (inside cut.side.bits)) ∙ k.uncrossed;
        fixed_is = k.fixed_is ∙ ap (fixed_across (inside cut.side.bits)) arcs_same;
        counted_is = k.counted_is;
      }

idle : (s : NozzleState) → is_out s ≡ true → serves s ≡ false
idle InService e = let z : ◌≡◌ {A = ℕ} 0 1 = cc in absurd (omega arith)
idle Out e = refl
idle Scrapped e = refl

-- a nozzle that is out can be scrapped
pub scrapped_alike : (ns : List NozzleState) (i : ℕ) → is_out (get_or ns i InService) ≡ true → Alike ns (set ns i Scrapped)
scrapped_alike ns i o = (
  sym (length-set ns i Scrapped),
  λ j.
      elim (cases_lt i (length ns)) [
        | inl h ↦
            elim (cases_eq j i) [
              | inl e ↦ rw (e, get_or-set_same ns i Scrapped Scrapped h, get_or_default ns i Scrapped InService h) (idle (get_or ns i InService) o)
              | inr ne ↦ rw (get_or-set_other ns i j Scrapped Scrapped ne)
            ]
        | inr past ↦ let z = ap is_out (sym (get_or_past ns i InService past)) ∙ o in let n : ◌≡◌ {A = ℕ} 0 1 = cc in absurd (omega arith)
      ],
)
