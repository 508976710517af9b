-- The test of a table of examples. Where it passes, each example is right.
use Rattle.std.proofs.Common.{◌≡◌, ℕ, suc, ◌+◌, ◌-◌, ◌*◌, ◌≤◌, true, false, cond, List, [], ◌∷◌, length, Some, refl, ap, inl, inr, arith}
use Rattle.std.proofs.lemmas.Bool.{both_ways, cases_Bool}
use Rattle.flows.specs.Sums.{limit_step}
use Rattle.flows.specs.Flows.{inside, fixed_across, counted_across}
use Rattle.network.specs.declared.sides.Cut.{Cut}
use Rattle.limit_search.specs.declared.Step.{Step}
use Rattle.limit_search.specs.Trails.{step_at, side_of}
use Rattle.records.specs.declared.TypeRecord.{TypeRecord}
use Rattle.sheets.specs.Sheets.{IsSheet, type_at}
use Rattle.sheets.specs.Boards.{is_entered}
use Rattle.book.specs.declared.faults.JobFault.TheVariants.{NotEntered}
use Rattle.book.specs.Turns.{missing}
use Rattle.book.specs.Faults.{number_of, layer_of, place_of}
use Rattle.book.specs.Keeps.{PlannedKept, ShortKept, nodes_in, arcs_in, total_in, nozzles_across}
use Rattle.worked.specs.Boards.{Board}
use Rattle.worked.specs.Examples.{Example, limit, planned, short, gap, takes, Right, AllRight, load}
use Rattle.worked.proofs.Tests.{Test, yes, equal, at_most, less, also, each, passes, Says, sound}
use Rattle.worked.proofs.Files.{read_test, is_read}
use Rattle.worked.proofs.Sheets.{sheet_test, is_sheet}
use Rattle.worked.proofs.Trails.{short_test, is_short, trail_test, trail_kept, fewest, no_sheet_past}
use Rattle.worked.proofs.Loads.{load_most, load_least}

-- nothing is missing
abbrev complete_test : Board → Test
complete_test b = each (length b.types) (λ t. yes (is_entered (type_at b.types t)))

abbrev planned_test : Board → ℕ → ℕ → List (List ℕ) → List Step → Test
planned_test b cost runs rows trail =
    also (complete_test b)
    (also (sheet_test b.types b.nozzles rows)
    (also (equal (length rows) cost)
    (also (trail_test b.types b.nozzles trail runs)
    (also (equal (step_at trail (runs - 1)).limit cost)
    (also (equal (step_at trail (runs - 1)).size (total_in b.types))
    (equal (step_at trail (runs - 1)).side.bits 0))))))

is_planned : (b : Board) (cost runs : ℕ) (rows : List (List ℕ)) (trail : List Step) → Says (planned_test b cost runs rows trail) → PlannedKept b.types b.nozzles rows trail cost runs
is_planned b cost runs rows trail s =
    let kept = trail_kept b.types b.nozzles trail runs s.1.1.1.0 in
    record {
      complete = s.0;
      sheet = is_sheet b.types b.nozzles rows s.1.0;
      long = s.1.1.0;
      fewest = λ other h. omega (arith, fewest b.types b.nozzles trail runs s.0 kept other h, s.1.1.1.1.0);
      trail = kept;
      last_limit = s.1.1.1.1.0;
      last_size = s.1.1.1.1.1.0;
      last_side = s.1.1.1.1.1.1;
    }

abbrev shortage_test : Board → ℕ → Cut → List Step → Test
shortage_test b runs last trail =
    also (complete_test b)
    (also (trail_test b.types b.nozzles trail runs)
    (also (short_test (nodes_in b.types b.nozzles) (total_in b.types) (arcs_in b.types b.nozzles) (step_at trail (runs - 1)))
    (also (equal (counted_across (side_of (step_at trail (runs - 1))) (arcs_in b.types b.nozzles)) 0)
    (also (equal (step_at trail (runs - 1)).side.bits last.side.bits)
    (also (equal (nozzles_across b.types b.nozzles (inside last.side.bits)) 0)
    (also (equal last.fixed (fixed_across (inside last.side.bits) (arcs_in b.types b.nozzles)))
    (equal last.counted 0)))))))

is_shortage : (b : Board) (runs : ℕ) (last : Cut) (trail : List Step) → Says (shortage_test b runs last trail) → ShortKept b.types b.nozzles trail runs last
is_shortage b runs last trail s =
    let x = is_short (nodes_in b.types b.nozzles) (total_in b.types) (arcs_in b.types b.nozzles) (step_at trail (runs - 1)) s.1.1.0 in
    record {
      complete = s.0;
      none = no_sheet_past b.types b.nozzles (step_at trail (runs - 1)) s.0 x s.1.1.1.0;
      trail = trail_kept b.types b.nozzles trail runs s.1.0;
      last = x;
      side_is = s.1.1.1.1.0;
      uncrossed = s.1.1.1.1.1.0;
      fixed_is = s.1.1.1.1.1.1.0;
      counted_is = s.1.1.1.1.1.1.1;
    }

-- the others together cannot take more than so many pieces in each subtour
abbrev takes_test : Board → ℕ → ℕ → ℕ → ℕ → Test
takes_test b subtours nozzle least most =
    also (complete_test b)
    (also (at_most 1 nozzle)
    (also (at_most nozzle (length b.nozzles))
    (also (at_most (least + length b.nozzles * subtours) (total_in b.types + subtours))
    (at_most subtours most))))

takes_so : (b : Board) (subtours nozzle least most : ℕ) → Says (takes_test b subtours nozzle least most) → (rows : List (List ℕ)) → IsSheet b.types b.nozzles rows → length rows ≡ subtours → (least ≤ load rows (nozzle - 1)) × (load rows (nozzle - 1) ≤ most)
takes_so b subtours nozzle least most s rows h e =
    let at_least_lem = load_least b.types b.nozzles rows (nozzle - 1) s.0 h (omega (arith, s.1.0, s.1.1.0)) in
    (omega (arith, s.1.1.1.0, ap (λ n. length b.nozzles * n) e), omega (arith, load_most rows (nozzle - 1), s.1.1.1.1))

-- k is the lowest type with a gap, from the number n on
abbrev gap_test : ℕ → ℕ → List TypeRecord → Test
gap_test k n [] = yes false
gap_test k n (x ∷ xs) = cond (is_entered x) (gap_test k (suc n) xs) (equal n k)

is_gap : (k n : ℕ) (types : List TypeRecord) → Says (gap_test k n types) → missing n types ≡ Some (NotEntered k)
is_gap k n [] s = absurd (both_ways false refl s)
is_gap k n (x ∷ xs) s =
    elim (cases_Bool (is_entered x)) [
      | inl e ↦ rw e (is_gap k (suc n) xs (rw e at s))
      | inr e ↦ rw e (ap (λ (m : ℕ). Some (NotEntered m)) (rw e at s))
    ]

-- the test of an example
abbrev limit_test : (W P K next : ℕ) → Test
limit_test W P K next = also (equal (limit_step W P K) next) (also (at_most W (P + K * next)) (each next (λ other. less (P + K * other) W)))

abbrev test_of : Example → Test
test_of (limit W P K next) = limit_test W P K next
test_of (planned b cost runs rows trail) = also (read_test b) (planned_test b cost runs rows trail)
test_of (short b runs last trail) = also (read_test b) (shortage_test b runs last trail)
test_of (gap b kind number layer place) =
    also (read_test b) (also (gap_test kind 1 b.types) (also (equal (number_of (NotEntered kind)) number) (also (equal (layer_of (NotEntered kind)) layer) (equal (place_of (NotEntered kind)) place))))
test_of (takes b subtours nozzle least most) = also (read_test b) (takes_test b subtours nozzle least most)

right : (e : Example) → Says (test_of e) → Right e
right (limit W P K next) s = (s.0, s.1.0, s.1.1)
right (planned b cost runs rows trail) s = (is_read b s.0, is_planned b cost runs rows trail s.1)
right (short b runs last trail) s = (is_read b s.0, is_shortage b runs last trail s.1)
right (gap b kind number layer place) s = (is_read b s.0, λ job. is_gap kind 1 b.types s.1.0, s.1.1.0, s.1.1.1.0, s.1.1.1.1)
right (takes b subtours nozzle least most) s = (is_read b s.0, s.1.1.0, s.1.1.1.0, takes_so b subtours nozzle least most s.1)

-- the test of a table
abbrev pub table_test : List Example → Test
table_test [] = yes true
table_test (e ∷ es) = also (test_of e) (table_test es)

all_say : (es : List Example) → Says (table_test es) → AllRight es
all_say [] s = tt
all_say (e ∷ es) s = (right e s.0, all_say es s.1)

pub all_right : (es : List Example) → passes (table_test es) ≡ true → AllRight es
all_right es e = all_say es (sound (table_test es) e)
