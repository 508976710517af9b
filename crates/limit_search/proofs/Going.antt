-- What holds of a search between two runs.
use Rattle.std.proofs.Common.{◌≡◌, ℕ, zero, suc, ◌+◌, ◌<◌, ◌≤◌, List, length, set, sym, refl, ap, ◌∙◌, ap₂, add-sub_cancel, add-one, arith, below_more}
use Rattle.std.proofs.lemmas.List.{get_or-set_same, get_or-set_other, length-set}
use Rattle.flows.specs.declared.Arc.{Arc}
use Rattle.flows.specs.Sums.{only}
use Rattle.flows.specs.Flows.{arc_at, counted_of, IsSide, Admits, FromSource, inside, crosses, side_capacity, fixed_across, counted_across, counted_arcs, next_limit}
use Rattle.flows.proofs.Sums.{sum_le}
use Rattle.flows.proofs.Cuts.{linear, no_limit, next_limit_lem, fewer_counted}
use Rattle.limit_search.specs.declared.Step.{Step}
use Rattle.network.specs.declared.sides.Side.{Side}
use Rattle.network.specs.declared.sides.Cut.{Cut}
use Rattle.network.specs.Runs.{Reaches, FallsShort}
use Rattle.limit_search.specs.Trails.{no_step, step_at, side_of, ShortStep, ShowsRuns, Untouched, PlannedBy, ShortBy}

-- what a run goes by: its limit, and a number that its side has fewer counted arcs than
pub record Base : Type 0 where
  pub limit : ℕ
  pub bound : ℕ

module _ (W : ℕ) (arcs : List Arc) where
  abbrev pub after : Step → Base
  after x = record { limit = next_limit (side_of x) W arcs; bound = counted_across (side_of x) arcs }

  -- what the run j goes by: the step before it
  abbrev pub base : List Step → ℕ → Base
  base trail zero = record { limit = 0; bound = counted_arcs arcs + 1 }
  base trail (suc j) = after (step_at trail j)

  -- the step of a run that went by b
  pub record Follows (b : Base) (x : Step) : Type 0 where
    pub limit_is : x.limit ≡ b.limit
    pub fewer : x.size < W → counted_across (side_of x) arcs < b.bound

  -- the step of a run that another one comes after
  pub record GoesOn (nodes : ℕ) (x : Step) : Type 0 where
    pub short : ShortStep nodes W arcs x
    pub counted : 0 < counted_across (side_of x) arcs

-- the search has made so many runs, and the next has this limit
pub record Going (nodes W : ℕ) (arcs : List Arc) (before trail : List Step) (limit runs : ℕ) : Type 0 where
  pub few : runs ≤ counted_arcs arcs
  pub room : counted_arcs arcs < length trail
  pub within : limit ≤ W
  pub limit_is : limit ≡ (base W arcs trail runs).limit
  pub follows : (j : ℕ) → j < runs → Follows W arcs (base W arcs trail j) (step_at trail j)
  pub goes_on : (j : ℕ) → j < runs → GoesOn W arcs nodes (step_at trail j)
  pub bounded : (base W arcs trail runs).bound + runs ≤ counted_arcs arcs + 1
  -- of a side that the next run can fall short at
  pub fewer : (s : ℕ) → IsSide nodes (inside s) → side_capacity (inside s) limit arcs < W → counted_across (inside s) arcs < (base W arcs trail runs).bound
  pub least : (L : ℕ) → L < limit → Admits nodes W arcs L → ⊥
  pub rest : Untouched before trail runs

pub start : (nodes W : ℕ) (arcs : List Arc) (before : List Step) → counted_arcs arcs < length before → Going nodes W arcs before before 0 0
start nodes W arcs before room =
    record {
      few = omega arith;
      room = room;
      within = omega arith;
      limit_is = refl;
      follows = λ j l. absurd (omega arith);
      goes_on = λ j l. absurd (omega arith);
      bounded = omega arith;
      fewer = λ s i l. omega (arith, sum_le (λ i. only (crosses (inside s) (arc_at arcs i)) (counted_of (arc_at arcs i).capacity)) (λ i. counted_of (arc_at arcs i).capacity) (length arcs) (λ i h. grind arith));
      least = λ L l. absurd (omega arith);
      rest = λ k l. refl;
    }

-- one step more on the trail, of the run that is due
module _ {nodes W : ℕ} {arcs : List Arc} {before trail : List Step} {limit runs : ℕ} (go : Going nodes W arcs before trail limit runs) (x : Step) (limit_is : x.limit ≡ limit) where
  abbrev longer : List Step
  longer = set trail runs x

  read : step_at longer runs ≡ x
  read = get_or-set_same trail runs x no_step (omega (arith, go.few, go.room))

  kept : (j : ℕ) → j < runs → step_at longer j ≡ step_at trail j
  kept j l = get_or-set_other trail runs j x no_step (omega arith)

  base_kept : (j : ℕ) → j ≤ runs → base W arcs longer j ≡ base W arcs trail j
  base_kept zero l = refl
  base_kept (suc j) l = ap (after W arcs) (kept j (omega arith))

  goes_on_kept : (j : ℕ) → j < runs → GoesOn W arcs nodes (step_at longer j)
  goes_on_kept j l = rw (kept j l) (go.goes_on j l)

  pub rest_kept : Untouched before longer (runs + 1)
  rest_kept k l = get_or-set_other trail runs k x no_step (omega arith) ∙ go.rest k (omega arith)

  module _ (fewer : x.size < W → counted_across (side_of x) arcs < (base W arcs trail runs).bound) where
    follows_more : (j : ℕ) → j < runs + 1 → Follows W arcs (base W arcs longer j) (step_at longer j)
    follows_more =
        below_more (λ j. Follows W arcs (base W arcs longer j) (step_at longer j)) runs
        (λ j l. rw (base_kept j (omega arith), kept j l) (go.follows j l))
        (rw (base_kept runs (omega arith), read) (record { limit_is = limit_is ∙ go.limit_is; fewer = fewer }))

    shows : ShowsRuns nodes W arcs longer (runs + 1)
    shows =
        record {
          some = omega arith;
          steps = omega (arith, go.few, go.room, length-set trail runs x);
          first = (follows_more 0 (omega arith)).limit_is;
          next = λ j l. rw add-one (follows_more (suc j) (omega arith)).limit_is;
          short = λ j l. (goes_on_kept j (omega arith)).short;
          counted = λ j l. (goes_on_kept j (omega arith)).counted;
          fewer = λ j l. rw add-one (follows_more (suc j) (omega arith)).fewer;
        }

  -- the run reached the wanted size
  pub planned : (flow : List ℕ) → x.size ≡ W → x.side ≡ record { bits = 0 } → Reaches nodes limit W arcs flow → PlannedBy nodes W arcs longer flow x.limit (runs + 1)
  planned flow full none r =
      record {
        shows = shows (λ l. absurd (omega arith));
        few = omega (arith, go.few);
        last = rw add-sub_cancel (read ∙ ap₂ (λ (n : ℕ) (s : Side). record { limit = x.limit; size = n; side = s }) full none);
        reaches = rw limit_is r;
        least = λ L l. go.least L (omega arith);
      }

  -- the run fell short
  module _ (flow : List ℕ) (o : FromSource arcs) (f : FallsShort nodes limit W x.side.bits arcs flow) (size_is : x.size ≡ side_capacity (side_of x) limit arcs) where
    below : side_capacity (side_of x) limit arcs < W
    below = omega (arith, f.tight, f.smaller)

    fewer_here : counted_across (side_of x) arcs < (base W arcs trail runs).bound
    fewer_here = go.fewer x.side.bits f.is_side below

    here : ShortStep nodes W arcs x
    here = record { is_side = f.is_side; below = omega (arith, below); tight = rw limit_is size_is }

    pub short : (cut : Cut) → cut.side ≡ x.side → cut.fixed ≡ fixed_across (side_of x) arcs → cut.counted ≡ counted_across (side_of x) arcs → cut.counted ≡ 0 → ShortBy nodes W arcs longer flow x.limit cut (runs + 1)
    short cut side fixed counted none =
        record {
          shows = shows (λ l. fewer_here);
          few = omega (arith, go.few);
          last = rw (add-sub_cancel, read) here;
          limit_is = rw (add-sub_cancel, read);
          side_is = rw (add-sub_cancel, read) (sym side);
          falls = rw (limit_is, side) f;
          fixed_is = rw side fixed;
          counted_is = rw side counted;
          none = none;
          never = no_limit nodes W arcs (side_of x) o f.is_side (omega arith) (omega (arith, linear (side_of x) limit arcs, below));
        }

    pub next : {lim : ℕ} → 0 < counted_across (side_of x) arcs → lim ≡ next_limit (side_of x) W arcs → Going nodes W arcs before longer lim (runs + 1)
    next some e =
        let raised = next_limit_lem nodes limit W arcs (side_of x) o f.is_side some below in
        let now : base W arcs longer (runs + 1) ≡ after W arcs x = rw add-one (ap (after W arcs) read) in
        record {
          few = omega (arith, go.bounded, fewer_here);
          room = omega (arith, go.room, length-set trail runs x);
          within = omega arith;
          limit_is = rw now e;
          follows = follows_more (λ l. fewer_here);
          goes_on = below_more (λ j. GoesOn W arcs nodes (step_at longer j)) runs goes_on_kept (rw read (record { short = here; counted = some }));
          bounded = rw now (omega (arith, go.bounded, fewer_here));
          fewer = rw (now, e) (λ s is_side l. fewer_counted nodes limit W arcs flow (side_of x) (inside s) o f.is_flow f.is_side is_side f.tight below some l);
          least = rw e raised.least;
          rest = rest_kept;
        }
