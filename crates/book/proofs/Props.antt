-- What an outcome promises has one proof at most, so that it comes out of its truncation.
use Rattle.std.proofs.Common.{◌≡◌, ℕ, suc, List, Some, None, Option, refl, ap, arith}
use base.Stored.{Coded, coded_via, coded_ℕ}
use mathlib.Core.Logic.{∥∥₁_elim}
use denote.Struct.Props.{props}
use Rattle.flows.specs.declared.Arc.{Arc}
use Rattle.flows.specs.Flows.{IsSide}
use Rattle.network.specs.declared.sides.Cut.{Cut}
use Rattle.limit_search.specs.declared.Step.{Step}
use Rattle.limit_search.specs.Trails.{ShortStep, ShowsRuns, side_of}
use Rattle.sheets.specs.declared.NozzleState.{NozzleState}
use Rattle.records.specs.declared.TypeRecord.{TypeRecord}
use Rattle.sheets.specs.Sheets.{IsSheet, Within}
use Rattle.book.specs.Keeps.{TrailKept, PlannedKept, ShortKept}

-- two optional numbers are equal in at most one way
number : Option ℕ → ℕ
number None = 0
number (Some n) = suc n

number_inj : (x y : Option ℕ) → number x ≡ number y → x ≡ y
unfolding number
number_inj None None e = refl
number_inj None (Some n) e = absurd (omega arith)
number_inj (Some m) None e = absurd (omega arith)
number_inj (Some m) (Some n) e = ap Some (omega arith)

coded_option : Coded (Option ℕ)
coded_option = coded_via coded_ℕ number number_inj

same : {X : Type 0} (x y : X) → IsProp X → x ≡ y
same x y one = one x y

within_prop : (l : Option ℕ) (n : ℕ) → IsProp (Within l n)
within_prop None n = hlevel props
within_prop (Some m) n = hlevel props

sheet_prop : (types : List TypeRecord) (nozzles : List NozzleState) (rows : List (List ℕ)) → IsProp (IsSheet types nozzles rows)
sheet_prop types nozzles rows p q =
    λ i. record {
      wide = same p.wide q.wide (hlevel props) i;
      known = λ r j t h l e. same (p.known r j t h l e) (q.known r j t h l e) (hlevel props) i;
      serving = λ r j t h l e. same (p.serving r j t h l e) (q.serving r j t h l e) (hlevel props) i;
      member = λ r j t h l e. same (p.member r j t h l e) (q.member r j t h l e) (hlevel props) i;
      whole = λ t h. same (p.whole t h) (q.whole t h) (search (props, coded_option)) i;
      limited = λ t j h l. within_prop _ _ (p.limited t j h l) (q.limited t j h l) i;
    }

side_prop : (nodes : ℕ) (x : Step) → IsProp (IsSide nodes (side_of x))
side_prop nodes x p q =
    λ i. record { source = same p.source q.source (hlevel props) i; sink = same p.sink q.sink (hlevel props) i; below = same p.below q.below (hlevel props) i }

step_prop : (nodes W : ℕ) (arcs : List Arc) (x : Step) → IsProp (ShortStep nodes W arcs x)
step_prop nodes W arcs x p q =
    λ i. record { is_side = side_prop nodes x p.is_side q.is_side i; below = same p.below q.below (hlevel props) i; tight = same p.tight q.tight (hlevel props) i }

shows_prop : (nodes W : ℕ) (arcs : List Arc) (steps : List Step) (runs : ℕ) → IsProp (ShowsRuns nodes W arcs steps runs)
shows_prop nodes W arcs steps runs p q =
    λ i. record {
      some = same p.some q.some (hlevel props) i;
      steps = same p.steps q.steps (hlevel props) i;
      first = same p.first q.first (hlevel props) i;
      next = same p.next q.next (hlevel props) i;
      short = λ j h. step_prop nodes W arcs _ (p.short j h) (q.short j h) i;
      counted = same p.counted q.counted (hlevel props) i;
      fewer = same p.fewer q.fewer (hlevel props) i;
    }

trail_prop : (types : List TypeRecord) (nozzles : List NozzleState) (steps : List Step) (runs : ℕ) → IsProp (TrailKept types nozzles steps runs)
trail_prop types nozzles steps runs p q =
    λ i. record {
      count = same p.count q.count (hlevel props) i;
      shows = shows_prop _ _ _ steps runs p.shows q.shows i;
      few = same p.few q.few (hlevel props) i;
      fewer = same p.fewer q.fewer (hlevel props) i;
    }

planned_prop : (types : List TypeRecord) (nozzles : List NozzleState) (rows : List (List ℕ)) (steps : List Step) (cost runs : ℕ) → IsProp (PlannedKept types nozzles rows steps cost runs)
planned_prop types nozzles rows steps cost runs p q =
    λ i. record {
      complete = same p.complete q.complete (hlevel props) i;
      sheet = sheet_prop types nozzles rows p.sheet q.sheet i;
      long = same p.long q.long (hlevel props) i;
      fewest = same p.fewest q.fewest (hlevel props) i;
      trail = trail_prop types nozzles steps runs p.trail q.trail i;
      last_limit = same p.last_limit q.last_limit (hlevel props) i;
      last_size = same p.last_size q.last_size (hlevel props) i;
      last_side = same p.last_side q.last_side (hlevel props) i;
    }

short_prop : (types : List TypeRecord) (nozzles : List NozzleState) (steps : List Step) (runs : ℕ) (cut : Cut) → IsProp (ShortKept types nozzles steps runs cut)
short_prop types nozzles steps runs cut p q =
    λ i. record {
      complete = same p.complete q.complete (hlevel props) i;
      none = same p.none q.none (hlevel props) i;
      trail = trail_prop types nozzles steps runs p.trail q.trail i;
      last = step_prop _ _ _ _ p.last q.last i;
      side_is = same p.side_is q.side_is (hlevel props) i;
      uncrossed = same p.uncrossed q.uncrossed (hlevel props) i;
      fixed_is = same p.fixed_is q.fixed_is (hlevel props) i;
      counted_is = same p.counted_is q.counted_is (hlevel props) i;
    }

pub planned_out : (types : List TypeRecord) (nozzles : List NozzleState) (rows : List (List ℕ)) (steps : List Step) (cost runs : ℕ) → ∥ PlannedKept types nozzles rows steps cost runs ∥₁ → PlannedKept types nozzles rows steps cost runs
planned_out types nozzles rows steps cost runs p = ∥∥₁_elim p (planned_prop types nozzles rows steps cost runs) (λ k. k)

pub short_out : (types : List TypeRecord) (nozzles : List NozzleState) (steps : List Step) (runs : ℕ) (cut : Cut) → ∥ ShortKept types nozzles steps runs cut ∥₁ → ShortKept types nozzles steps runs cut
short_out types nozzles steps runs cut p = ∥∥₁_elim p (short_prop types nozzles steps runs cut) (λ k. k)
