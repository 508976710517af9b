-- What one arc of a walk back from node 1 leaves.
use Rattle.std.proofs.Common.{◌≡◌, ℕ, ◌+◌, ◌-◌, ◌^◌, ◌<◌, ◌≤◌, true, cond, eqb, ◌≢◌, ◌⊎◌, List, [], length, get_or, set, sym, refl, ap, ◌∙◌, subst, inl, inr, arith, length-set, get_or-set_other}
use Rattle.std.proofs.lemmas.Bool.{cases_eq}
use Rattle.std.proofs.lemmas.List.Elements.{All-nil}
use Rattle.std.proofs.lemmas.Bool.Decides.{nat_tests}
use Rattle.flows.specs.declared.Arc.{Arc}
use Rattle.flows.specs.Sums.{only}
use Rattle.flows.specs.Flows.{arc_at, EachArc, capacity_under, inflow, outflow}
use Rattle.flows.proofs.Sums.{sum_none}
use Rattle.network.specs.Runs.{ZeroAfter}
use Rattle.network.proofs.Facts.{at_most, from_source}
use Rattle.path_engine.specs.declared.steps.LimitedNet.{LimitedNet}
use Rattle.path_engine.specs.declared.search.Search.{Search}
use Rattle.path_engine.specs.Residual.{end_at, changed}
use Rattle.path_engine.specs.Searches.{arcs_in, residual_in, has, depth_at, room_at, Led, Tree, Carries, Grown, passed}
use Rattle.path_engine.proofs.Arcs.{small_at, other, ways}
use Rattle.flows.proofs.Places.{sum_more, sum_less, each_set}
use Rattle.path_engine.proofs.Places.{unchanged, changed_set}

module _ (N : LimitedNet) (x : List ℕ) (s : Search) where
  abbrev L : ℕ
  L = N.limit.value

  abbrev arcs : List Arc
  arcs = arcs_in N

  -- the arc k led the search from u to v
  abbrev pub Came : ℕ → ℕ → ℕ → Type 0
  Came v k u = Led N x (has s) (depth_at s) (room_at s) v k u

  -- arcs that lead to nodes of other depths are other arcs
  others : (v w k j u t : ℕ) → Came v k u → Came w j t → depth_at s w ≤ depth_at s u → j ≢ k
  others v w k j u t d e le same =
      elim (cases_eq w v) [
        | inl q ↦ omega (arith, d.deeper, ap (depth_at s) q)
        | inr ne ↦
            let o = other (arc_at arcs k) v w u t d.there d.back (subst (λ (i : ℕ). end_at arcs i w ≡ t) same e.there) (subst (λ (i : ℕ). end_at arcs i t ≡ w) same e.back) ne in
            omega (arith, d.deeper, e.deeper, ap (depth_at s) o.0, ap (depth_at s) o.1)
      ]

  -- the arc that a node was reached by, as the code reads it
  led_as : (v : ℕ) → Tree N x s [] → has s v ≡ true → v ≢ 0 → Came v (get_or s.came v 0) (end_at arcs (get_or s.came v 0) v)
  led_as v t h nz =
      let d = t.led v h nz in
      let e = subst (λ (k : ℕ). Came v k d.1.0) (sym (d.2 (All-nil _))) d.1.1 in
      subst (λ (u : ℕ). Came v (get_or s.came v 0) u) (sym e.there) e

  -- y is x with m more from v to node 1, by the arcs that lie deeper than v
  pub record Walk (m : ℕ) (y : List ℕ) (v : ℕ) : Type 0 where
    pub long : length y ≡ 256
    pub fits : EachArc (λ a f. f ≤ capacity_under L a) arcs y
    pub rest : ZeroAfter arcs y
    pub here : has s v ≡ true
    pub some : 0 < m
    pub room : m ≤ room_at s v
    pub level : (n : ℕ) → inflow n arcs y + outflow n arcs x + only (eqb v n) m ≡ inflow n arcs x + outflow n arcs y + only (eqb 1 n) m
    pub spent : changed x y (length arcs) + depth_at s v ≡ depth_at s 1
    pub fresh : (w k u : ℕ) → Came w k u → depth_at s w ≤ depth_at s v → get_or y k 0 ≡ get_or x k 0

  pub starts : Carries N x → Tree N x s [] → has s 1 ≡ true → Walk (room_at s 1) x 1
  starts f t h =
      record {
        long = f.long;
        fits = f.is_flow.fits;
        rest = f.rest;
        here = h;
        some = t.some 1 h;
        room = omega arith;
        level = λ n. omega arith;
        spent = omega (arith, unchanged x (length arcs));
        fresh = λ w k u d l. refl;
      }

  -- one arc back: what is passed along k to v comes from u
  module _ (m : ℕ) (y : List ℕ) (v : ℕ) (t : Tree N x s []) (i : Walk m y v) (apart : v ≢ 0) where
    abbrev k : ℕ
    k = get_or s.came v 0

    abbrev u : ℕ
    u = end_at arcs k v

    d : Came v k u
    d = led_as v t i.here apart

    same_there : get_or y k 0 ≡ get_or x k 0
    same_there = i.fresh v k u d (omega arith)

    in_list : k < length y
    in_list = omega (arith, i.long, at_most N.net.now arcs refl, d.inside)

    way : (((arc_at arcs k).tail ≡ v) × ((arc_at arcs k).head ≡ u) × (residual_in N x k u ≡ get_or x k 0)) ⊎ (((arc_at arcs k).tail ≢ v) × ((arc_at arcs k).tail ≡ u) × ((arc_at arcs k).head ≡ v) × (residual_in N x k u ≡ capacity_under L (arc_at arcs k) - get_or x k 0))
    way = ways L (arc_at arcs k) (get_or x k 0) u v (λ e. absurd (omega (arith, d.deeper, ap (depth_at s) e))) d.there d.back

    pub can_take : (arc_at arcs k).tail ≡ v → m ≤ get_or y k 0
    can_take e = elim way [ inl w ↦ omega (arith, same_there, w.2, i.room, d.narrow) | inr w ↦ absurd (w.0 e) ]

    fits_up : (arc_at arcs k).tail ≢ v → get_or y k 0 + m ≤ capacity_under L (arc_at arcs k)
    fits_up ne = elim way [ inl w ↦ absurd (ne w.0) | inr w ↦ omega (arith, same_there, w.3, i.room, d.narrow, i.fits k d.inside) ]

    pub can_send : (arc_at arcs k).tail ≢ v → get_or y k 0 + m < 2 ^ 32
    can_send ne = omega (arith, fits_up ne, small_at N.net.now k d.inside L N.limit.small)

    -- a new number at k
    walk_set : (b : ℕ) → b ≤ capacity_under L (arc_at arcs k) → b ≢ get_or x k 0
        → ((n : ℕ) → inflow n arcs (set y k b) + outflow n arcs x + only (eqb u n) m ≡ inflow n arcs x + outflow n arcs (set y k b) + only (eqb 1 n) m) → Walk m (set y k b) u
    walk_set b le new level =
        record {
          long = length-set y k b ∙ i.long;
          fits = each_set arcs y k b d.inside in_list (λ a f. f ≤ capacity_under L a) i.fits le;
          rest = λ j l. let ne : j ≢ k = omega (arith, d.inside) in rw get_or-set_other (i.rest j l);
          here = d.from;
          some = i.some;
          room = omega (arith, i.room, d.narrow);
          level = level;
          spent = omega (arith, changed_set x y k b (length arcs) d.inside in_list same_there new, i.spent, d.deeper);
          fresh = λ w j t e l. let ne = others v w k j u t d e l in rw get_or-set_other (i.fresh w j t e (omega (arith, d.deeper)));
        }

    pub walked : Walk m (passed (arc_at arcs k) y k v m) u
    walked =
        let a = arc_at arcs k in
        let f = get_or y k 0 in
        let at : (p q : ℕ) → p ≡ q → (n : ℕ) → only (eqb p n) m ≡ only (eqb q n) m = λ p q e n. ap (λ (r : ℕ). only (eqb r n) m) e in
        elim way [
          | inl w ↦
              let less : f ≡ f - m + m = omega (arith, can_take w.0) in
              let sum = sum_less arcs y k (f - m) d.inside in_list m less in
              let b : cond (eqb a.tail v) (f - m) (f + m) ≡ f - m = let e = w.0 in grind (arith, nat_tests) in
              rw b (walk_set (f - m) (omega (arith, i.fits k d.inside)) (λ e. absurd (omega (arith, e, same_there, i.some, less)))
              (λ n. omega (arith, i.level n, sum (λ c. eqb c.head n), sum (λ c. eqb c.tail n), at _ _ w.1 n, at _ _ w.0 n)))
          | inr w ↦
              let sum = sum_more arcs y k (f + m) d.inside in_list m refl in
              let b : cond (eqb a.tail v) (f - m) (f + m) ≡ f + m = let e = w.0 in grind (arith, nat_tests) in
              rw b (walk_set (f + m) (fits_up w.0) (λ e. absurd (omega (arith, e, same_there, i.some)))
              (λ n. omega (arith, i.level n, sum (λ c. eqb c.head n), sum (λ c. eqb c.tail n), at _ _ w.2 n, at _ _ w.1 n)))
        ]

  -- node 0 is reached
  module _ (m : ℕ) (y : List ℕ) (v : ℕ) (e : v ≡ 0) (i : Walk m y v) where
    pub arrived : Carries N x → Grown N x y m
    arrived f =
        let none : (z : List ℕ) → inflow 0 arcs z ≡ 0 = λ z. sum_none _ (length arcs) (λ k h. let p = from_source N.net.now k h in grind (arith, nat_tests)) in
        let level : (n : ℕ) → inflow n arcs y + outflow n arcs x + only (eqb 0 n) m ≡ inflow n arcs x + outflow n arcs y + only (eqb 1 n) m = rw e at i.level in
        let apart : (n : ℕ) → 1 < n → (only (eqb 0 n) m ≡ 0) × (only (eqb 1 n) m ≡ 0) = λ n h. (grind (arith, nat_tests), grind (arith, nat_tests)) in
        record {
          carries = record {
            long = i.long;
            is_flow = record { fits = i.fits; kept = λ n two n-in. omega (arith, level n, f.is_flow.kept n two n-in, (apart n two).0, (apart n two).1) };
            rest = i.rest;
          };
          more = omega (arith, level 0, none x, none y);
        }
