-- What each step of a search leaves.
use Rattle.std.proofs.Common.{◌≡◌, ℕ, zero, suc, ◌+◌, ◌<◌, ◌≤◌, min, true, false, ◌≢◌, ◌⊎◌, List, [], ◌∷◌, ◌++◌, length, get_or, slice_index_or, replicate, sym, refl, ap, ◌∙◌, subst, inl, inr, Some, arith, length-set, get_or-set_other, get_or-set_same}
use Rattle.std.specs.List.{All}
use Rattle.std.proofs.lemmas.List.{length_push}
use Rattle.std.proofs.lemmas.List.Elements.{All-cons, All-head, All-nil, All-pop, All-push, All-tail, All-weaker}
use Rattle.std.proofs.lemmas.Bool.{cases_eq, cases_lt, both_ways}
use Rattle.flows.specs.declared.Arc.{Arc}
use Rattle.flows.specs.Flows.{arc_at}
use Rattle.line.specs.declared.node.Visit.{Visit}
use Rattle.path_engine.specs.declared.steps.LimitedNet.{LimitedNet}
use Rattle.path_engine.specs.declared.steps.Step.{Step}
use Rattle.path_engine.specs.declared.search.Goal.{Goal}
use Rattle.path_engine.specs.declared.search.Goal.TheVariants.{Sink}
use Rattle.path_engine.specs.declared.search.Label.{Label}
use Rattle.path_engine.specs.declared.search.Search.{Search}
use Rattle.path_engine.specs.Residual.{end_at, Route}
use Rattle.path_engine.specs.Searches.{arcs_in, residual_in, no_label, has, label_at, depth_at, room_at, outside, effort, LedTo, Tree, Beside, Near, Waits, Rising, Met, Turn, Searched, begun, discovered, noted}
use Rattle.path_engine.proofs.Sides.{alone, outside_alone, inserted_cases, inserted_new, inserted_kept, outside_less}
use Rattle.path_engine.proofs.Arcs.{end_few, back_again}

-- lists of visits
all_both : {X : Type 0} (P Q S : X → Type 0) → ((e : X) → P e → Q e → S e) → (w : List X) → All P w → All Q w → All S w
all_both P Q S f w p q = λ k d lt. f _ (p k d lt) (q k d lt)

all_split : {X : Type 0} (P : X → Type 0) (w : List X) (e : X) → All P (w ++ e ∷ []) → All P w × P e
all_split P w e h = All-pop P (w ++ e ∷ []) w (Some e) refl h

rising_as : (d d' : ℕ → ℕ) (w : List Visit) → All (λ e. d' e.node ≡ d e.node) w → Rising d w → Rising d' w
rising_as d d' [] same r = tt
rising_as d d' (e ∷ w) same r =
    let first = All-head (λ f. d' f.node ≡ d f.node) e w same in
    let rest = All-tail (λ f. d' f.node ≡ d f.node) e w same in
    (all_both (λ f. d' f.node ≡ d f.node) (λ f. d e.node ≤ d f.node) (λ f. d' e.node ≤ d' f.node) (λ f p le. omega (arith, p, le, first)) w rest r.0, rising_as d d' w rest r.1)

rising_push : (d : ℕ → ℕ) (w : List Visit) (e : Visit) → Rising d w → All (λ f. d f.node ≤ d e.node) w → Rising d (w ++ e ∷ [])
rising_push d [] e r le = (All-nil _, tt)
rising_push d (f ∷ w) e r le =
    (All-push (λ g. d f.node ≤ d g.node) w e r.0 (All-head (λ g. d g.node ≤ d e.node) f w le), rising_push d w e r.1 (All-tail (λ g. d g.node ≤ d e.node) f w le))

-- at first every depth is 0
unlabeled : (n v : ℕ) → slice_index_or (replicate n no_label) v no_label ≡ no_label
unlabeled zero v = refl
unlabeled (suc n) zero = refl
unlabeled (suc n) (suc v) = unlabeled n v

flat : (most v : ℕ) → depth_at (begun most) v ≡ 0
flat most zero = refl
flat most (suc v) = ap (λ (l : Label). l.depth) (unlabeled 63 v)

module _ (N : LimitedNet) (x : List ℕ) where
  abbrev arcs : List Arc
  arcs = arcs_in N

  -- node 0 waits
  begins : (most : ℕ) (aim : Goal) → 0 < most → Met N x aim (begun most) (record { node = 0; arc = 0 } ∷ [])
  begins most aim some =
      let o = outside_alone 63 in
      let start : Visit = record { node = 0; arc = 0 } in
      record {
        tree = record {
          came_long = refl;
          labels_long = refl;
          below = λ v h. omega (arith, alone v h);
          source = refl;
          root = refl;
          some = λ v h. let e = alone v h in rw e some;
          most = λ v h. let e = alone v h in rw e (omega arith);
          low = λ v h. omega (arith, flat most v, o);
          led = λ v h nz. absurd (nz (alone v h));
        };
        waits = All-cons (Waits N x (begun most)) start [] (refl, λ nz. absurd (nz refl)) (All-nil (Waits N x (begun most)));
        followed = λ k u l h sp none far. absurd (All-head (λ e. e.node ≢ u) start [] none (sym (alone u h)));
        once = omega (arith, o);
        rising = (All-nil (λ f. depth_at (begun most) 0 ≤ depth_at (begun most) f.node), tt);
        near = let near0 : Near (begun most) 0 = λ v h. omega (arith, flat most v) in All-cons (λ e. Near (begun most) e.node) start [] near0 (All-nil (λ e. Near (begun most) e.node));
      }

  -- the first visit leaves the line, and its arc is written down
  module _ (aim : Goal) (s : Search) (line : List Visit) (e : Visit) (w : List Visit) (first : line ≡ e ∷ w) (before : Met N x aim s line) where
    m : Met N x aim s (e ∷ w)
    m = subst (Met N x aim s) first before

    here : Waits N x s e
    here = All-head (Waits N x s) e w m.waits

    pub first_in : e.node < 64
    first_in = m.tree.below e.node here.0

    tree_noted : Tree N x (noted s e) w
    tree_noted =
        let t = m.tree in
        let there : e.node < length s.came = omega (arith, first_in, t.came_long) in
        record {
          came_long = length-set s.came e.node e.arc ∙ t.came_long;
          labels_long = t.labels_long;
          below = t.below;
          source = t.source;
          root = t.root;
          some = t.some;
          most = t.most;
          low = t.low;
          led = λ v h nz. elim (cases_eq v e.node) [
            | inl q ↦ rw q (e.arc, here.1 (λ z. nz (q ∙ z)), λ none. rw get_or-set_same)
            | inr ne ↦ let d = t.led v h nz in (d.0, d.1, λ none. rw get_or-set_other (d.2 (All-cons (λ f. f.node ≢ v) e w (λ q. ne (sym q)) none)))
          ];
        }

    -- to be expanded
    pub called : (aim ≡ Sink → has s 1 ≡ true → ⊥) → Turn N x (noted s e) w e.node 0
    called on =
        record {
          tree = tree_noted;
          here = here.0;
          waits = All-tail (Waits N x s) e w m.waits;
          followed = λ k u l h sp none early. elim (cases_eq e.node u) [
            | inl q ↦ absurd (omega (arith, early (sym q)))
            | inr ne ↦ m.followed k u l h sp (All-cons (λ f. f.node ≢ u) e w ne none) (λ y z. absurd (on y z))
          ];
          once = omega (arith, m.once);
          rising = m.rising.1;
          later = m.rising.0;
          near = All-head (λ f. Near s f.node) e w m.near;
        }

    -- or not, since node 1 was reached
    pub stopped : aim ≡ Sink → has s 1 ≡ true → Met N x aim (noted s e) w
    stopped y z =
        record {
          tree = tree_noted;
          waits = All-tail (Waits N x s) e w m.waits;
          followed = λ k u l h sp none far. elim (cases_eq e.node u) [
            | inl q ↦ absurd (omega (arith, far y z, All-head (λ f. Near s f.node) e w m.near 1 z, ap (depth_at s) q))
            | inr ne ↦ m.followed k u l h sp (All-cons (λ f. f.node ≢ u) e w ne none) far
          ];
          once = omega (arith, m.once);
          rising = m.rising.1;
          near = All-tail (λ f. Near s f.node) e w m.near;
        }

  -- the arc j leads nowhere new
  pub skipped : (s : Search) (w : List Visit) (n j : ℕ) → Turn N x s w n j → (0 < residual_in N x j n → has s (end_at arcs j n) ≡ true) → Turn N x s w n (j + 1)
  skipped s w n j t met =
      record {
        tree = t.tree;
        here = t.here;
        waits = t.waits;
        followed = λ k u l h sp none early. elim (cases_eq k j) [
          | inl e ↦ elim (cases_eq u n) [
            | inl f ↦ subst (λ (i : ℕ). 0 < residual_in N x i u → Beside s u (end_at arcs i u)) (sym e) (subst (λ (y : ℕ). 0 < residual_in N x j y → Beside s y (end_at arcs j y)) (sym f) (λ q. (met q, t.near _ (met q)))) sp
            | inr ne ↦ t.followed k u l h sp none (λ f. absurd (ne f))
          ]
          | inr ne ↦ t.followed k u l h sp none (λ f. omega (arith, early f, ne))
        ];
        once = t.once;
        rising = t.rising;
        later = t.later;
        near = t.near;
      }

  -- every arc was followed
  pub ended : (aim : Goal) (s : Search) (w : List Visit) (n : ℕ) → Turn N x s w n (length arcs) → Met N x aim s w
  ended aim s w n t =
      record {
        tree = t.tree;
        waits = t.waits;
        followed = λ k u l h sp none far. t.followed k u l h sp none (λ _. l);
        once = omega (arith, t.once);
        rising = t.rising;
        near = All-weaker (λ e. depth_at s n ≤ depth_at s e.node) (λ e. Near s e.node) (λ e le v r. omega (arith, t.near v r)) w t.later;
      }

  -- the far end h of the arc j is reached, and waits
  module _ (s : Search) (w : List Visit) (n j : ℕ) (t : Turn N x s w n j) (l : j < length arcs)
      (sp : 0 < residual_in N x j n) (out : has s (end_at arcs j n) ≡ false) where
    h : ℕ
    h = end_at arcs j n

    after : Search
    after = discovered s n record { to = end_at arcs j n; residual = residual_in N x j n }

    visit : Visit
    visit = record { node = end_at arcs j n; arc = j }

    h_in : h < 64
    unfolding h
    h_in = end_few N.net.now j l n

    old : (v : ℕ) → has s v ≡ true → v ≢ h
    unfolding h
    old v r e = both_ways _ out (subst (λ (u : ℕ). has s u ≡ true) e r)

    same_label : (v : ℕ) → v ≢ h → label_at after v ≡ label_at s v
    unfolding h after
    same_label v ne = get_or-set_other s.labels (end_at arcs j n) v _ _ ne

    same_depth : (v : ℕ) → v ≢ h → depth_at after v ≡ depth_at s v
    same_depth v ne = ap (λ (l : Label). l.depth) (same_label v ne)

    same_room : (v : ℕ) → v ≢ h → room_at after v ≡ room_at s v
    same_room v ne = ap (λ (l : Label). l.room) (same_label v ne)

    new_label : label_at after h ≡ record { depth = depth_at s n + 1; room = min (residual_in N x j n) (room_at s n) }
    unfolding h after
    new_label = let lt : end_at arcs j n < length s.labels = omega (arith, h_in, t.tree.labels_long) in rw get_or-set_same

    new_depth : depth_at after h ≡ depth_at s n + 1
    new_depth = ap (λ (l : Label). l.depth) new_label

    new_room : room_at after h ≡ min (residual_in N x j n) (room_at s n)
    new_room = ap (λ (l : Label). l.room) new_label

    kept : (v : ℕ) → has s v ≡ true → has after v ≡ true
    unfolding after
    kept v r = inserted_kept s.reached.bits (end_at arcs j n) v r

    new : has after h ≡ true
    unfolding h after
    new = inserted_new s.reached.bits (end_at arcs j n)

    which : (v : ℕ) → has after v ≡ true → (v ≡ h) ⊎ ((v ≢ h) × (has s v ≡ true))
    unfolding h after
    which v r = inserted_cases s.reached.bits (end_at arcs j n) v r

    fewer : outside (has after) 64 < outside (has s) 64
    unfolding h after
    fewer = outside_less s.reached.bits (end_at arcs j n) 64 h_in out

    dn : depth_at after n ≡ depth_at s n
    dn = same_depth n (old n t.here)

    led_new : LedTo N x after h j
    unfolding h
    led_new = (
      n,
      record {
        inside = l;
        there = back_again N.limit.value (arc_at arcs j) (get_or x j 0) n sp;
        back = refl;
        from = kept n t.here;
        deeper = omega (arith, new_depth, dn);
        narrow = omega (arith, new_room, same_room n (old n t.here));
      },
    )

    led_old : (v k : ℕ) → v ≢ h → LedTo N x s v k → LedTo N x after v k
    led_old v k ne (u, d) =
        let ne' = old u d.from in (
          u,
          record {
            inside = d.inside;
            there = d.there;
            back = d.back;
            from = kept u d.from;
            deeper = omega (arith, same_depth v ne, same_depth u ne', d.deeper);
            narrow = omega (arith, same_room v ne, same_room u ne', d.narrow);
          },
        )

    came_kept : after.came ≡ s.came
    unfolding after
    came_kept = refl

    labels_kept : length after.labels ≡ length s.labels
    unfolding after
    labels_kept = length-set s.labels (end_at arcs j n) _

    visit_node : visit.node ≡ h
    unfolding h visit
    visit_node = refl

    visit_led : LedTo N x after visit.node visit.arc
    unfolding h visit
    visit_led = led_new

    still : (u v : ℕ) → has s u ≡ true → Beside s u v → Beside after u v
    still u v r b = (kept v b.0, omega (arith, same_depth u (old u r), same_depth v (old v b.0), b.1))

    at_new : (k u : ℕ) → k ≡ j → u ≡ n → Beside after u (end_at arcs k u)
    unfolding h
    at_new k u e f =
        subst (λ (i : ℕ). Beside after u (end_at arcs i u)) (sym e) (subst (λ (y : ℕ). Beside after y (end_at arcs j y)) (sym f) (new, omega (arith, new_depth, dn)))

    zero_room : room_at after 0 ≡ room_at s 0
    zero_room = same_room 0 (old 0 t.tree.source)

    tree : Tree N x after (w ++ visit ∷ [])
    tree =
        let o = t.tree in
        let ne0 = old 0 o.source in
        record {
          came_long = ap length came_kept ∙ o.came_long;
          labels_long = labels_kept ∙ o.labels_long;
          below = λ v r. elim (which v r) [ inl e ↦ omega (arith, h_in) | inr (ne, q) ↦ o.below v q ];
          source = kept 0 o.source;
          root = same_depth 0 ne0 ∙ o.root;
          some = λ v r. elim (which v r) [ inl e ↦ rw e (omega (arith, new_room, o.some n t.here)) | inr (ne, q) ↦ omega (arith, same_room v ne, o.some v q) ];
          most = λ v r. elim (which v r) [ inl e ↦ rw e (omega (arith, new_room, zero_room, o.most n t.here)) | inr (ne, q) ↦ omega (arith, same_room v ne, zero_room, o.most v q) ];
          low = λ v r. elim (which v r) [ inl e ↦ rw e (omega (arith, new_depth, fewer, o.low n t.here)) | inr (ne, q) ↦ omega (arith, same_depth v ne, fewer, o.low v q) ];
          led = λ v r nz. elim (which v r) [
            | inl e ↦ rw e (j, led_new, λ none. absurd ((all_split (λ f. f.node ≢ h) w visit none).1 visit_node))
            | inr (ne, q) ↦ let d = o.led v q nz in (d.0, led_old v d.0 ne d.1, λ none. ap (λ (c : List ℕ). get_or c v 0) came_kept ∙ d.2 (all_split (λ f. f.node ≢ v) w visit none).0)
          ];
        }

    joined' : Turn N x after (w ++ visit ∷ []) n (j + 1)
    joined' =
        let same_w : All (λ e. depth_at after e.node ≡ depth_at s e.node) w = All-weaker (Waits N x s) _ (λ e r. same_depth e.node (old e.node r.0)) w t.waits in
        let new-at : depth_at after visit.node ≡ depth_at s n + 1 = ap (depth_at after) visit_node ∙ new_depth in
        record {
          tree = tree;
          here = kept n t.here;
          waits = All-push (Waits N x after) w visit (All-weaker (Waits N x s) (Waits N x after) (λ e r. (kept e.node r.0, λ nz. led_old e.node e.arc (old e.node r.0) (r.1 nz))) w t.waits)
              (ap (has after) visit_node ∙ new, λ nz. visit_led);
          followed = λ k u lk r spk none early. elim (which u r) [
            | inl e ↦ absurd ((all_split (λ f. f.node ≢ u) w visit none).1 (visit_node ∙ sym e))
            | inr (ne, q) ↦
                let none' = (all_split (λ f. f.node ≢ u) w visit none).0 in
                elim (cases_eq k j) [
                  | inl e ↦ elim (cases_eq u n) [
                    | inl f ↦ at_new k u e f
                    | inr nn ↦ still u _ q (t.followed k u lk q spk none' (λ f. absurd (nn f)))
                  ]
                  | inr nj ↦ still u _ q (t.followed k u lk q spk none' (λ f. omega (arith, early f, nj)))
                ]
          ];
          once = omega (arith, length_push w visit, t.once, fewer);
          rising = rising_push (depth_at after) w visit (rising_as (depth_at s) (depth_at after) w same_w t.rising)
              (all_both (λ e. depth_at after e.node ≡ depth_at s e.node) (Waits N x s) (λ e. depth_at after e.node ≤ depth_at after visit.node) (λ e p r. omega (arith, p, new-at, t.near e.node r.0)) w same_w t.waits);
          later = All-push (λ e. depth_at after n ≤ depth_at after e.node) w visit (all_both (λ e. depth_at after e.node ≡ depth_at s e.node) (λ e. depth_at s n ≤ depth_at s e.node) (λ e. depth_at after n ≤ depth_at after e.node) (λ e p le. omega (arith, p, le, dn)) w same_w t.later) (omega (arith, dn, new-at));
          near = λ v r. elim (which v r) [ inl e ↦ rw e (omega (arith, new_depth, dn)) | inr (ne, q) ↦ omega (arith, same_depth v ne, dn, t.near v q) ];
        }

    pub joined : Turn N x (discovered s n record { to = end_at arcs j n; residual = residual_in N x j n }) (w ++ record { node = end_at arcs j n; arc = j } ∷ []) n (j + 1)
    unfolding after visit
    joined = joined'

    pub same_top : room_at (discovered s n record { to = end_at arcs j n; residual = residual_in N x j n }) 0 ≡ room_at s 0
    unfolding after
    same_top = zero_room

    pub no_more : effort (discovered s n record { to = end_at arcs j n; residual = residual_in N x j n }) (w ++ record { node = end_at arcs j n; arc = j } ∷ []) ≤ effort s w
    unfolding after visit
    no_more = omega (arith, length_push w visit, fewer)

  -- the way back from a node is as long as the node is deep
  leads : (s : Search) (w : List Visit) → Tree N x s w → (n v : ℕ) → depth_at s v ≡ n → has s v ≡ true → Route N.limit.value arcs x n v
  leads s w t zero v e h = elim (cases_eq v 0) [ inl z ↦ z | inr nz ↦ absurd (omega (arith, (t.led v h nz).1.1.deeper)) ]
  leads s w t (suc n) v e h =
      let nz : v ≢ 0 = λ z. absurd (omega (arith, t.root, ap (depth_at s) z, e)) in
      let d = t.led v h nz in
      let u = d.1.0 in
      (d.0, u, d.1.1.inside, omega (arith, d.1.1.narrow, t.some v h), d.1.1.back, leads s w t n u (omega (arith, d.1.1.deeper)) d.1.1.from)

  -- nothing waits any more: no way to node 1 is shorter
  module _ (aim : Goal) (s : Search) (line : List Visit) (none : line ≡ []) (last : Met N x aim s line) where
    end : Met N x aim s []
    end = subst (Met N x aim s) none last

    nearer : (n v : ℕ) → n < depth_at s 1 → Route N.limit.value arcs x n v → (has s v ≡ true) × (depth_at s v ≤ n)
    nearer zero v lt z = rw z (end.tree.source, omega (arith, end.tree.root))
    nearer (suc n) v lt (k, u, l, sp, e, way) =
        let i = nearer n u (omega arith) way in
        let b = end.followed k u l i.0 sp (All-nil _) (λ _ _. omega (arith, i.1)) in
        rw (sym e) (b.0, omega (arith, b.1, i.1))

    least : (n : ℕ) → Route N.limit.value arcs x n 1 → depth_at s 1 ≤ n
    least n way = elim (cases_lt n (depth_at s 1)) [ inl lt ↦ absurd (omega (arith, (nearer n 1 lt way).1)) | inr le ↦ le ]

    pub done : Searched N x aim s
    done =
        let t = end.tree in
        record {
          tree = t;
          leads = λ v h. leads s [] t (depth_at s v) v refl h;
          nearest = λ h. record { leads = leads s [] t (depth_at s 1) 1 refl h; least = least };
          closed = λ on k u l h sp. (end.followed k u l h sp (All-nil _) (λ y z. absurd (both_ways _ (on y) z))).0;
        }

-- the same of what the code holds
pub begins_as : (N : LimitedNet) (x : List ℕ) (most : ℕ) (aim : Goal) (s : Search) (w : List Visit) → 0 < most → s ≡ begun most → w ≡ record { node = 0; arc = 0 } ∷ [] → Met N x aim s w
begins_as N x most aim s w some s-is w-is = subst (λ (a : Search). Met N x aim a w) (sym s-is) (subst (Met N x aim (begun most)) (sym w-is) (begins N x most aim some))

module _ (N : LimitedNet) (x : List ℕ) (s : Search) (w : List Visit) (n j : ℕ) where
  -- one arc later
  abbrev pub Next : Search → List Visit → Type 0
  Next s' w' = Turn N x s' w' n (j + 1) × (room_at s' 0 ≡ room_at s 0) × (effort s' w' ≤ effort s w)

  pub skipped_as : (s' : Search) (w' : List Visit) → s' ≡ s → w' ≡ w → Turn N x s w n j → (0 < residual_in N x j n → has s (end_at (arcs_in N) j n) ≡ true) → Next s' w'
  skipped_as s' w' s-is w-is t met =
      subst (λ (a : Search). Next a w') (sym s-is) (subst (Next s) (sym w-is) (skipped N x s w n j t met, refl, omega arith))

  pub joined_as : (s' : Search) (w' : List Visit) (step : Step) → s' ≡ discovered s n step → w' ≡ w ++ record { node = step.to; arc = j } ∷ []
      → Turn N x s w n j → j < length (arcs_in N) → step.to ≡ end_at (arcs_in N) j n → step.residual ≡ residual_in N x j n
      → 0 < step.residual → has s step.to ≡ false → Next s' w'
  joined_as s' w' step s-is w-is t l to_is more-is sp out =
      let P : ℕ → ℕ → Type 0 = λ v r. Next (discovered s n record { to = v; residual = r }) (w ++ record { node = v; arc = j } ∷ []) in
      let out' = subst (λ (v : ℕ). has s v ≡ false) to_is out in
      let sp' : 0 < residual_in N x j n = omega (arith, more-is) in
      let p : P (end_at (arcs_in N) j n) (residual_in N x j n) = (joined N x s w n j t l sp' out', same_top N x s w n j t l sp' out', no_more N x s w n j t l sp' out') in
      let p' : P step.to step.residual = subst (λ (v : ℕ). P v step.residual) (sym to_is) (subst (P (end_at (arcs_in N) j n)) (sym more-is) p) in
      subst (λ (a : Search). Next a w') (sym s-is) (subst (Next (discovered s n step)) (sym w-is) p')
