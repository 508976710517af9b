-- The walk over the arcs that finds the piece i of each nozzle.
use Rattle.std.proofs.Common.{◌≡◌, ℕ, zero, suc, ◌+◌, ◌-◌, ◌*◌, ◌<◌, ◌≤◌, Bool, true, false, cond, ◌&&◌, eqb, ltb, leb, List, [], ◌∷◌, ◌++◌, length, get_or, drop, set, replicate, sym, refl, ap, ◌∙◌, subst, inl, inr, append-nil, add-zero, add-suc, zero-add, add-one, arith, length-append, length-set, get_or-set_other, get_or-set_same, get_or-append-add}
use lib.ListN.{length-replicate, get_or-replicate}
use Rattle.std.proofs.lemmas.List.{get_or_past, get_or_append_left, get_or-append_right, drop_more}
use Rattle.std.proofs.lemmas.Bool.{cases_lt, cases_eq, eq-eqb, ne_eqb}
use Rattle.std.proofs.lemmas.Bool.Decides.{nat_tests}
use Rattle.flows.specs.declared.Arc.{Arc}
use Rattle.flows.specs.Flows.{no_arc, arc_at}
use Rattle.sheets.specs.declared.NozzleState.{NozzleState}
use Rattle.sheets.specs.declared.Order.{Order}
use Rattle.sheets.specs.declared.boards.picks.Pick.{Pick}
use Rattle.sheets.specs.Sheets.{in_service}
use Rattle.sheets.specs.Boards.{join_to, when, may, supply, choice, exit, nozzle_node, board_arcs, picks}
use Rattle.sheets.proofs.Arcs.{supplies, choices, choices_of, exits}
use Rattle.sheets.proofs.Joined.{length_more, join_fits, join_at, join_each}

-- the piece i, with `left` pieces up to it, once x more came
after : (i x w left : ℕ) (l : List ℕ) → left ≡ suc i - length l → get_or (l ++ replicate x w) i 0 ≡ cond (ltb 0 left && leb left x) w (get_or l i 0)
after i x w left l e =
    elim (cases_lt i (length l)) [
      | inl h ↦ rw get_or_append_left (grind (arith, nat_tests))
      | inr h ↦
          rw (get_or-append_right l (replicate x w) (length l) i 0 refl h, get_or_past l i 0 h)
          (elim (cases_lt (i - length l) x) [
            | inl m ↦ rw (get_or-replicate x (i - length l) w 0 m) (grind (arith, nat_tests))
            | inr m ↦ rw (get_or_past (replicate x w) (i - length l) 0 (simp length-replicate m)) (grind (arith, nat_tests))
          ])
    ]

-- what holds of a holds of each element of a list with at most a
at_one : {X : Type 0} (P : X → Type 0) (d a : X) (b : Bool) (q : ℕ) → P a → q < length (when b (a ∷ [])) → P (get_or (when b (a ∷ [])) q d)
at_one P d a true zero e h = e
at_one P d a true (suc q) e h = absurd (omega arith)
at_one P d a false q e h = absurd (omega arith)

abbrev pub no_pick : Pick
no_pick = record { left = 0; piece = 0 }

abbrev pub pick_at : List Pick → ℕ → Pick
pick_at ps j = get_or ps j no_pick

-- what x pieces of the type w make of a pick
abbrev pub Counted : Pick → ℕ → ℕ → Pick → Type 0
Counted old x w new = (new.left ≡ old.left - x) × (new.piece ≡ cond (ltb 0 old.left && leb old.left x) w old.piece)

module _ (arcs : List Arc) (xs : List ℕ) (first i : ℕ) where
  -- what the first n arcs bring to the node v
  abbrev brought : ℕ → ℕ → List ℕ
  brought v n = join_to n (λ p. when (eqb (arc_at arcs p).head v) (replicate (get_or xs p 0) ((arc_at arcs p).tail - 1)))

  -- after p arcs, how many pieces each node lacks up to its piece i, and which that is
  abbrev Walked : ℕ → List Pick → Type 0
  Walked p ps = (j : ℕ) → j < length ps → ((pick_at ps j).left ≡ suc i - length (brought (first + j) p)) × ((pick_at ps j).piece ≡ get_or (brought (first + j) p) i 0)

  more_other : (v p : ℕ) → ((arc_at arcs p).head ≡ v → ⊥) → brought v (suc p) ≡ brought v p
  more_other v p ne = rw (ne_eqb (arc_at arcs p).head v ne) (append-nil _)

  more_here : (v p : ℕ) → (arc_at arcs p).head ≡ v → brought v (suc p) ≡ brought v p ++ replicate (get_or xs p 0) ((arc_at arcs p).tail - 1)
  more_here v p e = rw (eq-eqb (arc_at arcs p).head v e)

  -- arcs that end elsewhere bring nothing
  skip : (v p n : ℕ) → ((q : ℕ) → p ≤ q → q < p + n → (arc_at arcs q).head ≡ v → ⊥) → brought v (p + n) ≡ brought v p
  skip v p zero e = ap (brought v) (add-zero p)
  skip v p (suc n) e = rw add-suc (more_other v (p + n) (e (p + n) (omega arith) (omega arith)) ∙ skip v p n (λ q l h. e q l (omega arith)))

  -- the arc p ends at the node of the place k
  walk_on : (p k w : ℕ) (y : Pick) (ps : List Pick) → Walked p ps → k < length ps → (arc_at arcs p).head ≡ first + k → (arc_at arcs p).tail - 1 ≡ w
      → Counted (pick_at ps k) (get_or xs p 0) w y
      → Walked (p + 1) (set ps k y)
  walk_on p k w y ps walked h at from c j l =
      rw add-one
      (elim (cases_eq j k) [
        | inl e ↦
            rw (e, get_or-set_same ps k y no_pick h, more_here (first + k) p at, from) (
              simp (length-append, length-replicate) (omega (arith, c.0, (walked k h).0)),
              c.1 ∙ ap (cond _ w) (walked k h).1 ∙ sym (after i (get_or xs p 0) w (pick_at ps k).left (brought (first + k) p) (walked k h).0),
            )
        | inr ne ↦ rw (get_or-set_other ps k j y no_pick ne, more_other (first + j) p (omega arith)) (walked j (rw length-set at l))
      ])

module _ (orders : List Order) (nozzles : List NozzleState) where
  -- the node of the first nozzle, and the arcs in three parts
  abbrev first : ℕ
  first = length orders + 2

  abbrev S : List Arc
  S = join_to (length orders) (supplies orders)

  abbrev C : List Arc
  C = join_to (length orders) (choices_of orders nozzles)

  abbrev E : List Arc
  E = join_to (length nozzles) (exits orders nozzles)

  -- the place of the arc from the type t to the nozzle j
  abbrev place : ℕ → ℕ → ℕ
  place t j = length S + (length (join_to t (choices_of orders nozzles)) + length (join_to j (choices orders nozzles t)))

  supplies_many : (n : ℕ) → length (join_to n (supplies orders)) ≡ n
  supplies_many zero = refl
  supplies_many (suc n) = omega (arith, length-append (join_to n (supplies orders)) (supplies orders n), supplies_many n)

  -- the arcs before and after those from types to nozzles end at no nozzle
  supply_ends : (q : ℕ) → q < length S → (arc_at (board_arcs orders nozzles) q).head < first
  supply_ends q h =
      rw (get_or_append_left S (C ++ E) no_arc q h)
      (join_each (supplies orders) (λ (a : Arc). a.head < first) no_arc (length orders) (λ i n m l. at_one (λ (a : Arc). a.head < first) no_arc (supply orders i) true n (omega arith) l) q h)

  exit_ends : (q : ℕ) → length S + length C ≤ q → q < length (board_arcs orders nozzles) → (arc_at (board_arcs orders nozzles) q).head ≡ 1
  exit_ends q l h =
      rw (get_or-append_right S (C ++ E) (length S) q no_arc refl (omega arith), get_or-append_right C E (length C) (q - length S) no_arc refl (omega arith))
      (join_each (exits orders nozzles) (λ (a : Arc). a.head ≡ 1) no_arc (length nozzles) (λ i n m k. at_one (λ (a : Arc). a.head ≡ 1) no_arc (exit orders i) (in_service nozzles i) n refl k)
      (q - length S - length C) (omega (arith, length-append S (C ++ E), length-append C E)))

  choice_at : (t j p : ℕ) → t < length orders → j < length nozzles → may orders nozzles t j ≡ true → p ≡ place t j → arc_at (board_arcs orders nozzles) p ≡ choice orders t j
  choice_at t j p h l m e =
      let q = length (join_to j (choices orders nozzles t)) in
      let some : 0 < length (choices orders nozzles t j) = rw m (omega arith) in
      let inner : q < length (choices_of orders nozzles t) = omega (arith, join_fits (choices orders nozzles t) j 0 (length nozzles) l some) in
      ap (arc_at (board_arcs orders nozzles)) e ∙ get_or-append-add S (C ++ E) _ no_arc ∙ get_or_append_left C E no_arc _ (join_fits (choices_of orders nozzles) t q (length orders) h inner)
      ∙ join_at (choices_of orders nozzles) no_arc t q (length orders) h inner ∙ ap (λ n. get_or (choices_of orders nozzles t) n no_arc) (sym (add-zero q))
      ∙ join_at (choices orders nozzles t) no_arc j 0 (length nozzles) l some ∙ ap (λ b. get_or (when b (choice orders t j ∷ [])) 0 no_arc) m

  module _ (xs : List ℕ) (i : ℕ) where
    -- the walk stands at the type t and the nozzle j, before the counts of the arcs from there on
    pub record Reached (t j : ℕ) (counts : List ℕ) (ps : List Pick) : Type 0 where
      pub walked : Walked (board_arcs orders nozzles) xs first i (place t j) ps
      pub long : length ps ≡ 8
      pub counts_are : counts ≡ drop (place t j) xs
      pub few : place t j ≤ length orders + 8 * t + j

    -- the same place, by other numbers
    there : (t j u k : ℕ) (counts : List ℕ) (ps : List Pick) → place u k ≡ place t j → place u k ≤ length orders + 8 * u + k → Reached t j counts ps → Reached u k counts ps
    there t j u k counts ps e few r =
        record {
          walked = subst (λ p. Walked (board_arcs orders nozzles) xs first i p ps) (sym e) r.walked;
          long = r.long;
          counts_are = r.counts_are ∙ ap (λ p. drop p xs) (sym e);
          few = few;
        }

    pub start : (counts : List ℕ) → counts ≡ drop (length orders) xs → Reached 0 0 counts (replicate 8 (record { left = i + 1; piece = 0 }))
    start counts from =
        let none : Pick = record { left = i + 1; piece = 0 } in
        let at : place 0 0 ≡ length orders = omega (arith, supplies_many (length orders)) in
        let nothing : (j : ℕ) → brought (board_arcs orders nozzles) xs first i (first + j) (length orders) ≡ [] =
        λ j. rw zero-add at (skip (board_arcs orders nozzles) xs first i (first + j) 0 (length orders) (λ q l h e. omega (arith, supply_ends q (omega (arith, supplies_many (length orders)))))) in
        record {
          walked = λ j h. rw (at, nothing j, get_or-replicate 8 j none no_pick (omega arith)) (omega arith, refl);
          long = refl;
          counts_are = from ∙ ap (λ p. drop p xs) (sym at);
          few = omega arith;
        }

    -- the arc from t to j, with the count x
    pub take_arc : (t j x : ℕ) (y : Pick) (counts rest : List ℕ) (ps : List Pick) → Reached t j counts ps → t < length orders → j < length nozzles → j < 8 → may orders nozzles t j ≡ true
        → place t j < length xs → counts ≡ x ∷ rest → Counted (pick_at ps j) x (t + 1) y
        → Reached t (j + 1) rest (set ps j y)
    take_arc t j x y counts rest ps r h l few m within taken counted =
        let p = place t j in
        let at = choice_at t j p h l m refl in
        let more = drop_more xs p 0 within in
        let is : x ≡ get_or xs p 0 = cc (r.counts_are, more) in
        let then : rest ≡ drop (p + 1) xs = cc (r.counts_are, more) in
        let next : place t (j + 1) ≡ p + 1 = omega (arith, length_more (choices orders nozzles t) j, ap (λ b. length (when b (choice orders t j ∷ []))) m) in
        record {
          walked =
              rw next
              (walk_on (board_arcs orders nozzles) xs first i p j (t + 1) y ps r.walked (omega arith)
              (ap (λ (a : Arc). a.head) at) (ap (λ (a : Arc). a.tail - 1) at ∙ omega arith) (rw is at counted));
          long = length-set ps j y ∙ r.long;
          counts_are = then ∙ ap (λ p. drop p xs) (sym next);
          few = omega arith;
        }

    -- there is no arc from t to j
    pub no_arc_lem : (t j : ℕ) (counts : List ℕ) (ps : List Pick) → Reached t j counts ps → may orders nozzles t j ≡ false → Reached t (j + 1) counts ps
    no_arc_lem t j counts ps r m =
        let same : place t (j + 1) ≡ place t j = omega (arith, length_more (choices orders nozzles t) j, ap (λ b. length (when b (choice orders t j ∷ []))) m) in
        there t j t (j + 1) counts ps same (omega arith) r

    -- all nozzles are passed
    pub next_type : (t j : ℕ) (counts : List ℕ) (ps : List Pick) → Reached t j counts ps → j ≡ length nozzles → j ≤ 8 → Reached (t + 1) 0 counts ps
    next_type t j counts ps r e l =
        let same : place (t + 1) 0 ≡ place t j = omega (arith, length_more (choices_of orders nozzles) t, ap (λ n. length (join_to n (choices orders nozzles t))) e) in
        there t j (t + 1) 0 counts ps same (omega arith) r

    -- all types are passed: the picks are found
    pub finish : (t : ℕ) (counts : List ℕ) (ps : List Pick) → Reached t 0 counts ps → t ≡ length orders → (j : ℕ) → j < 8 → (pick_at ps j).piece ≡ get_or (picks (board_arcs orders nozzles) xs (nozzle_node orders j)) i 0
    finish t counts ps r e j h =
        let p = place t 0 in
        let stands : p ≡ length S + length C = omega (arith, ap (λ n. length (join_to n (choices_of orders nozzles))) e) in
        let all : p + (length (board_arcs orders nozzles) - p) ≡ length (board_arcs orders nozzles) = omega (arith, length-append S (C ++ E), length-append C E) in
        (r.walked j (omega arith)).1
        ∙ ap (λ l. get_or l i 0)
        (sym (skip (board_arcs orders nozzles) xs first i (first + j) p (length (board_arcs orders nozzles) - p) (λ q l k g. omega (arith, exit_ends q (omega arith) (omega arith))))
        ∙ ap (brought (board_arcs orders nozzles) xs first i (first + j)) all)
