use Rattle.std.proofs.Common.{◌≡◌, ℕ, ◌+◌, ◌%◌, ◌^◌, ◌<◌, ◌≤◌, true, false, ltb, List, map, length, get_or, set, sym, refl, ap, ◌∙◌}
use Rattle.std.proofs.lemmas.List.{length-map, map-set, get_or-map, set-get_or}
use Rattle.std.proofs.lemmas.Bool.{lt-ltb, le-ltb}
use Rattle.book.specs.Books.{runs_of}
use Rattle.job.specs.Jobs.{state_of}
use Rattle.desk.specs.Desks.{moved}
use Rattle.desk.proofs.carrying.plan_with.Goals as goal

module _ {X : Type 0} (count : X → ℕ) (xs : List X) (i : ℕ) where
  known : i < length xs → ltb i (length (map count xs)) ≡ true
  known h = rw length-map (lt-ltb i (length xs) h)

  unknown : length xs ≤ i → ltb i (length (map count xs)) ≡ false
  unknown h = rw length-map (le-ltb i (length xs) h)

  -- one engine's count moves
  moves : (d y : X) (n : ℕ) → i < length xs → count y ≡ (count (get_or xs i d) + n) % 2 ^ 32 → map count (set xs i y) ≡ moved i (map count xs) n
  moves d y n h e = map-set count xs i y ∙ ap (set (map count xs) i) (e ∙ ap (λ (m : ℕ). (m + n) % 2 ^ 32) (sym (get_or-map count xs i d 0 h)))

  stays : (d y : X) → y ≡ get_or xs i d → map count (set xs i y) ≡ map count xs
  stays d y e = ap (λ (x : X). map count (set xs i x)) e ∙ ap (map count) (set-get_or xs i d)

pub returns-then-place-engines : goal.returns-then-place-engines
returns-then-place-engines g c = rw (unknown g.E.Engine.count c.args.engines.now c.args.place c.if-place-engines.true) (refl, refl)

pub returns-in-Ok : goal.returns-in-Ok
returns-in-Ok g c =
    rw (known g.E.Engine.count c.args.engines.now c.args.place c.if-place-engines.false) (record {
      happens = record { answered = c.in-Ok.ensures.turn; kept = c.in-Ok.ensures.kept };
      counts = moves g.E.Engine.count c.args.engines.now c.args.place c.index-engines-place.result c.plan.new.engine (runs_of c.in-Ok.outcome) c.if-place-engines.false c.in-Ok.ensures.counts;
    })

pub returns-in-Err : goal.returns-in-Err
returns-in-Err g c =
    rw (known g.E.Engine.count c.args.engines.now c.args.place c.if-place-engines.false) (record {
      happens = record { answered = record { fault = c.in-Err.ensures.turn.0; same = ap state_of c.in-Err.ensures.turn.1 }; kept = c.in-Err.ensures.kept };
      counts = stays g.E.Engine.count c.args.engines.now c.args.place c.index-engines-place.result c.plan.new.engine c.in-Err.ensures.counts;
    })
