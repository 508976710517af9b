-- What one request does, put together from its parts, and one request after another.
use Rattle.std.proofs.Common.{◌≡◌, ℕ, ◌<◌, ◌≤◌, List, [], ◌∷◌, ◌++◌, length, get_or, set, Some, None, Ok, Err, Option, Result, sym, refl, ap, ◌∙◌, subst, arith}
use Rattle.std.proofs.lemmas.List.{set-get_or}
use Rattle.std.proofs.lemmas.Bool.{lt-ltb}
use Rattle.std.proofs.lemmas.Bool.Decides.{nat_tests}
use Rattle.book.specs.declared.Outcome.{Outcome}
use Rattle.book.specs.declared.Outcome.TheVariants.{None as Unplanned, Planned, Short}
use Rattle.book.specs.declared.faults.JobFault.{JobFault}
use Rattle.book.specs.Turns.{Turn, subtour_refusal}
use Rattle.book.specs.Events as events
use Rattle.book.specs.Events.{State, Reply, Kept, Happens, Event, Run}
use Rattle.job.specs.declared.job.Job.{Job}
use Rattle.job.specs.Jobs.{state_of, Done as DoneBy}
use Rattle.desk.specs.declared.Request.{Request}
use Rattle.desk.specs.declared.Answer.{Answer}
use Rattle.desk.specs.declared.slots.Slot.{Slot}
use Rattle.desk.specs.Desks.{free, World, world, said, at, turn_of, slot_after, rack_after, counts_after, Paired, Turned, Does, Carried, stop, next, if_said, replies, replies_of, Recorded, SlotTurned, answered}

-- the same request under another name
pub does_at : (q p : Request) (w : World) (a : Answer) (v : World) → q ≡ p → Does w p a v → Does w q a v
does_at q p w a v e h = subst (λ (x : Request). Does w x a v) (sym e) h

-- a turn that answers only that it is done, and leaves tickets and engines
pub done_does : (j j' : Job) (t : Turn) (r : Result Unit JobFault) (a : Answer) (q : Request) (rack : List Slot) (counts : List ℕ) → DoneBy j t r j' → Kept (state_of j') → a ≡ answered r
    → turn_of q rack counts ≡ Some t → ((x : Reply) → rack_after q x rack ≡ rack) → ((x : Reply) → counts_after q x counts ≡ counts) → Does (world (state_of j) rack counts) q a (world (state_of j') rack counts)
done_does j j' t (Ok _) a q rack counts h k e turn tickets engines =
    rw (turn, e) (record { happens = record { answered = h; kept = k }; rack = sym (tickets events.done); counts = sym (engines events.done) })
done_does j j' t (Err f) a q rack counts h k e turn tickets engines =
    rw (turn, e) (record { happens = record { answered = record { fault = h.0; same = ap state_of h.1 }; kept = k }; rack = sym (tickets (events.refused f)); counts = sym (engines (events.refused f)) })

-- a turn with a slot of the rack
at_place : (rack : List Slot) (i : ℕ) (turn : Option Turn) → i < length rack → at rack i turn ≡ turn
at_place rack i turn h = rw (lt-ltb i (length rack) h)

module _ (q : Request) (i : ℕ) (rack : List Slot) (counts : List ℕ) (s s' : State) (x' : Slot) where
  abbrev after : World
  after = world s' (set rack i x') counts

  slot_pair : (turn : Option Turn) (o : Option Reply) → ((r : Reply) → rack_after q r rack ≡ set rack i (slot_after (get_or rack i free) r)) → ((r : Reply) → counts_after q r counts ≡ counts)
      → Paired turn o (λ t r. SlotTurned s (get_or rack i free) t r s' x') ((s' ≡ s) × (x' ≡ get_or rack i free)) → Paired turn o (λ t r. Turned (world s rack counts) q t r after) (after ≡ world s rack counts)
  slot_pair (Some t) (Some r) tickets engines h = record { happens = h.happens; rack = ap (set rack i) h.slot ∙ sym (tickets r); counts = sym (engines r) }
  slot_pair None None tickets engines h = λ k. world (h.0 k) ((ap (set rack i) h.1 ∙ set-get_or rack i free) k) counts
  slot_pair (Some t) None tickets engines h = h
  slot_pair None (Some r) tickets engines h = h

  pub slot_does : (turn : Option Turn) (o : Option Reply) → i < length rack → ((r : Reply) → rack_after q r rack ≡ set rack i (slot_after (get_or rack i free) r)) → ((r : Reply) → counts_after q r counts ≡ counts)
      → Paired turn o (λ t r. SlotTurned s (get_or rack i free) t r s' x') ((s' ≡ s) × (x' ≡ get_or rack i free)) → Paired (at rack i turn) o (λ t r. Turned (world s rack counts) q t r after) (after ≡ world s rack counts)
  slot_does turn o l tickets engines h = rw (at_place rack i turn l) (slot_pair turn o tickets engines h)

-- a row in memory of which only the first places are lent
pub more_room : (o : Outcome) (n r a b : ℕ) → a ≤ b → subtour_refusal o n r a ≡ None → subtour_refusal o n r b ≡ None
more_room Unplanned n r a b h e = let z : ◌≡◌ {A = ℕ} 0 1 = cc in absurd (omega arith)
more_room (Planned cost runs) n r a b h e = grind (arith, nat_tests)
more_room (Short runs cut) n r a b h e = let z : ◌≡◌ {A = ℕ} 0 1 = cc in absurd (omega arith)

pub had_room : (o : Outcome) (n r a : ℕ) → subtour_refusal o n r a ≡ None → r ≤ a
had_room Unplanned n r a e = let z : ◌≡◌ {A = ℕ} 0 1 = cc in absurd (omega arith)
had_room (Planned cost runs) n r a e = grind (arith, nat_tests)
had_room (Short runs cut) n r a e = let z : ◌≡◌ {A = ℕ} 0 1 = cc in absurd (omega arith)

-- one request more
pub carried_more : {w v u : World} {qs : List Request} {rs : List Answer} (q : Request) (a : Answer) → Carried w qs rs v → Does v q a u → Carried w (qs ++ q ∷ []) (rs ++ a ∷ []) u
carried_more q a stop h = next h stop
carried_more q a (next d c) h = next d (carried_more q a c h)

-- what was carried out is a run of the job
record_one : (w v : World) (q : Request) (u : State) (o : Option Turn) (r : Option Reply) (rs : List Answer) → Paired o r (λ t r. Turned w q t r v) (v ≡ w) → Recorded v.state rs u
    → (es : List Event) × (Run w.state es u × (replies_of es ≡ if_said r (replies rs)))
record_one w v q u (Some t) (Some r) rs h k = (record { turn = t; reply = r } ∷ k.0, (events.next h.happens k.1.0, ap (λ (l : List Reply). r ∷ l) k.1.1))
record_one w v q u None None rs h k = subst (λ (x : World). Recorded x.state rs u) h k
record_one w v q u (Some t) None rs h k = absurd h
record_one w v q u None (Some r) rs h k = absurd h

pub recorded : {w v : World} {qs : List Request} {rs : List Answer} → Carried w qs rs v → Recorded w.state rs v.state
recorded stop = ([], (events.stop, refl))
recorded (next {w = w} {v = v} {u = u} {q = q} {a = a} {rs = rs} d c) = record_one w v q u.state (turn_of q w.rack w.counts) (said a) rs d (recorded c)
