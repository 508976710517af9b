-- What a list of requests does to a job, to the caller's tickets and to the counts of the engines.
use Rattle.std.specs.Prelude.{◌≡◌, ℕ, ◌+◌, ◌%◌, ◌^◌, cond, List, [], ◌∷◌, map, length, take, Some, None, Ok, Err, Option, Result, is_some, nat_lt, slice_index, slice_index_or, slice_set}
use Rattle.std.specs.List.{range_with_len}
use Rattle.std.specs.Option.{option_map}
use Rattle.book.specs.declared.faults.JobFault.{JobFault}
use Rattle.book.specs.Books.{runs_of}
use Rattle.book.specs.Turns.{Turn, enter_quantity, enter_mask, take_out, give_back, scrap, exchange, plan, show_subtour, show_step}
use Rattle.book.specs.Events.{State, Reply, refused, done, gave, ended, row, step, Happens, Event, Run}
use Rattle.job.specs.declared.job.Ticket.{Ticket}
use Rattle.desk.specs.declared.Request.{Request}
use Rattle.desk.specs.declared.Request.TheVariants.{EnterQuantity, EnterMask, TakeOut, GiveBack, Scrap, Exchange, Plan, ShowSubtour, ShowStep}
use Rattle.desk.specs.declared.Answer.{Answer}
use Rattle.desk.specs.declared.Answer.TheVariants.{Skipped, Refused, Done, Gave, Ended, Row, Step}
use Rattle.desk.specs.declared.slots.Slot.{Slot}

-- a job, the rack of the caller's tickets, and the counts of the caller's engines
pub record World : Type 0 where
  pub state : State
  pub rack : List Slot
  pub counts : List ℕ

abbrev pub world : State → List Slot → List ℕ → World
world s rack counts = record { state = s; rack = rack; counts = counts }

-- what an answer says of a turn; nothing where the request was none
abbrev pub said : Answer → Option Reply
said Skipped = None
said (Refused f) = Some (refused f)
said Done = Some done
said (Gave job nozzle) = Some (gave job nozzle)
said (Ended o) = Some (ended o)
said (Row count bytes) = Some (row (take count bytes))
said (Step x) = Some (step x)

abbrev pub free : Slot
free = record { ticket = None }

abbrev pub holding : Ticket → Slot
holding t = record { ticket = Some t }

-- a turn that fills a slot, which must be free
abbrev pub fill : Slot → Turn → Option Turn
fill x turn = cond (is_some x.ticket) None (Some turn)

-- a turn with the ticket of a slot, by the ticket's two numbers
abbrev pub spend : Slot → (ℕ → ℕ → Turn) → Option Turn
spend x turn = option_map (λ t. turn t.job t.nozzle) x.ticket

-- the turn at a place of a list, if there is such a place
abbrev pub at : {X : Type 0} → List X → ℕ → Option Turn → Option Turn
at xs i turn = cond (nat_lt i (length xs)) turn None

-- which turn a request is: none where it names no slot or engine, spends no ticket, or would fill a
-- slot that holds one
abbrev pub turn_of : Request → List Slot → List ℕ → Option Turn
turn_of (EnterQuantity t q) rack counts = Some (enter_quantity t q)
turn_of (EnterMask t m l) rack counts = Some (enter_mask t m l)
turn_of (TakeOut n s) rack counts = at rack s (fill (slice_index_or rack s free) (take_out n))
turn_of (GiveBack s) rack counts = at rack s (spend (slice_index_or rack s free) give_back)
turn_of (Scrap s) rack counts = at rack s (spend (slice_index_or rack s free) scrap)
turn_of (Exchange s n) rack counts = at rack s (spend (slice_index_or rack s free) (λ job own. exchange job own n))
turn_of (Plan e) rack counts = at counts e (Some plan)
turn_of (ShowSubtour n places) rack counts = Some (show_subtour n places)
turn_of (ShowStep n) rack counts = Some (show_step n)

-- a slot after a turn: a ticket that was given lies in it, one that was spent does not, and a
-- refusal leaves it
abbrev pub slot_after : Slot → Reply → Slot
slot_after x (refused f) = x
slot_after x done = free
slot_after x (gave job nozzle) = holding (record { job = job; nozzle = nozzle })
slot_after x (ended o) = x
slot_after x (row bytes) = x
slot_after x (step y) = x

-- the rack after a turn: only the slot that the request names may change
abbrev pub rack_after : Request → Reply → List Slot → List Slot
rack_after (EnterQuantity t q) r rack = rack
rack_after (EnterMask t m l) r rack = rack
rack_after (TakeOut n s) r rack = slice_set rack s (slot_after (slice_index_or rack s free) r)
rack_after (GiveBack s) r rack = slice_set rack s (slot_after (slice_index_or rack s free) r)
rack_after (Scrap s) r rack = slice_set rack s (slot_after (slice_index_or rack s free) r)
rack_after (Exchange s n) r rack = slice_set rack s (slot_after (slice_index_or rack s free) r)
rack_after (Plan e) r rack = rack
rack_after (ShowSubtour n places) r rack = rack
rack_after (ShowStep n) r rack = rack

-- an engine's count after so many runs
abbrev pub moved : ℕ → List ℕ → ℕ → List ℕ
moved e counts runs = slice_set counts e ((slice_index counts e + runs) % 2 ^ 32)

-- the counts after a planning with the engine e: it moves by the runs, unless it was refused
abbrev pub planned_counts : ℕ → Reply → List ℕ → List ℕ
planned_counts e (refused f) counts = counts
planned_counts e done counts = counts
planned_counts e (gave job nozzle) counts = counts
planned_counts e (ended o) counts = moved e counts (runs_of o)
planned_counts e (row bytes) counts = counts
planned_counts e (step x) counts = counts

-- the counts after a turn: only plannings move them
abbrev pub counts_after : Request → Reply → List ℕ → List ℕ
counts_after (EnterQuantity t q) r counts = counts
counts_after (EnterMask t m l) r counts = counts
counts_after (TakeOut n s) r counts = counts
counts_after (GiveBack s) r counts = counts
counts_after (Scrap s) r counts = counts
counts_after (Exchange s n) r counts = counts
counts_after (Plan e) r counts = planned_counts e r counts
counts_after (ShowSubtour n places) r counts = counts
counts_after (ShowStep n) r counts = counts

-- a request that is a turn is answered, with P of the two, and any other is skipped, with Q
abbrev pub Paired : Option Turn → Option Reply → (Turn → Reply → Type 0) → Type 0 → Type 0
Paired (Some t) (Some r) P Q = P t r
Paired None None P Q = Q
Paired (Some t) None P Q = ⊥
Paired None (Some r) P Q = ⊥

-- a turn of the job, and what it makes of tickets and counts
pub record Turned (w : World) (q : Request) (t : Turn) (r : Reply) (v : World) : Type 0 where
  pub happens : Happens w.state t r v.state
  pub rack : v.rack ≡ rack_after q r w.rack
  pub counts : v.counts ≡ counts_after q r w.counts

-- what one request does
abbrev pub Does : World → Request → Answer → World → Type 0
Does w q a v = Paired (turn_of q w.rack w.counts) (said a) (λ t r. Turned w q t r v) (v ≡ w)

-- one request after another
pub data Carried : World → List Request → List Answer → World → Type 0 where
  stop : {w : World} → Carried w [] [] w
  next : {w v u : World} {q : Request} {a : Answer} {qs : List Request} {rs : List Answer} → Does w q a v → Carried v qs rs u → Carried w (q ∷ qs) (a ∷ rs) u

-- what was said of turns
abbrev pub if_said : Option Reply → List Reply → List Reply
if_said None rs = rs
if_said (Some r) rs = r ∷ rs

abbrev pub replies : List Answer → List Reply
replies [] = []
replies (a ∷ rest) = if_said (said a) (replies rest)

abbrev pub replies_of : List Event → List Reply
replies_of [] = []
replies_of (e ∷ es) = e.reply ∷ replies_of es

-- some run of turns leads from s to v, and is answered so
abbrev pub Recorded : State → List Answer → State → Type 0
Recorded s rs v = (es : List Event) × (Run s es v × (replies_of es ≡ replies rs))

-- the parts of one request: a slot, a planning, a look
pub record SlotTurned (s : State) (x : Slot) (t : Turn) (r : Reply) (s' : State) (x' : Slot) : Type 0 where
  pub happens : Happens s t r s'
  pub slot : x' ≡ slot_after x r

abbrev pub SlotTurn : Option Turn → State → Slot → Answer → State → Slot → Type 0
SlotTurn turn s x a s' x' = Paired turn (said a) (λ t r. SlotTurned s x t r s' x') ((s' ≡ s) × (x' ≡ x))

pub record PlanTurned (e : ℕ) (s : State) (before : List ℕ) (t : Turn) (r : Reply) (s' : State) (after : List ℕ) : Type 0 where
  pub happens : Happens s t r s'
  pub counts : after ≡ planned_counts e r before

abbrev pub PlanTurn : ℕ → State → List ℕ → Answer → State → List ℕ → Type 0
PlanTurn e s counts a s' counts' = Paired (at counts e (Some plan)) (said a) (λ t r. PlanTurned e s counts t r s' counts') ((s' ≡ s) × (counts' ≡ counts))

abbrev pub Showing : State → Turn → Answer → Type 0
Showing s t a = Paired (Some t) (said a) (λ t r. Happens s t r s) ⊥

abbrev pub answered : Result Unit JobFault → Answer
answered (Ok _) = Done
answered (Err f) = Refused f

-- the tickets of the first n slots are given back, as far as the job takes them
abbrev pub Closed : State → List Slot → ℕ → State → List Slot → Type 0
Closed s rack n s' rack' = (rs : List Answer) × Carried (world s rack []) (map GiveBack (range_with_len 0 n)) rs (world s' rack' [])
