-- What stands while the records of a file are entered.
use Rattle.std.proofs.Common.{◌≡◌, ℕ, suc, ◌+◌, ◌<◌, ◌-◌, ◌≤◌, true, not, ◌||◌, List, [], ◌∷◌, ◌++◌, map, length, set, replicate, is_some, Some, None, Ok, Option, Result, sym, refl, ap, ◌∙◌, subst, append_assoc, append-nil, arith}
use Rattle.std.proofs.lemmas.List.{length-map, length-replicate, length_push, get_or_at, set_at, map_push}
use Rattle.std.proofs.lemmas.Bool.{and_parts, false≢true}
use Rattle.jobformat.specs.declared.FileFault.{FileFault}
use Rattle.jobformat.specs.Format.{Entry, Contents, Fine, AllFine, WellFormed, mask_fits}
use Rattle.sheets.specs.declared.NozzleState.TheVariants.{InService}
use Rattle.records.specs.declared.TypeRecord.{TypeRecord}
use Rattle.book.specs.declared.Outcome.TheVariants.{None as Unplanned}
use Rattle.book.specs.Books.{Book, blank, opened_book, with_type, with_quantity, with_mask}
use Rattle.book.specs.Turns.{Turn, opening, enter_quantity, enter_mask}
use Rattle.book.specs.Events.{State, done, fresh, Kept, Accepted, Happens, Event, Run, stop, next}
use Rattle.job.specs.declared.job.Job.{Job}
use Rattle.job.specs.Jobs.{state_of}
use Rattle.loading.specs.Loaded.{type_of, quantity_turns, mask_turns, entry_turns, entries_turns, LoadsByTurns}

-- a book with these types, and no outcome
abbrev pub book_with : ℕ → List TypeRecord → ℕ → Book
book_with number types nozzles = record { number = number; types = types; nozzles = replicate nozzles InService; outcome = Unplanned }

-- one run of turns after another
pub turns_then : {s s' s'' : State} {ts us : List Event} → Run s ts s' → Run s' us s'' → Run s (ts ++ us) s''
turns_then stop r = r
turns_then (next a q) r = next a (turns_then q r)

-- a turn that sets the outcome to none, and is accepted; the promise is then empty
happened : (s s' : State) (t : Turn) (b : Book) → b.outcome ≡ Unplanned → s' ≡ fresh b → Accepted s t done s' → Happens s t done s'
happened s s' t b none e a = record { answered = a; kept = subst Kept (sym e) (rw none (refl, refl)) }

-- the turn of a field that is there, and no turn for one that is not
pub quantity_turn : (s s' : State) (t q : ℕ) (o : Option ℕ) → o ≡ Some q → Accepted s (enter_quantity t q) done s' → Run s (quantity_turns t o) s'
quantity_turn s s' t q o p a = rw p (next (happened s s' _ _ refl a.accepts.1 a) stop)

pub quantity_none : (s : State) (t : ℕ) (o : Option ℕ) → o ≡ None → Run s (quantity_turns t o) s
quantity_none s t o p = rw p stop

pub mask_turn : (s s' : State) (t m : ℕ) (o l l' : Option ℕ) → o ≡ Some m → l ≡ l' → Accepted s (enter_mask t m l) done s' → Run s (mask_turns t o l') s'
mask_turn s s' t m o l l' p q a =
    let same = subst (λ x. Accepted s (enter_mask t m x) done s') q a in rw p (next (happened s s' _ _ refl same.accepts.1 same) stop)

pub mask_none : (s : State) (t : ℕ) (o l : Option ℕ) → o ≡ None → Run s (mask_turns t o l) s
mask_none s t o l p = rw p stop

-- what a turn writes at its place
module _ (number nozzles t : ℕ) (xs ys : List TypeRecord) (at : length xs + 1 ≡ t) where
  written : {s s' : State} (x : TypeRecord) (f : TypeRecord → TypeRecord) → s' ≡ fresh (with_type s.book t f) → s ≡ fresh (book_with number (xs ++ x ∷ ys) nozzles) → s' ≡ fresh (book_with number (xs ++ f x ∷ ys) nozzles)
  written x f p e =
      let place : length xs ≡ t - 1 = omega arith in
      let types = ap (λ z. set (xs ++ x ∷ ys) (t - 1) (f z)) (get_or_at xs x ys blank (t - 1) place) ∙ set_at xs x ys (f x) (t - 1) place in
      p ∙ ap (λ s. fresh (with_type s.book t f)) e ∙ ap (λ l. fresh (book_with number l nozzles)) types

  -- a blank type is now what the record says; a limit stands only beside a mask
  entered : {s s' : State} (q m l : Option ℕ) → (not (is_some l) || is_some m) ≡ true → Run s (quantity_turns t q ++ mask_turns t m l) s' → s ≡ fresh (book_with number (xs ++ blank ∷ ys) nozzles) → s' ≡ fresh (book_with number (xs ++ record { quantity = q; mask = m; limit = l } ∷ ys) nozzles)
  entered None None None h stop e = e
  entered None None (Some l) h r e = absurd (false≢true h)
  entered None (Some m) l h (next a stop) e = written blank (with_mask m l) a.answered.accepts.1 e
  entered (Some q) None None h (next a stop) e = written blank (with_quantity q) a.answered.accepts.1 e
  entered (Some q) None (Some l) h r e = absurd (false≢true h)
  entered (Some q) (Some m) l h (next a (next b stop)) e =
      written (with_quantity q blank) (with_mask m l) b.answered.accepts.1 (written blank (with_quantity q) a.answered.accepts.1 e)

-- the turns of one record more
entries_push : (t kind : ℕ) (es : List Entry) (e : Entry) → length es + t ≡ kind → entries_turns t (es ++ e ∷ []) ≡ entries_turns t es ++ entry_turns kind e
entries_push t kind [] e p =
    let same : t ≡ kind = omega arith in
    append-nil (entry_turns t e) ∙ ap (λ n. entry_turns n e) same
entries_push t kind (x ∷ es) e p =
    ap (λ l. entry_turns t x ++ l) (entries_push (suc t) kind es e (omega arith)) ∙ sym (append_assoc (entry_turns t x) (entries_turns (suc t) es) (entry_turns kind e))

-- the records of the front are entered, which led from s₀ to s; es are the others, the first of them,
-- where there is one, of the type kind
pub record Loading (number : ℕ) (c : Contents) (s₀ s : State) (kind : ℕ) (es : List Entry) : Type 0 where
  pub front : List Entry
  pub split : front ++ es ≡ c.entries
  pub place : 0 < length es → length front + 1 ≡ kind
  pub formed : WellFormed c
  pub fine : AllFine c.nozzles es
  pub state : s ≡ fresh (book_with number (map type_of front ++ replicate (length es) blank) c.nozzles)
  pub turns : Run s₀ (entries_turns 1 front) s

pub loading_none : (number k r : ℕ) (c : Contents) (s : State) → WellFormed c → k ≡ c.types → r ≡ c.nozzles → s ≡ fresh (opened_book number k r) → Loading number c s s 1 c.entries
loading_none number k r c s w p q e = record {
  front = [];
  split = refl;
  place = λ more. refl;
  formed = w;
  fine = w.fine;
  state = e ∙ (λ i. fresh (opened_book number ((p ∙ sym w.count) i) (q i)));
  turns = stop;
}

-- the next record is there to enter
module _ (number : ℕ) (c : Contents) (s₀ s : State) (kind : ℕ) (e : Entry) (es rest : List Entry) (is : rest ≡ e ∷ es) (at : Loading number c s₀ s kind rest) where
  h : Loading number c s₀ s kind (e ∷ es)
  h = subst (Loading number c s₀ s kind) is at

  -- the book can take what the record holds
  pub loading_fine : Fine (length s.book.nozzles) e
  loading_fine =
      let all : c.nozzles ≡ length s.book.nozzles = sym (ap (λ s. length s.book.nozzles) h.state ∙ length-replicate c.nozzles InService) in
      subst (λ r. Fine r e) all h.fine.0

  pub loading_more : (s' : State) (kind' : ℕ) → Run s (entry_turns kind e) s' → (0 < length es → kind' ≡ kind + 1) → Loading number c s₀ s' kind' es
  loading_more s' kind' r on =
      let here : length h.front + 1 ≡ kind = h.place (omega arith) in
      let xs = map type_of h.front in
      let ys = replicate (length es) blank in
      let place : length xs + 1 ≡ kind = ap (λ n. n + 1) (length-map h.front type_of) ∙ here in
      let limited = (and_parts _ _ (and_parts (mask_fits c.nozzles e.mask) _ h.fine.0.held).1).0 in
      let types : xs ++ type_of e ∷ ys ≡ map type_of (h.front ++ e ∷ []) ++ ys = sym (append_assoc xs (type_of e ∷ []) ys) ∙ ap (λ l. l ++ ys) (sym (map_push type_of h.front e)) in
      record {
        front = h.front ++ e ∷ [];
        split = append_assoc h.front (e ∷ []) es ∙ h.split;
        place = λ more. omega (arith, length_push h.front e, on more);
        formed = h.formed;
        fine = h.fine.1;
        state = entered number c.nozzles kind xs ys place e.quantity e.mask e.limit limited r h.state ∙ ap (λ l. fresh (book_with number l c.nozzles)) types;
        turns = subst (λ ts. Run s₀ ts s') (sym (entries_push 1 kind h.front e here)) (turns_then h.turns r);
      }

pub none_left : (es : List Entry) → length es ≤ 0 → es ≡ []
none_left [] few = refl
none_left (e ∷ es) few = absurd (omega arith)

-- the whole file is loaded
pub loads_by_turns : (bs : List ℕ) (number kind k r : ℕ) (c : Contents) (g : Result Contents FileFault) (j j₁ j' : Job) (rest : List Entry) → Ok c ≡ g → k ≡ c.types → r ≡ c.nozzles → Accepted (state_of j) (opening number k r) done (state_of j₁) → Loading number c (state_of j₁) (state_of j') kind rest → rest ≡ [] → LoadsByTurns number g j j'
loads_by_turns bs number kind k r c g j j₁ j' rest is p q a h none =
    let opens : Accepted (state_of j) (opening number c.types c.nozzles) done (state_of j₁) = rw (sym p, sym q) a in
    let all : h.front ≡ c.entries = sym (append-nil h.front) ∙ ap (λ l. h.front ++ l) (sym none) ∙ h.split in
    let turns = subst (λ es. Run (state_of j₁) (entries_turns 1 es) (state_of j')) all h.turns in
    subst (λ g. LoadsByTurns number g j j') is (next (happened (state_of j) (state_of j₁) _ _ refl opens.accepts.1 opens) turns)
