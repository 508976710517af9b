-- Every request keeps a rack sound.
use Rattle.std.proofs.Common.{◌≡◌, ℕ, zero, suc, ◌+◌, ◌-◌, ◌<◌, ◌≤◌, true, ◌≢◌, ◌⊎◌, List, [], ◌∷◌, length, get_or, set, Some, None, Option, sym, refl, ap, ◌∙◌, subst, inl, inr, arith, length-set}
use Rattle.std.proofs.lemmas.List.{get_or-set_same, get_or-set_other, set-set, set-get_or}
use Rattle.std.proofs.lemmas.Bool.{lt-ltb, cases_eq}
use Rattle.std.proofs.lemmas.Bool.Decides.{nat_tests}
use Rattle.sheets.specs.declared.NozzleState.{NozzleState}
use Rattle.sheets.specs.declared.NozzleState.TheVariants.{InService, Out, Scrapped}
use Rattle.sheets.specs.Sheets.{serves}
use Rattle.book.specs.declared.Outcome.{Outcome}
use Rattle.book.specs.declared.Outcome.TheVariants.{None as Unplanned}
use Rattle.book.specs.declared.faults.JobFault.{JobFault}
use Rattle.book.specs.Books.{Book, state_at, is_out, with_state, with_nozzles}
use Rattle.book.specs.Turns.{Turn, enter_quantity, enter_mask, take_out, give_back, scrap, exchange, plan, show_subtour, show_step, refusal}
use Rattle.book.specs.Events.{State, Reply, refused, done, gave, ended, row, step, Accepted, Answered}
use Rattle.job.specs.declared.job.Ticket.{Ticket}
use Rattle.desk.specs.declared.Request.{Request}
use Rattle.desk.specs.declared.Request.TheVariants.{EnterQuantity, EnterMask, TakeOut, GiveBack, Scrap, Exchange, Plan, ShowSubtour, ShowStep}
use Rattle.desk.specs.declared.Answer.{Answer}
use Rattle.desk.specs.declared.slots.Slot.{Slot}
use Rattle.desk.specs.Desks.{free, holding, World, said, fill, spend, at, turn_of, slot_after, rack_after, Paired, Turned, Does, Carried, stop, next}
use Rattle.desk.specs.Racks.{Named, Sound}

free_held : (t : Ticket) → free ≡ holding t → ⊥
free_held t e = let o : None ≡ Some t = ap (λ (x : Slot). x.ticket) e in let z : ◌≡◌ {A = ℕ} 0 1 = cc in omega arith

-- a slot that is written: what stands there then, or what stood elsewhere
read_set : (k : List Slot) (s i : ℕ) (x : Slot) (t : Ticket) → get_or (set k s x) i free ≡ holding t → ((i ≡ s) × (x ≡ holding t)) ⊎ ((i ≢ s) × (get_or k i free ≡ holding t))
read_set [] s i x t e = absurd (free_held t e)
read_set (y ∷ k) zero zero x t e = inl (refl, e)
read_set (y ∷ k) zero (suc i) x t e = inr ((λ p. omega arith), e)
read_set (y ∷ k) (suc s) zero x t e = inr ((λ p. omega arith), e)
read_set (y ∷ k) (suc s) (suc i) x t e = elim (read_set k s i x t e) [ inl p ↦ inl (ap suc p.0, p.1) | inr p ↦ inr ((λ q. p.0 (omega arith)), p.1) ]

-- soundness hangs on the job's number and its nozzles alone
same_nozzles : (b c : Book) (k : List Slot) → c.number ≡ b.number → c.nozzles ≡ b.nozzles → Sound b k → Sound c k
same_nozzles b c k n z s =
    record {
      names = λ i t e.
          let m = s.names i t e in
          record {
            here = m.here ∙ sym n;
            low = m.low;
            high = subst (λ (l : List NozzleState). t.nozzle ≤ length l) (sym z) m.high;
            out_there = ap (λ (l : List NozzleState). get_or l (t.nozzle - 1) InService) z ∙ m.out_there;
          };
      apart = s.apart;
    }

-- a write at another nozzle leaves a ticket's nozzle out
named_other : (b : Book) (n : ℕ) (v : NozzleState) (o : Outcome) (t : Ticket) → 1 ≤ n → t.nozzle ≢ n → Named b t → Named (with_nozzles b (with_state n v b.nozzles) o) t
named_other b n v o t low ne h =
    let l = h.low in
    let away : t.nozzle - 1 ≢ n - 1 = λ e. ne (omega arith) in
    record { here = h.here; low = h.low; high = rw length-set h.high; out_there = get_or-set_other b.nozzles (n - 1) (t.nozzle - 1) v InService away ∙ h.out_there }

-- the ticket of a slot is spent
freed : (b : Book) (k : List Slot) (s : ℕ) (t : Ticket) (v : NozzleState) (o : Outcome) → get_or k s free ≡ holding t → Sound b k → Sound (with_nozzles b (with_state t.nozzle v b.nozzles) o) (set k s free)
freed b k s t v o at-s h =
    record {
      names = λ i u e.
          elim (read_set k s i free u e) [
            | inl p ↦ absurd (free_held u p.1)
            | inr p ↦ named_other b t.nozzle v o u (h.names s t at-s).low (λ same. p.0 (h.apart i s u t p.1 at-s same)) (h.names i u p.1)
          ];
      apart = λ i j u w e f same.
          elim (read_set k s i free u e) [
            | inl p ↦ absurd (free_held u p.1)
            | inr p ↦ elim (read_set k s j free w f) [ inl q ↦ absurd (free_held w q.1) | inr q ↦ h.apart i j u w p.1 q.1 same ]
          ];
    }

-- a ticket of the job
abbrev ticket : ℕ → ℕ → Slot
ticket job n = holding (record { job = job; nozzle = n })

-- a ticket for a nozzle in service is put into a slot
filled : (b : Book) (k : List Slot) (s n : ℕ) (o : Outcome) → 1 ≤ n → n ≤ length b.nozzles → state_at b n ≡ InService → Sound b k → Sound (with_nozzles b (with_state n Out b.nozzles) o) (set k s (ticket b.number n))
filled b k s n o low high in-service h =
    let other : (i : ℕ) (u : Ticket) → get_or k i free ≡ holding u → u.nozzle ≢ n =
    λ i u e same. let z : ◌≡◌ {A = ℕ} 0 1 = cc ((h.names i u e).out_there, in-service, ap (state_at b) same) in omega arith in
    let there : n - 1 < length b.nozzles = omega arith in
    let mine : (u : Ticket) → ticket b.number n ≡ holding u → (u.job ≡ b.number) × (u.nozzle ≡ n) = λ u e. let o : (ticket b.number n).ticket ≡ Some u = ap (λ (x : Slot). x.ticket) e in (cc, cc) in
    let new : (u : Ticket) → ticket b.number n ≡ holding u → Named (with_nozzles b (with_state n Out b.nozzles) o) u =
    λ u e.
    let m = mine u e in
    record {
      here = m.0;
      low = omega arith;
      high = rw length-set (omega arith);
      out_there = ap (λ (x : ℕ). get_or (with_state n Out b.nozzles) (x - 1) InService) m.1 ∙ get_or-set_same b.nozzles (n - 1) Out InService there;
    } in
    record {
      names = λ i u e.
          elim (read_set k s i (ticket b.number n) u e) [
            | inl p ↦ new u p.1
            | inr p ↦ named_other b n Out o u low (other i u p.1) (h.names i u p.1)
          ];
      apart = λ i j u w e f same.
          elim (read_set k s i (ticket b.number n) u e) [
            | inl p ↦
                elim (read_set k s j (ticket b.number n) w f) [
                  | inl q ↦ p.0 ∙ sym q.0
                  | inr q ↦ absurd (other j w q.1 (sym same ∙ (mine u p.1).1))
                ]
            | inr p ↦
                elim (read_set k s j (ticket b.number n) w f) [
                  | inl q ↦ absurd (other i u p.1 (same ∙ (mine w q.1).1))
                  | inr q ↦ h.apart i j u w p.1 q.1 same
                ]
          ];
    }

at_some : (k : List Slot) (s : ℕ) (o : Option Turn) (t : Turn) → at k s o ≡ Some t → o ≡ Some t
at_some k s o t e = grind arith

fill_some : (o : Option Ticket) (u t : Turn) → fill (record { ticket = o }) u ≡ Some t → u ≡ t
fill_some None u t e = cc
fill_some (Some _) u t e = absurd (let z : ◌≡◌ {A = ℕ} 0 1 = cc in omega arith)

spend_some : (o : Option Ticket) (turn : ℕ → ℕ → Turn) (t : Turn) → spend (record { ticket = o }) turn ≡ Some t → (u : Ticket) × (record { ticket = o } ≡ holding u) × (turn u.job u.nozzle ≡ t)
spend_some None turn t e = absurd (let z : ◌≡◌ {A = ℕ} 0 1 = cc in omega arith)
spend_some (Some u) turn t e = (u, refl, cc)

is_in_service : (x : NozzleState) → serves x ≡ true → x ≡ InService
is_in_service InService e = refl
is_in_service Out e = absurd (let z : ◌≡◌ {A = ℕ} 0 1 = cc in omega arith)
is_in_service Scrapped e = absurd (let z : ◌≡◌ {A = ℕ} 0 1 = cc in omega arith)

may_take : (b : Book) (n : ℕ) → refusal b (take_out n) ≡ None → (1 ≤ n) × (n ≤ length b.nozzles) × (state_at b n ≡ InService)
may_take b n e = (grind (arith, nat_tests), grind (arith, nat_tests), is_in_service (state_at b n) (grind (arith, nat_tests)))

may_exchange : (b : Book) (job m n : ℕ) → refusal b (exchange job m n) ≡ None → (1 ≤ n) × (n ≤ length b.nozzles) × (state_at b n ≡ InService)
may_exchange b job m n e = (grind (arith, nat_tests), grind (arith, nat_tests), is_in_service (state_at b n) (grind (arith, nat_tests)))

-- a turn that is answered is refused or accepted
answered_so : (s : State) (t : Turn) (r : Reply) (s' : State) → Answered s t r s' → ((f : JobFault) × ((r ≡ refused f) × (s' ≡ s))) ⊎ Accepted s t r s'
answered_so s t (refused f) s' h = inl (f, (refl, h.same))
answered_so s t done s' h = inr h
answered_so s t (gave job nozzle) s' h = inr h
answered_so s t (ended o) s' h = inr h
answered_so s t (row bytes) s' h = inr h
answered_so s t (step x) s' h = inr h

-- a refusal leaves the rack
rack_stays : (q : Request) (f : JobFault) (k : List Slot) → rack_after q (refused f) k ≡ k
rack_stays (EnterQuantity t n) f k = refl
rack_stays (EnterMask t m l) f k = refl
rack_stays (TakeOut n s) f k = set-get_or k s free
rack_stays (GiveBack s) f k = set-get_or k s free
rack_stays (Scrap s) f k = set-get_or k s free
rack_stays (Exchange s n) f k = set-get_or k s free
rack_stays (Plan e) f k = refl
rack_stays (ShowSubtour n places) f k = refl
rack_stays (ShowStep n) f k = refl

-- the slot that a request names, after a reply
slot_set : (k l : List Slot) (s : ℕ) (r p : Reply) → l ≡ set k s (slot_after (get_or k s free) r) → r ≡ p → l ≡ set k s (slot_after (get_or k s free) p)
slot_set k l s r p h e = h ∙ ap (λ (x : Reply). set k s (slot_after (get_or k s free) x)) e

module _ (w v : World) where
  abbrev b : Book
  b = w.state.book

  abbrev k : List Slot
  k = w.rack

  -- neither a nozzle nor a ticket changes
  untouched : v.state.book.number ≡ b.number → v.state.book.nozzles ≡ b.nozzles → v.rack ≡ k → Sound b k → Sound v.state.book v.rack
  untouched n z e s = rw e (same_nozzles b v.state.book k n z s)

  by_book : (c : Book) (l : List Slot) → v.state.book ≡ c → v.rack ≡ l → Sound c l → Sound v.state.book v.rack
  by_book c l e f s = rw (e, f) s

  number_of : (c : Book) → v.state.book ≡ c → v.state.book.number ≡ c.number
  number_of c e = ap (λ (x : Book). x.number) e

  nozzles_of_book : (c : Book) → v.state.book ≡ c → v.state.book.nozzles ≡ c.nozzles
  nozzles_of_book c e = ap (λ (x : Book). x.nozzles) e

  book_of_state : (s : State) → v.state ≡ s → v.state.book ≡ s.book
  book_of_state s e = ap (λ (x : State). x.book) e

  module _ (r : Reply) where
    sound_fill : (s n : ℕ) → Accepted w.state (take_out n) r v.state → v.rack ≡ set k s (slot_after (get_or k s free) r) → Sound b k → Sound v.state.book v.rack
    sound_fill s n a e h =
        let m = may_take b n a.allowed in
        by_book _ _ (book_of_state _ a.accepts.1) (slot_set k v.rack s r _ e a.accepts.0) (filled b k s n Unplanned m.0 m.1 m.2 h)

    sound_swap : (s n : ℕ) (u : Ticket) → get_or k s free ≡ holding u → Accepted w.state (exchange u.job u.nozzle n) r v.state → v.rack ≡ set k s (slot_after (get_or k s free) r) → Sound b k → Sound v.state.book v.rack
    sound_swap s n u at-s a e h =
        let m = may_exchange b u.job u.nozzle n a.allowed in
        let away : n - 1 ≢ u.nozzle - 1 = λ same. let z : ◌≡◌ {A = ℕ} 0 1 = cc ((h.names s u at-s).out_there, m.2, ap (λ (i : ℕ). get_or b.nozzles i InService) same) in omega arith in
        let b' : Book = with_nozzles b (with_state u.nozzle InService b.nozzles) Unplanned in
        let kept = filled b' (set k s free) s n Unplanned m.0 (rw length-set m.1) (get_or-set_other b.nozzles (u.nozzle - 1) (n - 1) InService InService away ∙ m.2) (freed b k s u InService Unplanned at-s h) in
        by_book _ _ (book_of_state _ a.accepts.1) (slot_set k v.rack s r _ e a.accepts.0 ∙ sym (set-set k s free (ticket b.number n))) kept

    -- the turn that a request is
    abbrev After : Request → Turn → Type 0
    After q t = Accepted w.state t r v.state → v.rack ≡ rack_after q r k → Sound b k → Sound v.state.book v.rack

    sound_turn : (q : Request) (t : Turn) → turn_of q k w.counts ≡ Some t → After q t
    sound_turn (EnterQuantity n m) t e =
        let p : enter_quantity n m ≡ t = cc in
        subst (After (EnterQuantity n m)) p (λ a f h. let c = book_of_state _ a.accepts.1 in untouched (number_of _ c) (nozzles_of_book _ c) f h)
    sound_turn (EnterMask n m l) t e =
        let p : enter_mask n m l ≡ t = cc in
        subst (After (EnterMask n m l)) p (λ a f h. let c = book_of_state _ a.accepts.1 in untouched (number_of _ c) (nozzles_of_book _ c) f h)
    sound_turn (TakeOut n s) t e = subst (After (TakeOut n s)) (fill_some (get_or k s free).ticket (take_out n) t (at_some k s _ t e)) (sound_fill s n)
    sound_turn (GiveBack s) t e =
        let p = spend_some (get_or k s free).ticket give_back t (at_some k s _ t e) in
        subst (After (GiveBack s)) p.2 (λ a f h. by_book _ _ (book_of_state _ a.accepts.1) (slot_set k v.rack s r _ f a.accepts.0) (freed b k s p.0 InService Unplanned p.1 h))
    sound_turn (Scrap s) t e =
        let p = spend_some (get_or k s free).ticket scrap t (at_some k s _ t e) in
        subst (After (Scrap s)) p.2 (λ a f h. by_book _ _ (book_of_state _ a.accepts.1) (slot_set k v.rack s r _ f a.accepts.0) (freed b k s p.0 Scrapped b.outcome p.1 h))
    sound_turn (Exchange s n) t e =
        let p = spend_some (get_or k s free).ticket (λ job own. exchange job own n) t (at_some k s _ t e) in subst (After (Exchange s n)) p.2 (sound_swap s n p.0 p.1)
    sound_turn (Plan i) t e =
        let p : plan ≡ t = plan_is w.counts i t e in
        subst (After (Plan i)) p (λ a f h. let c = a.accepts.1.2 in untouched (number_of _ c) (nozzles_of_book _ c) f h)
      where
        plan_is : (counts : List ℕ) (i : ℕ) (t : Turn) → at counts i (Some plan) ≡ Some t → plan ≡ t
        plan_is counts i t e = grind arith
    sound_turn (ShowSubtour n places) t e =
        let p : show_subtour n places ≡ t = cc in
        subst (After (ShowSubtour n places)) p (λ a f h. let c = book_of_state _ a.accepts.1 in untouched (number_of _ c) (nozzles_of_book _ c) f h)
    sound_turn (ShowStep n) t e =
        let p : show_step n ≡ t = cc in
        subst (After (ShowStep n)) p (λ a f h. let c = book_of_state _ a.accepts.1 in untouched (number_of _ c) (nozzles_of_book _ c) f h)

  sound_pair : (q : Request) (o : Option Turn) (r : Option Reply) → turn_of q k w.counts ≡ o → Paired o r (λ t r. Turned w q t r v) (v ≡ w) → Sound b k → Sound v.state.book v.rack
  sound_pair q (Some t) (Some r) e h s =
      elim (answered_so w.state t r v.state h.happens.answered) [
        | inl x ↦
            let c = book_of_state _ x.1.1 in
            untouched (number_of _ c) (nozzles_of_book _ c) (h.rack ∙ (ap (λ (y : Reply). rack_after q y k) x.1.0 ∙ rack_stays q x.0 k)) s
        | inr a ↦ sound_turn r q t e a h.rack s
      ]
  sound_pair q None None e h s = rw h s
  sound_pair q (Some t) None e h s = absurd h
  sound_pair q None (Some r) e h s = absurd h

  pub sound_does : (q : Request) (a : Answer) → Does w q a v → Sound b k → Sound v.state.book v.rack
  sound_does q a h s = sound_pair q (turn_of q k w.counts) (said a) refl h s

pub sound_kept : {w v : World} {qs : List Request} {rs : List Answer} → Carried w qs rs v → Sound w.state.book w.rack → Sound v.state.book v.rack
sound_kept stop s = s
sound_kept (next {w = w} {v = v} {q = q} {a = a} d c) s = sound_kept c (sound_does w v q a d s)

-- a ticket of a sound rack is taken back, so that its slot is then free
taken_back : (b : Book) (u : Ticket) → Named b u → refusal b (give_back u.job u.nozzle) ≡ None
taken_back b u m = let e : is_out (state_at b u.nozzle) ≡ true = ap is_out m.out_there in grind (arith, nat_tests)

module _ (w v : World) (i : ℕ) where
  freed_slot : (o : Option Ticket) (r : Option Reply) → get_or w.rack i free ≡ record { ticket = o } → i < length w.rack → Paired (spend (record { ticket = o }) give_back) r (λ t r. Turned w (GiveBack i) t r v) (v ≡ w) → Sound w.state.book w.rack → get_or v.rack i free ≡ free
  freed_slot None None e l h s = rw h e
  freed_slot None (Some r) e l h s = absurd h
  freed_slot (Some u) None e l h s = absurd h
  freed_slot (Some u) (Some r) e l h s =
      elim (answered_so w.state (give_back u.job u.nozzle) r v.state h.happens.answered) [
        | inl x ↦ absurd (let z : ◌≡◌ {A = ℕ} 0 1 = cc (taken_back w.state.book u (s.names i u e), refused_so r x.0 x.1.0 h.happens.answered) in omega arith)
        | inr a ↦ ap (λ (l : List Slot). get_or l i free) (slot_set w.rack v.rack i r done h.rack a.accepts.0) ∙ get_or-set_same w.rack i free free l
      ]
    where
      refused_so : (r : Reply) (f : JobFault) → r ≡ refused f → Answered w.state (give_back u.job u.nozzle) r v.state → refusal w.state.book (give_back u.job u.nozzle) ≡ Some f
      refused_so r f e h = (subst (λ (x : Reply). Answered w.state (give_back u.job u.nozzle) x v.state) e h).fault

  others_stay : (o : Option Turn) (r : Option Reply) (j : ℕ) → j ≢ i → Paired o r (λ t r. Turned w (GiveBack i) t r v) (v ≡ w) → get_or v.rack j free ≡ get_or w.rack j free
  others_stay (Some t) (Some r) j ne h = ap (λ (l : List Slot). get_or l j free) h.rack ∙ get_or-set_other w.rack i j (slot_after (get_or w.rack i free) r) free ne
  others_stay None None j ne h = ap (λ (x : World). get_or x.rack j free) h
  others_stay (Some t) None j ne h = absurd h
  others_stay None (Some r) j ne h = absurd h

  pub one_free : (a : Answer) → i < length w.rack → Does w (GiveBack i) a v → Sound w.state.book w.rack → ((j : ℕ) → j < i → get_or w.rack j free ≡ free) → (j : ℕ) → j < i + 1 → get_or v.rack j free ≡ free
  one_free a l h s before j lj =
      elim (cases_eq j i) [
        | inl e ↦ rw e (freed_slot (get_or w.rack i free).ticket (said a) refl l (rw (lt-ltb i (length w.rack) l) at h) s)
        | inr n ↦ others_stay _ (said a) j n h ∙ before j (omega arith)
      ]
