-- A reading stops at the first byte that no well-made file has there.
use Rattle.std.proofs.Common.{◌≡◌, ℕ, zero, suc, ◌+◌, ◌-◌, ◌*◌, ◌^◌, ◌<◌, ◌≤◌, Bool, true, false, cond, ◌&&◌, ltb, leb, List, [], ◌∷◌, ◌++◌, length, take, Some, None, Ok, sym, refl, ap, ◌∙◌, subst, append_assoc, append-nil, arith, length-append, pow_pos, lt-ltb}
use Rattle.jobformat.specs.Reading.{Parse, got, short, bad, then, number, number_if, mask, mask_if, graphics, name, name_if, field_if, has, is_map, fields, entry, records, header, ended, file, verdict, reading}
use Rattle.std.proofs.lemmas.List.{take_at}
use Rattle.jobformat.specs.declared.FileFault.TheVariants.{BadByte}
use Rattle.jobformat.specs.Format.{Contents, graphic, AllBytes, FileOf, IsFile, Begins, FirstFault, Answers}
use Rattle.jobformat.proofs.Back.{file_back}
use Rattle.jobformat.proofs.Only.{file_only, not_bad, not_short}

-- front can be continued to what P reads whole
abbrev Completion : {X : Type 0} → (List ℕ → Parse X) → List ℕ → Type 0
Completion {X = X} P front = (ext : List ℕ) × (x : X) × AllBytes ext × ((t : List ℕ) → P (front ++ (ext ++ t)) ≡ got x t)

pub record Read {X : Type 0} (P : List ℕ → Parse X) (bs : List ℕ) (x : X) (rest : List ℕ) : Type 0 where
  pub used : List ℕ
  pub split : bs ≡ used ++ rest
  pub always : (t : List ℕ) → P (used ++ t) ≡ got x t

pub record Wrong {X : Type 0} (P : List ℕ → Parse X) (bs : List ℕ) (m : ℕ) : Type 0 where
  pub front : List ℕ
  pub byte : ℕ
  pub tail : List ℕ
  pub split : bs ≡ front ++ byte ∷ tail
  pub place : length (byte ∷ tail) ≡ m
  pub always : (t : List ℕ) → P (front ++ byte ∷ t) ≡ bad (length (byte ∷ t))
  pub viable : Completion P front

abbrev Told : {X : Type 0} → (List ℕ → Parse X) → List ℕ → Parse X → Type 0
Told P bs (got x rest) = Read P bs x rest
Told P bs short = Completion P bs
Told P bs (bad m) = Wrong P bs m

abbrev Good : {X : Type 0} → (List ℕ → Parse X) → Type 0
Good P = (bs : List ℕ) → Told P bs (P bs)

both_bytes : (xs ys : List ℕ) → AllBytes xs → AllBytes ys → AllBytes (xs ++ ys)
both_bytes [] ys h k = k
both_bytes (x ∷ xs) ys h k = (h.0, both_bytes xs ys h.1 k)

none_before : (front tail : List ℕ) (b : ℕ) → [] ≡ front ++ b ∷ tail → ⊥
none_before [] tail b p = let z : ◌≡◌ {A = ℕ} 0 1 = cc in omega arith
none_before (f ∷ fs) tail b p = let z : ◌≡◌ {A = ℕ} 0 1 = cc in omega arith

complete_from : {X : Type 0} (P : List ℕ → Parse X) (g : Parse X) → Told P [] g → Completion P []
complete_from P (got x rest) r =
    let K : List ℕ → Type 0 = λ used. [] ≡ used ++ rest → ((t : List ℕ) → P (used ++ t) ≡ got x t) → Completion P [] in
    elim r.used as K [ [] ↦ λ s a. ([], x, tt, a) | ◌∷◌ u us ↦ λ s a. (let z : ◌≡◌ {A = ℕ} 0 1 = cc in absurd (omega arith)) ] r.split r.always
complete_from P short c = c
complete_from P (bad m) w = absurd (none_before w.front w.tail w.byte w.split)

complete : {X : Type 0} (P : List ℕ → Parse X) → Good P → Completion P []
complete P good = complete_from P (P []) (good [])

module _ {X Y : Type 0} (P : List ℕ → Parse X) (Q : X → List ℕ → Parse Y) (gp : Good P) (gq : (x : X) → Good (Q x)) where
  abbrev R : List ℕ → Parse Y
  R bs = then (P bs) Q

  step : (l : List ℕ) (x : X) (r : List ℕ) (g : Parse Y) → P l ≡ got x r → Q x r ≡ g → R l ≡ g
  step l x r g p q = ap (λ h. then h Q) p ∙ q

  onward : (front : List ℕ) → Completion P front → Completion R front
  onward front c =
      let d = complete (Q c.1) (gq c.1) in (
        c.0 ++ d.0,
        d.1,
        both_bytes c.0 d.0 c.2 d.2,
        λ t. ap (λ l. R (front ++ l)) (append_assoc c.0 d.0 t) ∙ step _ c.1 (d.0 ++ t) (got d.1 t) (c.3 (d.0 ++ t)) (d.3 t),
      )

  lift : (bs : List ℕ) (x : X) (mid : List ℕ) → Read P bs x mid → (g : Parse Y) → Told (Q x) mid g → Told R bs g
  lift bs x mid r (got y end) s = record {
    used = r.used ++ s.used;
    split = r.split ∙ ap (λ l. r.used ++ l) s.split ∙ sym (append_assoc r.used s.used end);
    always = λ t. ap R (append_assoc r.used s.used t) ∙ step _ x (s.used ++ t) (got y t) (r.always (s.used ++ t)) (s.always t);
  }
  lift bs x mid r short c = (
    c.0,
    c.1,
    c.2,
    λ t. ap (λ l. R (l ++ (c.0 ++ t))) r.split ∙ ap R (append_assoc r.used mid (c.0 ++ t)) ∙ step _ x (mid ++ (c.0 ++ t)) (got c.1 t) (r.always (mid ++ (c.0 ++ t))) (c.3 t),
  )
  lift bs x mid r (bad m) w =
      let c = w.viable in
      record {
        front = r.used ++ w.front;
        byte = w.byte;
        tail = w.tail;
        split = r.split ∙ ap (λ l. r.used ++ l) w.split ∙ sym (append_assoc r.used w.front (w.byte ∷ w.tail));
        place = w.place;
        always = λ t. ap R (append_assoc r.used w.front (w.byte ∷ t)) ∙ step _ x (w.front ++ w.byte ∷ t) (bad (length (w.byte ∷ t))) (r.always (w.front ++ w.byte ∷ t)) (w.always t);
        viable = (
          c.0,
          c.1,
          c.2,
          λ t. ap R (append_assoc r.used w.front (c.0 ++ t)) ∙ step _ x (w.front ++ (c.0 ++ t)) (got c.1 t) (r.always (w.front ++ (c.0 ++ t))) (c.3 t),
        );
      }

  then_told : (bs : List ℕ) (g : Parse X) → Told P bs g → Told R bs (then g Q)
  then_told bs (got x mid) r = lift bs x mid r (Q x mid) (gq x mid)
  then_told bs short c = onward bs c
  then_told bs (bad m) w = record {
    front = w.front;
    byte = w.byte;
    tail = w.tail;
    split = w.split;
    place = w.place;
    always = λ t. ap (λ h. then h Q) (w.always t);
    viable = onward w.front w.viable;
  }

  then_good : Good R
  then_good bs = then_told bs (P bs) (gp bs)

got_good : {X : Type 0} (x : X) → Good (λ bs. got x bs)
got_good x bs = record { used = []; split = refl; always = λ t. refl }

abbrev byte_that : (ℕ → Bool) → List ℕ → Parse ℕ
byte_that f [] = short
byte_that f (b ∷ bs) = cond (f b) (got b bs) (bad (length (b ∷ bs)))

byte_good : (f : ℕ → Bool) (w : ℕ) → w < 256 → f w ≡ true → Good (byte_that f)
byte_good f w h e [] = (w ∷ [], w, (h, tt), λ t. rw e)
byte_good f w h e (b ∷ bs) =
    let K : Bool → Type 0 = λ v. f b ≡ v → Told (byte_that f) (b ∷ bs) (cond v (got b bs) (bad (length (b ∷ bs)))) in
    elim (f b) as K [
      | true ↦ λ y. record { used = b ∷ []; split = refl; always = λ t. rw y }
      | false ↦ λ y. record { front = []; byte = b; tail = bs; split = refl; place = refl; always = λ t. rw y; viable = (w ∷ [], w, (h, tt), λ t. rw e) }
    ] refl

-- what reads alike is as good
alike : {X : Type 0} (P Q : List ℕ → Parse X) → ((bs : List ℕ) → P bs ≡ Q bs) → Good P → Good Q
alike P Q e good = subst Good (λ i bs. e bs i) good

then-cond : {X Y : Type 0} (b : Bool) (g h : Parse X) (f : X → List ℕ → Parse Y) → then (cond b g h) f ≡ cond b (then g f) (then h f)
then-cond true g h f = refl
then-cond false g h f = refl

then-then : {X Y Z : Type 0} (g : Parse X) (f : X → List ℕ → Parse Y) (h : Y → List ℕ → Parse Z) → then (then g f) h ≡ then g (λ x r. then (f x r) h)
then-then (got x r) f h = refl
then-then short f h = refl
then-then (bad n) f h = refl

abbrev any : ℕ → Bool
any b = true

number_good : Good number
number_good =
    alike (λ bs. then (byte_that any bs) (λ a r. then (byte_that any r) (λ b r. got (a + 256 * b) r))) number same
    (then_good (byte_that any) _ (byte_good any 0 (omega arith) refl) (λ a. then_good (byte_that any) _ (byte_good any 0 (omega arith) refl) (λ b. got_good _)))
  where
    same : (bs : List ℕ) → then (byte_that any bs) (λ a r. then (byte_that any r) (λ b r. got (a + 256 * b) r)) ≡ number bs
    same [] = refl
    same (a ∷ []) = refl
    same (a ∷ b ∷ bs) = refl

field_if_good : {X : Type 0} (present : Bool) (P : List ℕ → Parse X) → Good P → Good (λ bs. field_if present (P bs) bs)
field_if_good false P good = got_good None
field_if_good true P good = then_good P _ good (λ x. got_good (Some x))

mask_good : (r : ℕ) → Good (mask r)
mask_good r = alike (byte_that (λ b. ltb b (2 ^ r))) (mask r) same (byte_good (λ b. ltb b (2 ^ r)) 0 (omega arith) (lt-ltb 0 (2 ^ r) (pow_pos r)))
  where
    same : (bs : List ℕ) → byte_that (λ b. ltb b (2 ^ r)) bs ≡ mask r bs
    same [] = refl
    same (b ∷ bs) = refl

graphics_good : (n : ℕ) → Good (λ bs. graphics bs n)
graphics_good zero = got_good []
graphics_good (suc n) =
    alike (λ bs. then (byte_that graphic bs) (λ b r. then (graphics r n) (λ name rest. got (b ∷ name) rest))) (λ bs. graphics bs (suc n)) same
    (then_good (byte_that graphic) _ (byte_good graphic 65 (omega arith) refl) (λ b. then_good (λ r. graphics r n) _ (graphics_good n) (λ name. got_good (b ∷ name))))
  where
    same : (bs : List ℕ) → then (byte_that graphic bs) (λ b r. then (graphics r n) (λ name rest. got (b ∷ name) rest)) ≡ graphics bs (suc n)
    same [] = refl
    same (b ∷ bs) = then-cond (graphic b) (got b bs) (bad (length (b ∷ bs))) _

abbrev name_size : ℕ → Bool
name_size n = leb 1 n && leb n 20

name_good : Good name
name_good =
    alike (λ bs. then (byte_that name_size bs) (λ n r. graphics r n)) name same
    (then_good (byte_that name_size) _ (byte_good name_size 1 (omega arith) refl) graphics_good)
  where
    same : (bs : List ℕ) → then (byte_that name_size bs) (λ n r. graphics r n) ≡ name bs
    same [] = refl
    same (n ∷ bs) = then-cond (name_size n) (got n bs) (bad (length (n ∷ bs))) _

fields_good : (r m : ℕ) → Good (fields r m)
fields_good r m =
    then_good (number_if (has m 1)) _ (field_if_good (has m 1) number number_good) (λ q. then_good (mask_if (has m 2) r) _ (field_if_good (has m 2) (mask r) (mask_good r)) (λ k. then_good (number_if (has m 4)) _ (field_if_good (has m 4) number number_good) (λ l. then_good (name_if (has m 8)) _ (field_if_good (has m 8) name name_good) (λ n. got_good _))))

entry_good : (r : ℕ) → Good (entry r)
entry_good r =
    alike (λ bs. then (byte_that is_map bs) (fields r)) (entry r) same
    (then_good (byte_that is_map) (fields r) (byte_good is_map 0 (omega arith) refl) (fields_good r))
  where
    same : (bs : List ℕ) → then (byte_that is_map bs) (fields r) ≡ entry r bs
    same [] = refl
    same (m ∷ bs) = then-cond (is_map m) (got m bs) (bad (length (m ∷ bs))) (fields r)

records_good : (r n : ℕ) → Good (records r n)
records_good r zero = got_good []
records_good r (suc n) = then_good (entry r) _ (entry_good r) (λ e. then_good (records r n) _ (records_good r n) (λ es. got_good (e ∷ es)))

abbrev types : ℕ → Bool
types k = leb 1 k && leb k 24

abbrev nozzles : ℕ → Bool
nozzles r = leb 1 r && leb r 8

header_good : Good header
header_good =
    alike (λ bs. then (byte_that types bs) (λ k rest. then (byte_that nozzles rest) (λ r body. got (k, r) body))) header same
    (then_good (byte_that types) _ (byte_good types 1 (omega arith) refl) (λ k. then_good (byte_that nozzles) _ (byte_good nozzles 1 (omega arith) refl) (λ r. got_good (k, r))))
  where
    same : (bs : List ℕ) → then (byte_that types bs) (λ k rest. then (byte_that nozzles rest) (λ r body. got (k, r) body)) ≡ header bs
    same [] = refl
    same (k ∷ []) = then-cond (types k) (got k []) (bad 1) _
    same (k ∷ r ∷ bs) = then-cond (types k) (got k (r ∷ bs)) (bad (length (k ∷ r ∷ bs))) _ ∙ ap (λ g. cond (types k) g (bad (length (k ∷ r ∷ bs)))) (then-cond (nozzles r) (got r bs) (bad (length (r ∷ bs))) _)

-- a file and what follows it
abbrev front : List ℕ → Parse Contents
front bs = then (header bs) (λ h body. then (records h.1 h.0 body) (λ es rest. got (record { types = h.0; nozzles = h.1; entries = es }) rest))

front_good : Good front
front_good = then_good header _ header_good (λ h. then_good (records h.1 h.0) _ (records_good h.1 h.0) (λ es. got_good _))

abbrev end : Contents → List ℕ → Parse Contents
end j rest = ended j rest

file_is : (bs : List ℕ) → then (front bs) end ≡ file bs
file_is bs =
    let inner : (h : ℕ × ℕ) (body : List ℕ) → then (then (records h.1 h.0 body) (λ es rest. got (record { types = h.0; nozzles = h.1; entries = es }) rest)) end ≡ then (records h.1 h.0 body) (λ es rest. ended (record { types = h.0; nozzles = h.1; entries = es }) rest) = λ h body. then-then (records h.1 h.0 body) _ end in
    then-then (header bs) _ end ∙ ap (then (header bs)) (λ i h body. inner h body i)

-- a completion is a well-made file
begins : (bs : List ℕ) → AllBytes bs → Completion front bs → Begins bs
begins bs h c =
    let read : file (bs ++ c.0) ≡ got c.1 [] =
    sym (file_is (bs ++ c.0)) ∙ ap (λ g. then g end) (ap (λ l. front (bs ++ l)) (sym (append-nil c.0)) ∙ c.3 []) in
    (c.0, (c.1, file_only (bs ++ c.0) c.1 [] (both_bytes bs c.0 h c.2) read))

-- a file is read as what it says
reads_file : (bs : List ℕ) (c : Contents) → FileOf bs c → file bs ≡ got c []
reads_file bs c f = ap file f.bytes ∙ file_back c f.formed

-- no file has a byte at which reading always stops
never : (bs : List ℕ) → ((t : List ℕ) → (n : ℕ) × (file (bs ++ t) ≡ bad n)) → Begins bs → ⊥
never bs h b =
    let s = h b.0 in
    not_bad (sym s.1 ∙ reads_file (bs ++ b.0) b.1.0 b.1.1)

earlier : (xs ys : List ℕ) → AllBytes (xs ++ ys) → AllBytes xs
earlier [] ys h = tt
earlier (x ∷ xs) ys h = (h.0, earlier xs ys h.1)

-- the first wrong byte, from the place where it stands
at_byte : (bs xs tail : List ℕ) (b m : ℕ) → AllBytes bs → bs ≡ xs ++ b ∷ tail → length (b ∷ tail) ≡ m → Completion front xs → ((t : List ℕ) → (n : ℕ) × (file (xs ++ b ∷ t) ≡ bad n)) → FirstFault bs (BadByte (length bs - m))
at_byte bs xs tail b m h split place viable stops =
    let long : length bs ≡ length xs + length (b ∷ tail) = ap length split ∙ length-append xs (b ∷ tail) in
    let here : length bs - m ≡ length xs = omega arith in
    let upto : take (length xs) bs ≡ xs = ap (take (length xs)) split ∙ take_at xs (b ∷ tail) _ refl in
    let split₁ : bs ≡ (xs ++ b ∷ []) ++ tail = split ∙ sym (append_assoc xs (b ∷ []) tail) in
    let more : take (length xs + 1) bs ≡ xs ++ b ∷ [] = ap (take (length xs + 1)) split₁ ∙ take_at (xs ++ b ∷ []) tail _ (length-append xs (b ∷ [])) in
    rw here (
      omega arith,
      subst Begins (sym upto) (begins xs (earlier xs (b ∷ tail) (subst AllBytes split h)) viable),
      λ g. never (xs ++ b ∷ []) (λ t. ((stops t).0, ap file (append_assoc xs (b ∷ []) t) ∙ (stops t).1)) (subst Begins more g),
    )

absurdly : {A : Type 0} {m : ℕ} → ◌≡◌ {A = Parse Contents} short (bad m) → A
absurdly p = let z : ◌≡◌ {A = ℕ} 0 1 = cc in absurd (omega arith)

same_bad : (m n : ℕ) → ◌≡◌ {A = Parse Contents} (bad m) (bad n) → m ≡ n
same_bad m n p = cc

module _ (bs : List ℕ) (h : AllBytes bs) where
  cut_off : (g : Parse Contents) → Told front bs g → short ≡ then g end → Begins bs
  cut_off (got j []) r e = absurd (not_short e)
  cut_off (got j (b ∷ rest)) r e = absurdly e
  cut_off short c e = begins bs h c
  cut_off (bad n) w e = absurdly e

  wrong : (m : ℕ) (g : Parse Contents) → Told front bs g → bad m ≡ then g end → FirstFault bs (BadByte (length bs - m))
  wrong m (got j []) r e = absurd (not_bad e)
  wrong m (got j (b ∷ rest)) r e =
      let used = r.used in
      let done : Completion front used = ([], j, tt, r.always) in
      at_byte bs used rest b m h r.split (sym (same_bad m _ e)) done (λ t. (length (b ∷ t), sym (file_is (used ++ b ∷ t)) ∙ ap (λ g. then g end) (r.always (b ∷ t))))
  wrong m short c e = absurdly (sym e)
  wrong m (bad n) w e =
      at_byte bs w.front w.tail w.byte m h w.split (w.place ∙ sym (same_bad m n e)) w.viable (λ t. (length (w.byte ∷ t), sym (file_is (w.front ++ w.byte ∷ t)) ∙ ap (λ g. then g end) (w.always t)))

  behind : (m : ℕ) (xs tail : List ℕ) (b : ℕ) → bs ≡ xs ++ b ∷ tail → length (b ∷ tail) ≡ m → m ≤ length bs
  behind m xs tail b split place = let long = ap length split ∙ length-append xs (b ∷ tail) in omega arith

  inside : (m : ℕ) (g : Parse Contents) → Told front bs g → bad m ≡ then g end → m ≤ length bs
  inside m (got j []) r e = absurd (not_bad e)
  inside m (got j (b ∷ rest)) r e = behind m r.used rest b r.split (sym (same_bad m _ e))
  inside m short c e = absurdly (sym e)
  inside m (bad n) w e = behind m w.front w.tail w.byte w.split (w.place ∙ sym (same_bad m n e))

  -- a wrong byte is one of the file's
  pub bad_within : (m : ℕ) → bad m ≡ file bs → m ≤ length bs
  bad_within m p = inside m (front bs) (front_good bs) (p ∙ sym (file_is bs))

  -- what opening a file answers is right, whatever the reading gave
  pub answers : (g : Parse Contents) → g ≡ file bs → Answers bs (verdict (length bs) g)
  answers (got c rest) p = file_only bs c rest h (sym p)
  answers short p =
      let none : IsFile bs → ⊥ = λ f. not_short (p ∙ reads_file bs f.0 f.1) in
      (none, (refl, cut_off (front bs) (front_good bs) (p ∙ sym (file_is bs)), none))
  answers (bad m) p = (λ f. not_bad (p ∙ reads_file bs f.0 f.1), wrong m (front bs) (front_good bs) (p ∙ sym (file_is bs)))

-- the bytes of what a file says are read as just that
pub reads_back : (bs : List ℕ) (c : Contents) → FileOf bs c → reading bs ≡ Ok c
reads_back bs c f = ap (verdict (length bs)) (reads_file bs c f)
