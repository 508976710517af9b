-- What is read is what would be written.
use Rattle.std.proofs.Common.{◌≡◌, ℕ, zero, suc, ◌+◌, ◌*◌, ◌/◌, ◌%◌, ◌^◌, ◌<◌, Bool, true, false, cond, not, ◌&&◌, ◌||◌, eqb, ltb, leb, List, [], ◌∷◌, ◌++◌, length, get_or, is_some, Some, None, Option, sym, refl, ap, ◌∙◌, subst, ⊎_elim, append_assoc, append-nil, arith}
use Rattle.std.proofs.lemmas.Bool.{and_parts, and_from, ltb-true, leb-true, eqb-true, cases_eq}
use Rattle.std.specs.List.{flat_map}
use Rattle.jobformat.specs.Reading.{Parse, got, short, bad, then, has, is_map, graphics, number_if, mask, mask_if, name, name_if, fields, entry, records, header, file, ended}
use Rattle.jobformat.specs.Format.{Entry, Contents, number_bytes, mask_bytes, name_bytes, encode, graphic, all_graphic, name_fits, mask_fits, TwoBytes, Fine, AllFine, FileOf, AllBytes}
use Rattle.jobformat.proofs.Back.{bits}

got_both : {X : Type 0} {x y : X} {r s : List ℕ} → got x r ≡ got y s → (x ≡ y) × (r ≡ s)
got_both p = (cc, cc)

pub not_short : {X : Type 0} {y : X} {s : List ℕ} → short ≡ got y s → ⊥
not_short p = let z : ◌≡◌ {A = ℕ} 0 1 = cc in omega arith

pub not_bad : {X : Type 0} {y : X} {n : ℕ} {s : List ℕ} → bad n ≡ got y s → ⊥
not_bad p = let z : ◌≡◌ {A = ℕ} 0 1 = cc in omega arith

then_got : {X Y : Type 0} (g : Parse X) (f : X → List ℕ → Parse Y) {y : Y} {end : List ℕ} → then g f ≡ got y end → (x : X) × (mid : List ℕ) × (g ≡ got x mid) × (f x mid ≡ got y end)
then_got (got x mid) f p = (x, mid, refl, p)
then_got short f p = absurd (not_short p)
then_got (bad n) f p = absurd (not_bad p)

cond_got : {X : Type 0} (b : Bool) (g : Parse X) (n : ℕ) {y : X} {end : List ℕ} → cond b g (bad n) ≡ got y end → (b ≡ true) × (g ≡ got y end)
cond_got true g n p = (refl, p)
cond_got false g n p = absurd (not_bad p)

pub later_bytes : (xs rest : List ℕ) → AllBytes (xs ++ rest) → AllBytes rest
later_bytes [] rest h = h
later_bytes (x ∷ xs) rest h = later_bytes xs rest h.1

-- a field's bytes, and what it holds
pub record Field {X : Type 0} (enc : Option X → List ℕ) (Ok : Option X → Type 0) (b : Bool) (bs : List ℕ) (o : Option X) (rest : List ℕ) : Type 0 where
  pub bytes : bs ≡ enc o ++ rest
  pub there : is_some o ≡ b
  pub ok : Ok o

number_only : (b : Bool) (bs : List ℕ) (o : Option ℕ) (rest : List ℕ) → AllBytes bs → number_if b bs ≡ got o rest → Field number_bytes TwoBytes b bs o rest
number_only false bs None rest h p = record { bytes = (got_both p).1; there = refl; ok = tt }
number_only false bs (Some n) rest h p = absurd (let z : ◌≡◌ {A = ℕ} 0 1 = cc in omega arith)
number_only true [] o rest h p = absurd (not_short p)
number_only true (a ∷ []) o rest h p = absurd (not_short p)
number_only true (a ∷ b ∷ bs) None rest h p = absurd (let z : ◌≡◌ {A = ℕ} 0 1 = cc in omega arith)
number_only true (a ∷ b ∷ bs) (Some n) rest h p =
    let e : a + 256 * b ≡ n = cc in
    let same : bs ≡ rest = cc in
    let lo = h.0 in
    let hi = h.1.0 in
    let low : a ≡ n % 256 = omega arith in
    let high : b ≡ n / 256 = omega arith in
    record { bytes = cc; there = refl; ok = omega arith }

mask_only : (b : Bool) (r : ℕ) (bs : List ℕ) (o : Option ℕ) (rest : List ℕ) → mask_if b r bs ≡ got o rest → Field mask_bytes (λ o. mask_fits r o ≡ true) b bs o rest
mask_only false r bs None rest p = record { bytes = (got_both p).1; there = refl; ok = refl }
mask_only false r bs (Some m) rest p = absurd (let z : ◌≡◌ {A = ℕ} 0 1 = cc in omega arith)
mask_only true r [] o rest p = absurd (not_short p)
mask_only true r (m ∷ bs) o rest p =
    let t = then_got (mask r (m ∷ bs)) (λ m rest. got (Some m) rest) p in
    let u = cond_got (ltb m (2 ^ r)) (got m bs) (length (m ∷ bs)) t.2 in
    let v = got_both u.1 in
    let w = got_both t.3 in
    let is : o ≡ Some m = cc in
    let same : bs ≡ rest = cc in
    rw is (record { bytes = cc; there = refl; ok = u.0 })

graphics_only : (bs : List ℕ) (m : ℕ) (n rest : List ℕ) → graphics bs m ≡ got n rest → (bs ≡ n ++ rest) × (length n ≡ m) × (all_graphic n ≡ true)
graphics_only bs zero n rest p = let v = got_both p in rw (sym v.0) (v.1, refl, refl)
graphics_only [] (suc m) n rest p = absurd (not_short p)
graphics_only (b ∷ bs) (suc m) n rest p =
    let u = cond_got (graphic b) (then (graphics bs m) (λ name rest. got (b ∷ name) rest)) (length (b ∷ bs)) p in
    let t = then_got (graphics bs m) (λ name rest. got (b ∷ name) rest) u.1 in
    let v = got_both t.3 in
    let i = graphics_only bs m t.0 t.1 t.2 in
    rw (sym v.0) (ap (λ l. b ∷ l) (i.0 ∙ ap (λ l. t.0 ++ l) v.1), ap suc i.1, and_from (graphic b) (all_graphic t.0) u.0 i.2)

name_only : (b : Bool) (bs : List ℕ) (o : Option (List ℕ)) (rest : List ℕ) → name_if b bs ≡ got o rest → Field name_bytes (λ o. name_fits o ≡ true) b bs o rest
name_only false bs None rest p = record { bytes = (got_both p).1; there = refl; ok = refl }
name_only false bs (Some m) rest p = absurd (let z : ◌≡◌ {A = ℕ} 0 1 = cc in omega arith)
name_only true [] o rest p = absurd (not_short p)
name_only true (m ∷ bs) o rest p =
    let t = then_got (name (m ∷ bs)) (λ n rest. got (Some n) rest) p in
    let u = cond_got (leb 1 m && leb m 20) (graphics bs m) (length (m ∷ bs)) t.2 in
    let i = graphics_only bs m t.0 t.1 u.1 in
    let w = got_both t.3 in
    let q = and_parts (leb 1 m) (leb m 20) u.0 in
    rw (sym w.0) (record {
      bytes = let h = sym i.1 in let g = i.0 ∙ ap (λ l. t.0 ++ l) w.1 in (λ k. h k ∷ g k);
      there = refl;
      ok = rw i.1 (and_from (leb 1 m) (leb m 20 && all_graphic t.0) q.0 (and_from (leb m 20) (all_graphic t.0) q.1 i.2));
    })

-- a map byte is its bits
abbrev all_below : (ℕ → Bool) → ℕ → Bool
all_below f zero = true
all_below f (suc n) = f n && all_below f n

below_all : (f : ℕ → Bool) (n m : ℕ) → all_below f n ≡ true → m < n → f m ≡ true
below_all f zero m h l = absurd (omega arith)
below_all f (suc n) m h l =
    let p = and_parts (f n) (all_below f n) h in
    ⊎_elim (λ e. rw e p.0) (λ less. below_all f n m p.1 (omega arith)) (cases_eq m n)

abbrev bits_of : ℕ → ℕ
bits_of m = bits (has m 1) (has m 2) (has m 4) (has m 8)

map_only : (m : ℕ) → is_map m ≡ true → (m ≡ bits_of m) × ((not (has m 4) || has m 2) ≡ true)
map_only m h =
    let p = and_parts (ltb m 16) (not (has m 4) || has m 2) h in
    let small = ltb-true m 16 p.0 in
    (sym (eqb-true (bits_of m) m (below_all (λ m. eqb (bits_of m) m) 16 m refl small)), p.1)

together : (r m : ℕ) (b₀ b₁ b₂ b₃ rest : List ℕ) (q k l : Option ℕ) (n : Option (List ℕ)) → m ≡ bits_of m → (not (has m 4) || has m 2) ≡ true → Field number_bytes TwoBytes (has m 1) b₀ q b₁ → Field mask_bytes (λ o. mask_fits r o ≡ true) (has m 2) b₁ k b₂ → Field number_bytes TwoBytes (has m 4) b₂ l b₃ → Field name_bytes (λ o. name_fits o ≡ true) (has m 8) b₃ n rest → (m ∷ b₀ ≡ encode (record { quantity = q; mask = k; limit = l; name = n }) ++ rest) × Fine r (record { quantity = q; mask = k; limit = l; name = n })
together r m b₀ b₁ b₂ b₃ rest q k l n is both f₀ f₁ f₂ f₃ =
    let map : m ≡ bits (is_some q) (is_some k) (is_some l) (is_some n) = is ∙ rw (f₀.there, f₁.there, f₂.there, f₃.there) in
    let flat : number_bytes q ++ (mask_bytes k ++ (number_bytes l ++ (name_bytes n ++ rest))) ≡ (number_bytes q ++ (mask_bytes k ++ (number_bytes l ++ name_bytes n))) ++ rest = simp append_assoc in
    let body : b₀ ≡ (number_bytes q ++ (mask_bytes k ++ (number_bytes l ++ name_bytes n))) ++ rest =
    f₀.bytes ∙ ap (λ t. number_bytes q ++ t) (f₁.bytes ∙ ap (λ t. mask_bytes k ++ t) (f₂.bytes ∙ ap (λ t. number_bytes l ++ t) f₃.bytes)) ∙ flat in
    let pair : (not (is_some l) || is_some k) ≡ true = rw (f₂.there, f₁.there) both in
    ((λ i. map i ∷ body i), record { quantity = f₀.ok; limit = f₂.ok; held = and_from (mask_fits r k) ((not (is_some l) || is_some k) && name_fits n) f₁.ok (and_from (not (is_some l) || is_some k) (name_fits n) pair f₃.ok) })

pub entry_only : (r : ℕ) (bs : List ℕ) (e : Entry) (rest : List ℕ) → AllBytes bs → entry r bs ≡ got e rest → (bs ≡ encode e ++ rest) × Fine r e
entry_only r [] e rest h p = absurd (not_short p)
entry_only r (m ∷ b₀) e rest h p =
    let u = cond_got (is_map m) (fields r m b₀) (length (m ∷ b₀)) p in
    let map = map_only m u.0 in
    let t₀ = then_got (number_if (has m 1) b₀) _ u.1 in
    let t₁ = then_got (mask_if (has m 2) r t₀.1) _ t₀.3 in
    let t₂ = then_got (number_if (has m 4) t₁.1) _ t₁.3 in
    let t₃ = then_got (name_if (has m 8) t₂.1) _ t₂.3 in
    let f₀ = number_only (has m 1) b₀ t₀.0 t₀.1 h.1 t₀.2 in
    let a₁ = later_bytes (number_bytes t₀.0) t₀.1 (subst AllBytes f₀.bytes h.1) in
    let f₁ = mask_only (has m 2) r t₀.1 t₁.0 t₁.1 t₁.2 in
    let a₂ = later_bytes (mask_bytes t₁.0) t₁.1 (subst AllBytes f₁.bytes a₁) in
    let f₂ = number_only (has m 4) t₁.1 t₂.0 t₂.1 a₂ t₂.2 in
    let f₃ = name_only (has m 8) t₂.1 t₃.0 t₃.1 t₃.2 in
    let v = got_both t₃.3 in
    let all = together r m b₀ t₀.1 t₁.1 t₂.1 t₃.1 t₀.0 t₁.0 t₂.0 t₃.0 map.0 map.1 f₀ f₁ f₂ f₃ in
    let whole : (m ∷ b₀ ≡ encode e ++ t₃.1) × Fine r e = subst (λ x. (m ∷ b₀ ≡ encode x ++ t₃.1) × Fine r x) v.0 all in
    (whole.0 ∙ ap (λ l. encode e ++ l) v.1, whole.1)

pub records_only : (r n : ℕ) (bs : List ℕ) (es : List Entry) (rest : List ℕ) → AllBytes bs → records r n bs ≡ got es rest → (bs ≡ flat_map encode es ++ rest) × AllFine r es × (length es ≡ n)
records_only r zero bs es rest h p = let v = got_both p in rw (sym v.0) (v.1, tt, refl)
records_only r (suc n) bs es rest h p =
    let t = then_got (entry r bs) (λ e rest. then (records r n rest) (λ es end. got (e ∷ es) end)) p in
    let u = then_got (records r n t.1) (λ es end. got (t.0 ∷ es) end) t.3 in
    let v = got_both u.3 in
    let one = entry_only r bs t.0 t.1 h t.2 in
    let later = later_bytes (encode t.0) t.1 (subst AllBytes one.0 h) in
    let more = records_only r n t.1 u.0 u.1 later u.2 in
    rw (sym v.0) (
      one.0 ∙ ap (λ l. encode t.0 ++ l) (more.0 ∙ ap (λ l. flat_map encode u.0 ++ l) v.1) ∙ sym (append_assoc (encode t.0) (flat_map encode u.0) rest),
      (one.1, more.1),
      ap suc more.2,
    )

ended_got : {X : Type 0} (x y : X) (bs rest : List ℕ) → ended x bs ≡ got y rest → (x ≡ y) × (bs ≡ [])
ended_got x y [] rest p = ((got_both p).0, refl)
ended_got x y (b ∷ bs) rest p = absurd (not_bad p)

-- the header's bytes, and what they say
header_only : (bs : List ℕ) (k r : ℕ) (body : List ℕ) → header bs ≡ got (k, r) body → (bs ≡ k ∷ r ∷ body) × ((leb 1 k && leb k 24) ≡ true) × ((leb 1 r && leb r 8) ≡ true)
header_only [] k r body p = absurd (not_short p)
header_only (a ∷ []) k r body p = absurd (not_short (cond_got (leb 1 a && leb a 24) short 1 p).1)
header_only (a ∷ b ∷ bs) k r body p =
    let u = cond_got (leb 1 a && leb a 24) (cond (leb 1 b && leb b 8) (got (a, b) bs) (bad (length (b ∷ bs)))) (length (a ∷ b ∷ bs)) p in
    let w = cond_got (leb 1 b && leb b 8) (got (a, b) bs) (length (b ∷ bs)) u.1 in
    let v = got_both w.1 in
    let x : a ≡ k = ap (λ t. t.0) v.0 in
    let y : b ≡ r = ap (λ t. t.1) v.0 in
    let z = v.1 in
    ((λ i. x i ∷ y i ∷ z i), rw (sym x) u.0, rw (sym y) w.0)

pub file_only : (bs : List ℕ) (j : Contents) (rest : List ℕ) → AllBytes bs → file bs ≡ got j rest → FileOf bs j
file_only bs j rest h p =
    let t = then_got (header bs) (λ h body. then (records h.1 h.0 body) (λ es rest. ended (record { types = h.0; nozzles = h.1; entries = es }) rest)) p in
    let k = t.0.0 in
    let r = t.0.1 in
    let u = then_got (records r k t.1) (λ es rest. ended (record { types = k; nozzles = r; entries = es }) rest) t.3 in
    let v = ended_got (record { types = k; nozzles = r; entries = u.0 }) j u.1 rest u.3 in
    let head = header_only bs k r t.1 t.2 in
    let later = later_bytes (k ∷ r ∷ []) t.1 (subst AllBytes head.0 h) in
    let all = records_only r k t.1 u.0 u.1 later u.2 in
    let kp = and_parts (leb 1 k) (leb k 24) head.1 in
    let rp = and_parts (leb 1 r) (leb r 8) head.2 in
    let end : t.1 ≡ flat_map encode u.0 = all.0 ∙ ap (λ l. flat_map encode u.0 ++ l) v.1 ∙ append-nil (flat_map encode u.0) in
    subst (λ j. FileOf bs j) v.0 (record {
      formed = record { some_types = leb-true 1 k kp.0; few_types = leb-true k 24 kp.1; some_nozzles = leb-true 1 r rp.0; few_nozzles = leb-true r 8 rp.1; count = all.2; fine = all.1 };
      bytes = head.0 ∙ ap (λ l. k ∷ r ∷ l) end;
    })

pub all_bytes : (bs : List ℕ) → ((i : ℕ) → get_or bs i 0 < 256) → AllBytes bs
all_bytes [] h = tt
all_bytes (b ∷ bs) h = (h 0, all_bytes bs (λ i. h (suc i)))
