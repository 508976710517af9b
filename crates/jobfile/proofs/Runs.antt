-- One record more of a run of records, and a file's parts together.
use Rattle.std.proofs.Common.{◌≡◌, ℕ, zero, suc, ◌+◌, ◌-◌, ◌<◌, List, [], ◌∷◌, length, refl, ap, ◌∙◌, arith}
use Rattle.jobformat.specs.Reading.{Parse, got, short, bad, then, header, entry, records, run, or_else, file, forget}
use Rattle.jobformat.specs.Format.{Entry}

forget_more : (e : Entry) (g : Parse (List Entry)) → forget (then g (λ es end. got (e ∷ es) end)) ≡ forget g
forget_more e (got es rest) = refl
forget_more e short = refl
forget_more e (bad n) = refl

less : (n i : ℕ) → i < n → n - i ≡ suc (n - (i + 1))
less n i h = omega arith

pub skip_one : (r n i : ℕ) (bs after : List ℕ) (e : Entry) → i < n → got e after ≡ entry r bs → forget (records r (n - i) bs) ≡ forget (records r (n - (i + 1)) after)
skip_one r n i bs after e h p = rw (less n i h, ← p) (forget_more e _)

-- records that were all read are the run
grown : (e : Entry) (es : List Entry) (g : Parse (List Entry)) (rest : List ℕ) → then g (λ es end. got (e ∷ es) end) ≡ got es rest → (fs : List Entry) × (g ≡ got fs rest) × (e ∷ fs ≡ es)
grown e es (got fs end) rest p = (fs, cc, cc)
grown e es short rest p = let z : ◌≡◌ {A = ℕ} 0 1 = cc in absurd (omega arith)
grown e es (bad n) rest p = let z : ◌≡◌ {A = ℕ} 0 1 = cc in absurd (omega arith)

pub run_records : (r n : ℕ) (bs : List ℕ) (es : List Entry) (rest : List ℕ) → records r n bs ≡ got es rest → run r n bs ≡ es
run_records r zero bs es rest p = cc
run_records r (suc n) bs es rest p =
    let P : Parse Entry → Type 0 = λ g. then g (λ e rest. then (records r n rest) (λ es end. got (e ∷ es) end)) ≡ got es rest → or_else g [] (λ e rest. e ∷ run r n rest) ≡ es in
    elim (entry r bs) as P [
      | got e after ↦ λ q. let s = grown e es (records r n after) rest q in ap (λ l. e ∷ l) (run_records r n after s.0 rest s.1) ∙ s.2
      | short ↦ λ q. (let z : ◌≡◌ {A = ℕ} 0 1 = cc in absurd (omega arith))
      | bad m ↦ λ q. (let z : ◌≡◌ {A = ℕ} 0 1 = cc in absurd (omega arith))
    ] p

remember : {X : Type 0} (g : Parse X) (rest : List ℕ) → got tt rest ≡ forget g → (x : X) × (g ≡ got x rest)
remember (got x end) rest p = (x, cc)
remember short rest p = let z : ◌≡◌ {A = ℕ} 0 1 = cc in absurd (omega arith)
remember (bad n) rest p = let z : ◌≡◌ {A = ℕ} 0 1 = cc in absurd (omega arith)

-- the parts of a file
pub file_whole : (bs body after : List ℕ) (k r : ℕ) → got (k, r) body ≡ header bs → got tt after ≡ forget (records r k body) → length after ≡ 0 → got (record { types = k; nozzles = r; entries = run r k body }) [] ≡ file bs
file_whole bs body [] k r p q h =
    let s = remember (records r k body) [] q in
    rw (← p, s.1, run_records r k body s.0 [] s.1)
file_whole bs body (b ∷ after) k r p q h = absurd (omega arith)
