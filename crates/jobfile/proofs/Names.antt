-- What the first byte of a name that is no graphic says of reading the name.
use Rattle.std.proofs.Common.{◌≡◌, ℕ, zero, suc, ◌+◌, ◌-◌, Bool, true, false, cond, not, leb, List, [], ◌∷◌, length, take, drop, Some, None, Option, sym, refl, ap, ◌∙◌, arith}
use Rattle.std.specs.List.{position_from}
use Rattle.std.proofs.Math.Dec.{leb-suc-zero, leb-suc-suc}
use Rattle.std.proofs.lemmas.Bool.{le-leb}
use Rattle.jobformat.specs.Reading.{Parse, got, short, bad, then, graphics}
use Rattle.jobformat.specs.Format.{graphic}

-- with m bytes from some place on, a wrong one i places behind it, or p where none is wrong
abbrev pub wrong_at : {X : Type 0} → ℕ → Parse X → Option ℕ → Parse X
wrong_at m p None = p
wrong_at m p (Some i) = bad (m - i)

then_at : {X Y : Type 0} (m : ℕ) (p : Parse X) (o : Option ℕ) (f : X → List ℕ → Parse Y) → then (wrong_at m p o) f ≡ wrong_at m (then p f) o
then_at m p None f = refl
then_at m p (Some i) f = refl

then_cond : {X Y : Type 0} (b : Bool) (x : X) (rest : List ℕ) (f : X → List ℕ → Parse Y) → then (cond b (got x rest) short) f ≡ cond b (f x rest) short
then_cond true x rest f = refl
then_cond false x rest f = refl

graphics_from : (bs : List ℕ) (n k m : ℕ) → length bs + k ≡ m → graphics bs n ≡ wrong_at m (cond (leb n (length bs)) (got (take n bs) (drop n bs)) short) (position_from (λ b. not (graphic b)) k (take n bs))
graphics_from [] zero k m e = refl
graphics_from [] (suc n) k m e = rw (leb-suc-zero n)
graphics_from (b ∷ bs) zero k m e = rw (le-leb 0 (suc (length bs)) (omega arith))
graphics_from (b ∷ bs) (suc n) k m e =
    let f : List ℕ → List ℕ → Parse (List ℕ) = λ name rest. got (b ∷ name) rest in
    let P : Bool → Type 0 = λ g. cond g (then (graphics bs n) f) (bad (suc (length bs))) ≡ wrong_at m (cond (leb n (length bs)) (got (b ∷ take n bs) (drop n bs)) short) (cond (not g) (Some k) (position_from (λ b. not (graphic b)) (k + 1) (take n bs))) in
    rw (leb-suc-suc n (length bs)) (elim (graphic b) as P [
      | true ↦ ap (λ p. then p f) (graphics_from bs n (k + 1) m (omega arith)) ∙ then_at m _ (position_from (λ b. not (graphic b)) (k + 1) (take n bs)) f ∙ ap (λ p. wrong_at m p (position_from (λ b. not (graphic b)) (k + 1) (take n bs))) (then_cond (leb n (length bs)) (take n bs) (drop n bs) f)
      | false ↦ ap bad (omega arith)
    ])

-- by where the first wrong byte stands among the n
pub graphics_at : (bs : List ℕ) (n : ℕ) (o : Option ℕ) → o ≡ position_from (λ b. not (graphic b)) 0 (take n bs) → graphics bs n ≡ wrong_at (length bs) (cond (leb n (length bs)) (got (take n bs) (drop n bs)) short) o
graphics_at bs n o found = graphics_from bs n 0 (length bs) (omega arith) ∙ ap (wrong_at _ _) (sym found)
