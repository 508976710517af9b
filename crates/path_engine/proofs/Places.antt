-- At how many places two lists differ, where one number changes.
use Rattle.std.proofs.Common.{◌≡◌, ℕ, zero, suc, ◌+◌, ◌<◌, ◌≤◌, ◌≢◌, List, length, get_or, set, refl, inl, inr, arith, get_or-set_other, get_or-set_same}
use Rattle.std.proofs.lemmas.Bool.{cases_eq}
use Rattle.std.proofs.lemmas.Bool.Decides.{nat_tests}
use Rattle.path_engine.specs.Residual.{changed}

pub unchanged : (x : List ℕ) (n : ℕ) → changed x x n ≡ 0
unchanged x zero = refl
unchanged x (suc n) = let i = unchanged x n in grind (arith, nat_tests)

changed_below : (x y : List ℕ) (k b n : ℕ) → n ≤ k → changed x (set y k b) n ≡ changed x y n
changed_below x y k b zero l = refl
changed_below x y k b (suc n) l =
    let i = changed_below x y k b n (omega arith) in
    let ne : n ≢ k = omega arith in
    let e : get_or (set y k b) n 0 ≡ get_or y n 0 = rw get_or-set_other in
    grind (arith, nat_tests)

pub changed_set : (x y : List ℕ) (k b n : ℕ) → k < n → k < length y → get_or y k 0 ≡ get_or x k 0 → b ≢ get_or x k 0 → changed x (set y k b) n ≡ changed x y n + 1
changed_set x y k b zero l lk same new = absurd (omega arith)
changed_set x y k b (suc n) l lk same new =
    elim (cases_eq n k) [
      | inl e ↦
          let i = changed_below x y k b n (omega arith) in
          let g : get_or (set y k b) n 0 ≡ b = rw (e, get_or-set_same) in
          let s : get_or y n 0 ≡ get_or x n 0 = rw e same in
          let d : b ≢ get_or x n 0 = rw e new in
          grind (arith, nat_tests)
      | inr ne ↦
          let i = changed_set x y k b n (omega arith) lk same new in
          let g : get_or (set y k b) n 0 ≡ get_or y n 0 = rw get_or-set_other in
          grind (arith, nat_tests)
    ]
