-- One nozzle more of a mask.
use Rattle.std.proofs.Common.{◌≡◌, ℕ, ◌+◌, ◌/◌, ◌%◌, ◌^◌, true, false, eqb, ◌++◌, codes, decimal, sym, ap, ◌∙◌, append-nil, add-one, eq-eqb}
use lib.Bits.{bit_and, and_mask}
use Rattle.std.proofs.lemmas.Bool.{ne_eqb}
use Rattle.inspection.specs.Words.{members}

pub member_on : (m n : ℕ) → bit_and (m / 2 ^ n) 1 ≡ 1 → members m (n + 1) ≡ members m n ++ (codes " " ++ decimal (n + 1))
member_on m n h =
    let on : eqb (m / 2 ^ n % 2) 1 ≡ true = eq-eqb _ 1 (sym (and_mask (m / 2 ^ n) 1) ∙ h) in
    ap (members m) (add-one n) ∙ rw on

pub member_off : (m n : ℕ) → (bit_and (m / 2 ^ n) 1 ≡ 1 → ⊥) → members m (n + 1) ≡ members m n
member_off m n h =
    let off : eqb (m / 2 ^ n % 2) 1 ≡ false = ne_eqb _ 1 (λ e. h (and_mask (m / 2 ^ n) 1 ∙ e)) in
    ap (members m) (add-one n) ∙ rw off (append-nil (members m n))
