-- A list that a loop joins from parts.
use Rattle.std.proofs.Common.{◌≡◌, ℕ, ◌+◌, List, [], ◌++◌, sym, ◌∙◌, append_assoc, append-nil, add-one}
use Rattle.sheets.specs.Boards.{join_to}

-- v, after what stood before, has the parts below n; w has the part at n too
pub join_more : {X : Type 0} (a b : List X) (f : ℕ → List X) (n : ℕ) (v w x : List X)
    → v ≡ a ++ (b ++ join_to n f) → w ≡ v ++ x → f n ≡ x → w ≡ a ++ (b ++ join_to (n + 1) f)
join_more a b f n v w x e g h = rw (add-one, h, g, e) (simp append_assoc)

-- the part at n is empty
pub join_past : {X : Type 0} (a b : List X) (f : ℕ → List X) (n : ℕ) (v w : List X)
    → v ≡ a ++ (b ++ join_to n f) → w ≡ v → f n ≡ [] → w ≡ a ++ (b ++ join_to (n + 1) f)
join_past a b f n v w e g h = join_more a b f n v w [] e (g ∙ sym (append-nil v)) h
