-- What waits in a line, as a list.
use Rattle.std.specs.Prelude.{◌≡◌, ℕ, ◌+◌, ◌-◌, ◌<◌, Bool, cond, List, ◌++◌, length, take, drop, ◌==◌, nat_lt}
use Rattle.std.specs.List.{HoldsAt, list_any}
use Rattle.line.specs.declared.line.Line.{Line}

-- the list from index h on, and then what stands before h
abbrev pub turned : {X : Type 0} → ℕ → List X → List X
turned h xs = drop h xs ++ take h xs

-- the elements that wait, oldest first: one that is pushed joins at the end, and one that is popped leaves from the front
abbrev pub waiting : {X : Type 0} → Line X → List X
waiting l = take l.count (turned l.head l.places.now)

-- how many elements can wait: the number of places
abbrev pub capacity : {X : Type 0} → Line X → ℕ
capacity l = length l.places.now

-- the index k steps on from h in a ring of n places
abbrev pub place : ℕ → ℕ → ℕ → ℕ
place h n k = cond (nat_lt k (n - h)) (h + k) (k - (n - h))

-- whether an element of the list names node n, where f is the node that an element names
abbrev pub is_named : {X : Type 0} → (X → ℕ) → ℕ → List X → Bool
is_named f n xs = list_any (λ x. f x == n) xs

-- an element of the list, the one at index k, names node n
abbrev pub SomeNames : {X : Type 0} → (X → ℕ) → ℕ → List X → Type 0
SomeNames f n xs = (k : ℕ) × (k < length xs) × HoldsAt (λ x. f x ≡ n) xs k
