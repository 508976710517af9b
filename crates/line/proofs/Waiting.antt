-- What the fields of a line say of the elements that wait in it.
use Rattle.std.proofs.Common.{◌≡◌, ℕ, suc, ◌+◌, ◌-◌, ◌<◌, Bool, eqb, List, [], ◌∷◌, ◌++◌, length, get_or, take, set, MatchBool, refl, arith, rules}
use lib.Seq.{take-set-lt}
use Rattle.std.proofs.lemmas.List.{append_assoc, append-nil, drop_all, drop_more, drop-set-add, drop-set-lt, length-drop, places, set-append_left, set-append_right, take_all, take-append-le, take_more, take_more_set, take-set-le}
use Rattle.std.proofs.lemmas.Bool.Decides.{Decides-by_or, Decides-eqb, nat_tests}
use Rattle.line.specs.declared.line.Line.{Line}
use Rattle.line.specs.Waiting.{turned, waiting, capacity, place, is_named, SomeNames}

module _ {X : Type 0} (l : Line X) where
  -- what stands in the places, from the first place on
  abbrev row : List X
  row = l.places.now

  -- and from the head on
  abbrev ring : List X
  ring = turned l.head row

  -- as many wait as the line counts
  pub waiting_count : length (waiting l) ≡ l.count
  waiting_count = let held = l.held in search (rules, places)

  -- a write k steps on from the head
  ring_set : (k i : ℕ) (x : X) → k < capacity l → i ≡ place l.head (capacity l) k → turned l.head (set row i x) ≡ set ring k x
  ring_set k i x lt is =
      grind (arith, nat_tests, drop-set-add, drop-set-lt, length-drop, set-append_left, set-append_right, take-set-le, take-set-lt)

  -- an element in the first free place comes last
  pub pushed : (i : ℕ) (x : X) → l.count < capacity l → i ≡ place l.head (capacity l) l.count → take (l.count + 1) (turned l.head (set row i x)) ≡ waiting l ++ x ∷ []
  pushed i x lt is = rw (ring_set l.count i x lt is) (search (rules, places, take_more_set))

  -- one step on, what stood first stands last
  ring_next : (i : ℕ) (d : X) → l.head < capacity l → i ≡ place l.head (capacity l) 1 → ring ++ get_or row l.head d ∷ [] ≡ get_or row l.head d ∷ turned i row
  ring_next i d lt is =
      grind (arith, nat_tests, append_assoc, append-nil, drop_all, take_all, drop_more row l.head d lt, take_more row l.head d lt)

  -- the element at the head comes first, and then the others, from one step on
  pub popped : (i : ℕ) (d : X) → 0 < l.count → i ≡ place l.head (capacity l) 1 → waiting l ≡ get_or row l.head d ∷ take (l.count - 1) (turned i row)
  popped i d some is =
      let less : l.count ≡ suc (l.count - 1) = omega arith in
      let next = ring_next i d (omega arith) is in
      search (rules, places, take-append-le)

-- the test holds exactly where an element names the node
pub named_means : {X : Type 0} (f : X → ℕ) (n : ℕ) (xs : List X) (r : Bool) → r ≡ is_named f n xs → MatchBool r (SomeNames f n xs) (SomeNames f n xs → ⊥)
named_means f n xs r is =
    let told = Decides-by_or (λ x. eqb (f x) n) (λ x. f x ≡ n) (is_named f n) (λ x. Decides-eqb (f x) n) refl (λ _ _. refl) xs in
    grind arith
