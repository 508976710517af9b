-- A book in which nothing is missing, and its network.
use Rattle.std.proofs.Common.{◌≡◌, ℕ, suc, ◌-◌, true, false, ◌&&◌, List, [], ◌∷◌, ◌++◌, map, is_some, Some, None, Option, refl, ap, ◌∙◌, arith}
use Rattle.std.proofs.lemmas.Bool.{both_ways}
use Rattle.flows.specs.Flows.{FromSource}
use Rattle.sheets.specs.declared.NozzleState.{NozzleState}
use Rattle.records.specs.declared.TypeRecord.{TypeRecord}
use Rattle.sheets.specs.declared.Order.{Order}
use Rattle.sheets.specs.Boards.{entered, board_arcs}
use Rattle.sheets.proofs.Arcs.{from_parts}
use Rattle.book.specs.Books.{order_in, orders_in}
use Rattle.book.specs.Keeps.{Complete}

one : (q m l : Option ℕ) (xs : List Order) → (is_some q && is_some m) ≡ true → map entered (order_in q m l ++ xs) ≡ record { quantity = q; mask = m; limit = l } ∷ map entered xs
one (Some q) (Some m) l xs e = refl
one (Some q) None l xs e = absurd (both_ways false refl e)
one None (Some m) l xs e = absurd (both_ways false refl e)
one None None l xs e = absurd (both_ways false refl e)

-- its orders are entered in just its records
pub whole : (types : List TypeRecord) → Complete types → map entered (orders_in types) ≡ types
whole [] c = refl
whole (x ∷ xs) c = one x.quantity x.mask x.limit (orders_in xs) (c 0 (omega arith)) ∙ ap (λ (ys : List TypeRecord). x ∷ ys) (whole xs (λ t h. c (suc t) (omega arith)))

-- no arc of a board's network enters the source
pub from_source : (orders : List Order) (nozzles : List NozzleState) → FromSource (board_arcs orders nozzles)
from_source orders nozzles p h =
    omega (arith, from_parts orders nozzles [] (λ a x. 1 - a.head) (λ t h. omega arith, λ t j h l m. omega arith, λ j l m. omega arith) p h)
