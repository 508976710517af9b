-- The tests of a nozzle, read at a place that there is.
use Rattle.std.proofs.Common.{◌≡◌, ℕ, ◌<◌, Bool, ◌&&◌, List, length, get_or, sym, ap, ◌∙◌}
use Rattle.std.proofs.lemmas.List.{get_or_default}
use Rattle.flows.specs.Flows.{inside}
use Rattle.sheets.specs.declared.NozzleState.{NozzleState}
use Rattle.sheets.specs.declared.NozzleState.TheVariants.{InService, Scrapped}
use Rattle.sheets.specs.declared.Order.{Order}
use Rattle.sheets.specs.Sheets.{serves, in_service}
use Rattle.sheets.specs.Boards.{order_at, may}

module _ (nozzles : List NozzleState) (j : ℕ) (h : j < length nozzles) (b : Bool) where
  pub serves_is : b ≡ serves (get_or nozzles j InService) → in_service nozzles j ≡ b
  serves_is e = ap serves (get_or_default nozzles j Scrapped InService h) ∙ sym e

  pub may_is : (orders : List Order) (t : ℕ) → b ≡ (serves (get_or nozzles j InService) && inside (order_at orders t).mask j) → may orders nozzles t j ≡ b
  may_is orders t e = ap (λ s. serves s && inside (order_at orders t).mask j) (get_or_default nozzles j Scrapped InService h) ∙ sym e
