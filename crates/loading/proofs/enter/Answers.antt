use Rattle.std.proofs.Common.{◌≡◌, Some, sym, ap, ◌∙◌, subst, rules}
use Rattle.jobfile.specs.Seen.{fields_of}
use Rattle.book.specs.Events.{Run}
use Rattle.job.specs.declared.job.Job.{Job}
use Rattle.job.specs.Jobs.{state_of}
use Rattle.loading.specs.Loaded.{quantity_turns}
use Rattle.loading.proofs.Entered.{turns_then, quantity_turn, quantity_none, mask_turn, mask_none}
use Rattle.loading.proofs.enter.Goals as goal
use Rattle.loading.proofs.enter.Goals.{in-Some+in_ok-enter_quantity, in_default}

pub returns-in_ok-enter_mask-clause-turns : goal.returns-in_ok-enter_mask-clause-turns
returns-in_ok-enter_mask-clause-turns c =
    let t = c.args.kind in
    let s = state_of c.args.job.now in
    let f = fields_of c.args.record in
    let fields = c.fields-fields.ensures in
    let P : Job → Type 0 = λ j. Run s (quantity_turns t f.quantity) (state_of j) in
    let first : P c.match-fields.job = elim c.match-fields.branch [
      | in-Some+in_ok-enter_quantity w ↦ subst P (sym w.job-is) (quantity_turn s (state_of w.enter_quantity.new.self) t w.from.result f.quantity (sym (ap (λ f. f.quantity) fields) ∙ w.in-Some.is ∙ ap Some (sym w.from.ensures)) w.in_ok-enter_quantity.ensures)
      | in_default w ↦ subst P (sym w.job-is) (quantity_none s t f.quantity (sym (ap (λ f. f.quantity) fields) ∙ w.in_default.is))
    ] in
    let same : c.map.result ≡ c.fields-fields.result.limit = search rules in
    turns_then first (mask_turn (state_of c.match-fields.job) (state_of c.enter_mask.new.self) t c.in-Some-mask.mask f.mask c.map.result f.limit (sym (ap (λ f. f.mask) fields) ∙ c.in-Some-mask.is) (same ∙ ap (λ f. f.limit) fields) c.in_ok-enter_mask.ensures)

pub returns-in_default-mask-clause-turns : goal.returns-in_default-mask-clause-turns
returns-in_default-mask-clause-turns c =
    let t = c.args.kind in
    let s = state_of c.args.job.now in
    let f = fields_of c.args.record in
    let fields = c.fields-fields.ensures in
    let P : Job → Type 0 = λ j. Run s (quantity_turns t f.quantity) (state_of j) in
    let first : P c.match-fields.job = elim c.match-fields.branch [
      | in-Some+in_ok-enter_quantity w ↦ subst P (sym w.job-is) (quantity_turn s (state_of w.enter_quantity.new.self) t w.from.result f.quantity (sym (ap (λ f. f.quantity) fields) ∙ w.in-Some.is ∙ ap Some (sym w.from.ensures)) w.in_ok-enter_quantity.ensures)
      | in_default w ↦ subst P (sym w.job-is) (quantity_none s t f.quantity (sym (ap (λ f. f.quantity) fields) ∙ w.in_default.is))
    ] in
    turns_then first (mask_none (state_of c.match-fields.job) t f.mask f.limit (sym (ap (λ f. f.mask) fields) ∙ c.in_default-mask.is))
