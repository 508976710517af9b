use Rattle.std.proofs.Common.{take, ap, ◌∙◌, rules}
use Rattle.std.proofs.lemmas.List.{length-take-le}
use Rattle.report.proofs.Rows.{row_line}
use Rattle.report.proofs.subtour_line.Goals as goal

pub returns : goal.returns
returns c =
    row_line c.args.job.now c.args.subtour c.from-count.result _ c.show_subtour.new.out _ c.numbers_of-numbers.result c.args.out.now c.put_line.result c.put_line.new.out (c.from-count.ensures ∙ c.nozzle_count.ensures.0) (search (rules, length-take-le)) c.show_subtour.auto.out c.in_ok-show_subtour.ensures.shown.0 (ap (take c.from-count.result) c.numbers_of-numbers.ensures) c.put_line.ensures
