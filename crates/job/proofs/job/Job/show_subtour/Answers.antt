use Rattle.std.proofs.Common.{◌≡◌, ◌-◌, ◌≤◌, length, sym, refl, ap, ◌∙◌, arith, rules}
use Rattle.std.proofs.lemmas.List.FromFn.{length-map-range_with_len}
use Rattle.sheets.specs.Boards.{row_of}
use Rattle.sheets.specs.Made.{orders_of, nozzles_of}
use Rattle.book.specs.Events.{row}
use Rattle.job.specs.Jobs.{book_of}
use Rattle.job.proofs.Always.{kept_of}
use Rattle.job.proofs.Shows.{never_missing, row_is, front, back}
use Rattle.std.proofs.lemmas.Grind.{common_steps}
use Rattle.job.proofs.job.Job.show_subtour.Goals as goal

pub returns-in_err-board : goal.returns-in_err-board
returns-in_err-board c = absurd (never_missing c.args.self.now c.in-Planned.cost c.in-Planned.runs _ c.in-Planned.is c.in_err-board.ensures)

pub returns-clause-shown : goal.returns-clause-shown
returns-clause-shown c =
    let j = c.args.self.now in
    let n = c.args.subtour in
    let board = c.in_ok-board.board in
    let made = c.in_ok-board.ensures in
    let w = row_of (orders_of board) (nozzles_of board) j.flow (n - 1) in
    let r = length (book_of j).nozzles in
    let many : r ≡ length (nozzles_of board) = ap length made.1 in
    let lo : 1 ≤ n = search rules in
    let hi : n ≤ c.in-Planned.cost = search rules in
    let room : r ≤ length c.args.out.now = omega arith in
    let long : length c.row.new.out ≡ length c.args.out.now = c.row.auto.out in (
      record {
        allowed = grind (arith, common_steps);
        accepts = (
          ap row (front c.args.out.now c.row.new.out w r long room (length-map-range_with_len _ 0 _ ∙ sym many) (λ k h. c.row.ensures.row k (omega arith) (omega arith))
              ∙ row_is j c.in-Planned.cost c.in-Planned.runs n c.in-Planned.is lo hi _ _ made.0 made.1),
          refl,
        );
      },
      back c.args.out.now c.row.new.out w r long room (λ k h. c.row.ensures.rest k (omega arith)),
    )

pub returns-in_default-clause-kept : goal.returns-in_default-clause-kept
returns-in_default-clause-kept c = kept_of c.args.self.now

pub returns-then-not-contains-clause-kept : goal.returns-then-not-contains-clause-kept
returns-then-not-contains-clause-kept c = kept_of c.args.self.now

pub returns-then-out-needed-clause-kept : goal.returns-then-out-needed-clause-kept
returns-then-out-needed-clause-kept c = kept_of c.args.self.now

pub returns-clause-kept : goal.returns-clause-kept
returns-clause-kept c = kept_of c.args.self.now
