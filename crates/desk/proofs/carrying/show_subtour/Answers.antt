use Rattle.std.proofs.Common.{◌≡◌, ℕ, ◌≤◌, List, ◌++◌, length, take, refl, ap, ◌∙◌, arith, length-take}
use lib.Seq.{take-append-le}
use Rattle.book.specs.Events.{row}
use Rattle.job.specs.Jobs.{book_of}
use Rattle.desk.proofs.Carries.{more_room, had_room}
use Rattle.desk.proofs.carrying.show_subtour.Goals as goal

-- the row, in the whole memory of which a part was lent
front : (count r : ℕ) (out rest : List ℕ) → count ≡ r → r ≤ length out → take count (out ++ rest) ≡ take r out
front count r out rest e h = ap (λ (k : ℕ). take k (out ++ rest)) e ∙ take-append-le r out rest h

pub returns-in-Ok : goal.returns-in-Ok
returns-in-Ok c =
    let j = c.args.job.now in
    let shown = c.in-Ok.ensures.shown.0 in
    let o = (book_of j).outcome in
    let n = c.args.subtour in
    let r = length (book_of j).nozzles in
    record {
      answered = record {
        allowed = more_room o n r _ c.args.places (simp length-take (omega (arith, c.min.ensures))) shown.allowed;
        accepts = (ap row (front c.nozzle_count.result r c.show_subtour.new.out _ c.nozzle_count.ensures.0 (omega (arith, had_room o n r _ shown.allowed, c.show_subtour.auto.out))) ∙ shown.accepts.0, refl);
      };
      kept = c.in-Ok.ensures.kept;
    }
