-- What a copy keeps from record to record.
use Rattle.std.proofs.Common.{◌≡◌, ℕ, ◌+◌, ◌≤◌, List, ◌∷◌, ◌++◌, length, ap, ◌∙◌, append_assoc, arith, length-append}
use Rattle.std.specs.List.{flat_map}
use Rattle.jobformat.specs.Format.{Entry, encode, AllFine}
use Rattle.jobfile.specs.declared.writer.Writer.{Writer}
use Rattle.jobfile.specs.Writes.{over, Wrote}
use Rattle.jobfile.proofs.Writes.{wrote_then}

-- behind the header, which the writer w₁ has put into out₁, the records so far went in, which left
-- w and out; the records es are the rest of bs
pub record Copying (bs out₁ out : List ℕ) (w₁ w : Writer) (es : List Entry) : Type 0 where
  pub body : List ℕ
  pub wrote : Wrote out₁ 2 body out w.written
  pub split : w₁.types ∷ w₁.nozzles ∷ (body ++ flat_map encode es) ≡ bs
  pub types : w.types ≡ w₁.types
  pub nozzles : w.nozzles ≡ w₁.nozzles
  pub count : w.done + length es ≡ w.types
  pub fine : AllFine w.nozzles es
  pub room : length bs ≤ length out₁

module _ (bs out₁ out : List ℕ) (w₁ w : Writer) (e : Entry) (es : List Entry) (h : Copying bs out₁ out w₁ w (e ∷ es)) where
  copy_room : w.written + length (encode e) ≤ length out₁
  copy_room =
      let all = ap length h.split in
      let one = length-append h.body (encode e ++ flat_map encode es) in
      let two = length-append (encode e) (flat_map encode es) in
      omega (arith, h.wrote.end, h.room)

  pub copy_more : (out' : List ℕ) (w' : Writer) → w'.types ≡ w.types → w'.nozzles ≡ w.nozzles → w'.done ≡ w.done + 1 → w'.written ≡ w.written + length (encode e) → out' ≡ over out w.written (encode e) → Copying bs out₁ out' w₁ w' es
  copy_more out' w' k r d n p =
      let next : Wrote out w.written (encode e) out' w'.written = record { out = p; end = n } in
      record {
        body = h.body ++ encode e;
        wrote = wrote_then (omega (arith, copy_room, h.wrote.end)) h.wrote next;
        split = rw append_assoc h.split;
        types = k ∙ h.types;
        nozzles = r ∙ h.nozzles;
        count = omega (arith, h.count);
        fine = rw r h.fine.1;
        room = h.room;
      }
