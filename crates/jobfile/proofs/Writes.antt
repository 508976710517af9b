-- Writes one after another.
use Rattle.std.proofs.Common.{◌≡◌, ℕ, ◌+◌, ◌≤◌, List, [], ◌∷◌, ◌++◌, length, take, sym, refl, ap, ◌∙◌, arith, length-append, take_all}
use lib.Seq.{paste}
use Rattle.std.proofs.lemmas.List.Edits.{paste-paste, take-paste, length-paste}
use Rattle.std.proofs.lemmas.List.{flat_map_more}
use Rattle.jobformat.specs.Format.{Entry, encode, Fine, AllFine}
use Rattle.jobfile.specs.Writes.{over, Wrote}
use Rattle.jobfile.specs.declared.writer.Writer.{Writer}
use Rattle.jobfile.specs.Written.{Holds}

pub wrote_then : {d : List ℕ} {at : ℕ} {xs d₁ : List ℕ} {a₁ : ℕ} {ys d₂ : List ℕ} {a₂ : ℕ} → at ≤ length d → Wrote d at xs d₁ a₁ → Wrote d₁ a₁ ys d₂ a₂ → Wrote d at (xs ++ ys) d₂ a₂
wrote_then {d = d} {at = at} {xs = xs} {ys = ys} h v w =
    let long = length-append xs ys in
    record {
      out = w.out ∙ (λ i. over (v.out i) (v.end i) ys) ∙ paste-paste d at xs ys (length xs) (length ys) refl refl h ∙ ap (λ n. paste d at (xs ++ ys) n) (sym long);
      end = omega (arith, v.end, w.end);
    }

fine_more : (r : ℕ) (es : List Entry) (e : Entry) → AllFine r es → Fine r e → AllFine r (es ++ e ∷ [])
fine_more r [] e f g = (g, tt)
fine_more r (x ∷ es) e f g = (f.0, fine_more r es e f.1 g)

-- one record more
pub holds_more : (w w' : Writer) (out out' : List ℕ) (es : List Entry) (e : Entry) → Holds w out es → w'.types ≡ w.types → w'.nozzles ≡ w.nozzles → w'.done ≡ w.done + 1 → w'.written ≡ w.written + length (encode e) → w.written + length (encode e) ≤ length out → out' ≡ over out w.written (encode e) → Fine w.nozzles e → Holds w' out' (es ++ e ∷ [])
holds_more w w' out out' es e h k r d n room p fine =
    let front : take (w.written + length (encode e)) (over out w.written (encode e)) ≡ take w.written out ++ encode e =
    take-paste out w.written (encode e) (length (encode e)) h.inside (omega arith) ∙ ap (λ l. take w.written out ++ l) (take_all (length (encode e)) (encode e) (omega arith)) in
    let long = length-paste out w.written (encode e) (length (encode e)) room (omega arith) in
    record {
      bytes = rw (p, n, k, r, front, h.bytes) (flat_map_more encode (w.types ∷ w.nozzles ∷ []) es e);
      inside = rw (p, n) (omega (arith, long));
      count = omega (arith, length-append es (e ∷ []), h.count);
      fine = rw r (fine_more w.nozzles es e h.fine fine);
    }
