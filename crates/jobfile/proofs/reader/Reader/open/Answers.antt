use Rattle.std.proofs.Common.{◌≡◌, ℕ, ◌<◌, List, length, get_or, Ok, ap, ◌∙◌, arith}
use Rattle.jobformat.specs.Format.{Contents, FileOf, Answers}
use Rattle.jobformat.specs.Reading.{Parse, short, bad, file, verdict, reading}
use Rattle.jobformat.proofs.Only.{all_bytes}
use Rattle.jobformat.proofs.First.{bad_within, answers, reads_back}
use Rattle.jobfile.proofs.reader.Reader.open.Goals as goal

pub overflow_sub-result : goal.overflow_sub-result
overflow_sub-result c =
    let ok = c.in-Err-Bad.ensures in
    let e : ◌≡◌ {A = Parse Contents} (bad c.in-Err-Bad.left) (file c.args.bytes.now) = cc in
    bad_within c.args.bytes.now (all_bytes c.args.bytes.now (λ i. omega (arith, c.type_inv.bytes i))) c.in-Err-Bad.left e

-- what is answered for the reading g
told : (bs : List ℕ) (g : Parse Contents) → ((i : ℕ) → get_or bs i 0 < 256) → g ≡ file bs → (verdict (length bs) g ≡ reading bs) × Answers bs (verdict (length bs) g) × ((c : Contents) → FileOf bs c → verdict (length bs) g ≡ Ok c)
told bs g h e =
    let reads = ap (verdict (length bs)) e in
    (reads, answers bs (all_bytes bs h) g e, λ s f. reads ∙ reads_back bs s f)

pub returns-in-Ok : goal.returns-in-Ok
returns-in-Ok c =
    let t = told c.args.bytes.now _ (λ i. omega (arith, c.type_inv.bytes i)) c.in-Ok.ensures in
    record { reads = t.0; right = t.1; back = t.2 }

pub returns-in-Err-Short : goal.returns-in-Err-Short
returns-in-Err-Short c =
    let ok = c.in-Err-Short.ensures in
    let t = told c.args.bytes.now short (λ i. omega (arith, c.type_inv.bytes i)) cc in
    record { reads = t.0; right = t.1; back = t.2 }

pub returns-in-Err-Bad : goal.returns-in-Err-Bad
returns-in-Err-Bad c =
    let ok = c.in-Err-Bad.ensures in
    let t = told c.args.bytes.now (bad c.in-Err-Bad.left) (λ i. omega (arith, c.type_inv.bytes i)) cc in
    record { reads = t.0; right = t.1; back = t.2 }
