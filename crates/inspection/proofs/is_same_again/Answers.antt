use Rattle.std.proofs.Common.{◌≡◌, ℕ, ◌+◌, List, length, sym, ◌∙◌, append-nil, arith, take_all}
use Rattle.std.proofs.ResultArms.{chosen}
use Rattle.std.proofs.lemmas.Slice.Eq.{slice_eq-Decides}
use Rattle.std.proofs.lemmas.List.{drop_all}
use Rattle.jobfile.specs.Writes.{over}
use Rattle.inspection.proofs.is_same_again.Goals as goal
use Rattle.std.proofs.lemmas.Bool.Decides.{Decides-eqb}

over_all : (out bs : List ℕ) → length out ≡ length bs → over out 0 bs ≡ bs
over_all out bs h = rw (take_all (length bs) bs (omega arith), drop_all (0 + length bs) out (omega arith)) (append-nil bs)

pub returns-then-is_ok : goal.returns-then-is_ok
returns-then-is_ok c s read long =
    let bs = c.args.bytes.now in
    let out = chosen _ _ _ _ c.copy.ensures.out (sym c.is_ok.ensures.value ∙ c.if-is_ok.true) in
    (slice_eq-Decides Decides-eqb _ _ _ c.eq.ensures).1 (out ∙ over_all c.args.memory.now bs long)
