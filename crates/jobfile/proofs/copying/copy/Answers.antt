use Rattle.std.proofs.Common.{is_ok, ap, subst}
use Rattle.std.proofs.ResultArms.{chosen}
use Rattle.jobfile.specs.Opened.{held}
use Rattle.jobfile.specs.Seen.{entry_of}
use Rattle.jobfile.proofs.Copies.{Copying, copy_more}
use Rattle.jobfile.proofs.copying.copy.Goals as goal

pub loop-record-preserved : goal.loop-record-preserved
loop-record-preserved c =
    let l = c.loop-record in
    let ok = ap is_ok c.in_ok-put.was in
    let out = chosen _ _ _ _ c.put.ensures.out ok in
    let written = chosen _ _ _ _ c.put.ensures.written ok in
    let done = chosen _ _ _ _ c.put.ensures.done ok in
    copy_more c.args.bytes.now c.open-2.new.out l.out c.in_ok-writer.writer l.writer (entry_of c.in-Some.record) (held c.next.new.self) (subst (Copying _ _ _ _ _) c.in-Some.ensures.steps l.invariant) c.put.new.out c.put.new.self c.put.ensures.types c.put.ensures.nozzles done written out
