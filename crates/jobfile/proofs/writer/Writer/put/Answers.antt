use Rattle.std.proofs.Common.{◌≡◌, ◌+◌, length, sym, refl, ap, ◌∙◌, arith}
use Rattle.jobformat.specs.Format.{encode}
use Rattle.jobfile.specs.Seen.{entry_of}
use Rattle.jobfile.specs.Writes.{over}
use Rattle.jobfile.proofs.Writes.{holds_more}
use Rattle.jobfile.proofs.writer.Writer.put.Goals as goal

pub returns-clause-holds : goal.returns-clause-holds
returns-clause-holds c es ok h =
    let w = c.args.self.now in
    let e = entry_of c.args.entry in
    let is : c.as_slice.result.now ≡ encode e = c.as_slice.ensures.value ∙ c.record_bytes-bytes.ensures.bytes in
    let long = ap length c.record_bytes-bytes.ensures.bytes in
    holds_more w _ c.args.out.now c.write-self.new.out es e h refl refl refl (c.write-self.ensures.end ∙ ap (λ l. w.written + length l) is) (omega (arith, c.len.ensures)) (c.write-self.ensures.out ∙ ap (over _ _) is) (record { quantity = c.record_bytes-bytes.ensures.small.0; limit = c.record_bytes-bytes.ensures.small.1; held = sym c.if-not-is_record.ensures })
