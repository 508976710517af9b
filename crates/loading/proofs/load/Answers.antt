use Rattle.std.proofs.Common.{rules, ◌≡◌, [], length, ap, ◌∙◌, subst, arith, inl, inr}
use Rattle.jobformat.specs.Reading.{reading}
use Rattle.jobfile.specs.Opened.{held, contents_of}
use Rattle.jobfile.specs.Seen.{entry_of}
use Rattle.job.specs.Jobs.{state_of}
use Rattle.loading.proofs.Entered.{Loading, loading_none, loading_fine, loading_more, none_left, loads_by_turns}
use Rattle.loading.proofs.load.Goals as goal

pub loop-kind-init : goal.loop-kind-init
loop-kind-init c =
    let z = c.zip-kind-items.ensures in
    let it = c.into_iter-kind-iterator.ensures.into_iter_gives in
    let reader = c.in_ok-reader.reader in
    rw (it, z.first, z.second, c.new.ensures.start) (record { entered = loading_none c.args.number c.types.result c.nozzles.result (contents_of reader) (state_of c.open-2.new.self) c.in_ok-reader.ensures.right.formed c.types.ensures c.nozzles.ensures c.in_ok-open.ensures.accepts.1; few = search rules })

pub enter-requires-clause-fine : goal.enter-requires-clause-fine
enter-requires-clause-fine c =
    let l = c.loop-kind in
    let all = contents_of c.into_iter-kind-iterator.result.b in
    let s₀ = state_of c.open-2.new.self in
    let e = entry_of c.in-Some.«record» in
    let es = held c.next.new.self.b in
    let s = c.in-Some.ensures.steps in
    loading_fine c.args.number all s₀ (state_of l.job) l.kind-iterator.a.start e es (held l.kind-iterator.b) s.1 l.invariant.entered

pub loop-kind-preserved : goal.loop-kind-preserved
loop-kind-preserved c =
    let l = c.loop-kind in
    let all = contents_of c.into_iter-kind-iterator.result.b in
    let s₀ = state_of c.open-2.new.self in
    let e = entry_of c.in-Some.«record» in
    let es = held c.next.new.self.b in
    let s = c.in-Some.ensures.steps in
    let n : c.in-Some.kind ≡ l.kind-iterator.a.start = s.0.1.0 in
    record {
      entered = loading_more c.args.number all s₀ (state_of l.job) l.kind-iterator.a.start e es (held l.kind-iterator.b) s.1 l.invariant.entered (state_of c.enter.new.job) c.next.new.self.a.start (rw n at c.in_ok-enter.ensures.turns) (λ more. search rules);
      few = omega (arith, s.0.1.1, ap length s.1, l.invariant.few);
    }

pub returns-clause-turns : goal.returns-clause-turns
returns-clause-turns c =
    let bs = c.args.bytes.now in
    let l = c.loop-kind in
    let z = l.kind-iterator in
    let s₀ = state_of c.open-2.new.self in
    let none : held z.b ≡ [] = elim c.in-None.ensures.steps [ inl s ↦ none_left (held z.b) (omega (arith, s.1.1.0, l.invariant.few)) | inr s ↦ s.1.0 ] in
    let it = ap (λ z. z.b) c.into_iter-kind-iterator.ensures.into_iter_gives ∙ c.zip-kind-items.ensures.second in
    let told = c.in_ok-reader.ensures in
    loads_by_turns bs c.args.number z.a.start c.types.result c.nozzles.result (contents_of c.in_ok-reader.reader) (reading bs) c.args.job.now c.open-2.new.self l.job (held z.b) told.reads c.types.ensures c.nozzles.ensures c.in_ok-open.ensures (subst (λ r. Loading c.args.number (contents_of r) s₀ (state_of l.job) z.a.start (held z.b)) it l.invariant.entered) none
