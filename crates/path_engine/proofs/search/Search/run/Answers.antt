use Rattle.std.proofs.Common.{◌≡◌, [], ◌∷◌, ◌++◌, List, refl, ap, ◌∙◌, rules}
use Rattle.line.specs.declared.node.Visit.{Visit}
use Rattle.path_engine.specs.declared.search.Search.{Search}
use Rattle.path_engine.specs.Searches.{room_at}
use Rattle.path_engine.proofs.Searches.{begins_as, called, stopped, ended, done}
use Rattle.path_engine.proofs.search.Search.run.Goals as goal

pub loop-visit-init : goal.loop-visit-init
loop-visit-init c =
    let joined : c.push.new.self ≡ c.new-line.result ++ record { node = 0; arc = 0 } ∷ [] = search rules in
    let queued = joined ∙ ap (λ (w : List Visit). w ++ record { node = 0; arc = 0 } ∷ []) c.new-line.ensures in
    (begins_as _ _ c.args.most _ _ _ c.requires c.begin-search.ensures queued, ap (λ (s : Search). room_at s 0) c.begin-search.ensures)

pub expand-requires : goal.expand-requires
expand-requires c = called _ _ _ _ _ _ _ c.in-Some.ensures c.loop-visit.invariant.0 (λ y z. let both = c.if-not-stops.ensures.1 (y, z) in cc)

pub loop-visit-preserved-then-not-stops : goal.loop-visit-preserved-then-not-stops
loop-visit-preserved-then-not-stops c = (ended _ _ _ _ _ _ c.expand.ensures.turn, c.expand.ensures.most ∙ c.loop-visit.invariant.1)

pub loop-visit-preserved : goal.loop-visit-preserved
loop-visit-preserved c =
    let i = c.loop-visit.invariant in
    let over = c.if-not-stops.ensures.0 refl in
    (stopped _ _ _ _ _ _ _ c.in-Some.ensures i.0 over.0 over.1, i.1)

pub returns-clause-searched : goal.returns-clause-searched
returns-clause-searched c = done _ _ _ _ _ c.in_default.ensures.0 c.loop-visit.invariant.0
