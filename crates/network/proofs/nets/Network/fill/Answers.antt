use Rattle.std.proofs.Common.{◌≡◌, length, refl, ap, sym, ◌∙◌, arith, rules}
use Rattle.network.proofs.Facts.{first_bad_at, none_bad, rules_kept}
use Rattle.network.proofs.nets.Network.fill.Goals as goal

pub returns-in-Some : goal.returns-in-Some
returns-in-Some c =
    let bad = first_bad_at _ _ _ (sym c.first_bad.ensures ∙ c.in-Some.is) in
    (refl, ((c.if-nodes-lt2.false, c.if-nodes-gt64.false, c.if-arcs-gt256.false), bad.0, bad.1, bad.2))

pub invariant_of-self : goal.invariant_of-self
invariant_of-self c =
    let same : c.try_extend_from_slice.new.self.items ≡ c.args.arcs.now = search rules in
    record {
      counts = (c.if-nodes-lt2.false, c.if-nodes-gt64.false, omega (arith, ap length same));
      rules = rules_kept _ _ _ same (none_bad _ _ (sym c.first_bad.ensures ∙ c.in_default.is));
    }
