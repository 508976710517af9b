-- What a move does to what waits at the nodes, and to their heights.
use Rattle.std.proofs.Common.{◌≡◌, ℕ, ◌+◌, ◌-◌, List, get_or, map, set, sym, refl, ap, ◌∙◌}
use Rattle.std.proofs.Math.ListN.{get_or-map}
use Rattle.std.proofs.Math.Seq.{map-set_same}
use Rattle.std.proofs.lemmas.List.{map-set}
use Rattle.path_engine.specs.Residual.{end_at}
use Rattle.path_engine.specs.Searches.{arcs_in}
use Rattle.push_engine.specs.declared.preflow.Node.{Node}
use Rattle.push_engine.specs.declared.preflow.Preflow.{Preflow}
use Rattle.push_engine.specs.Preflows.{excess_of, heights_of, no_node, node_at, taken, given, sent, raised}
use Rattle.push_engine.proofs.Sums.{moved}

abbrev excess : Node → ℕ
excess n = n.excess

abbrev height : Node → ℕ
height n = n.height

-- a node's fields, as the lists have them
pub excess_at : (p : Preflow) (v : ℕ) → get_or (excess_of p) v 0 ≡ (node_at p.nodes v).excess
unfolding excess_of
excess_at p v = get_or-map excess p.nodes v no_node

pub height_at : (p : Preflow) (v : ℕ) → get_or (heights_of p) v 0 ≡ (node_at p.nodes v).height
unfolding heights_of
height_at p v = get_or-map height p.nodes v no_node

taken_excess : (l : List Node) (m a : ℕ) → map excess (taken m a l) ≡ set (map excess l) a (get_or (map excess l) a 0 - m)
taken_excess l m a = map-set excess l a _ ∙ ap (λ y. set (map excess l) a (y - m)) (sym (get_or-map excess l a no_node))

given_excess : (l : List Node) (m a : ℕ) → map excess (given m a l) ≡ set (map excess l) a (get_or (map excess l) a 0 + m)
given_excess l m a = map-set excess l a _ ∙ ap (λ y. set (map excess l) a (y + m)) (sym (get_or-map excess l a no_node))

taken_heights : (l : List Node) (m a : ℕ) → map height (taken m a l) ≡ map height l
taken_heights l m a = map-set_same height l a _ no_node refl

given_heights : (l : List Node) (m a : ℕ) → map height (given m a l) ≡ map height l
given_heights l m a = map-set_same height l a _ no_node refl

-- what waits at the nodes after the amount m was taken from the node a
pub excess_taken : (p : Preflow) (m a v : ℕ) → (node_at (taken m a p.nodes) v).excess ≡ get_or (set (excess_of p) a (get_or (excess_of p) a 0 - m)) v 0
unfolding excess_of
excess_taken p m a v = sym (get_or-map excess (taken m a p.nodes) v no_node) ∙ ap (λ (e : List ℕ). get_or e v 0) (taken_excess p.nodes m a)

-- the amount m left the node v by the arc k
pub excess_sent : (p : Preflow) (k v m : ℕ) → excess_of (sent p k v m) ≡ moved m v (end_at (arcs_in p.task.net) k v) (excess_of p)
unfolding excess_of
excess_sent p k v m =
    let to = end_at (arcs_in p.task.net) k v in
    given_excess (taken m v p.nodes) m to ∙ ap (λ (e : List ℕ). set e to (get_or e to 0 + m)) (taken_excess p.nodes m v)

pub heights_sent : (p : Preflow) (k v m : ℕ) → heights_of (sent p k v m) ≡ heights_of p
unfolding heights_of
heights_sent p k v m = given_heights (taken m v p.nodes) m (end_at (arcs_in p.task.net) k v) ∙ taken_heights p.nodes m v

-- the node v was raised to the height h
pub excess_raised : (p : Preflow) (v h : ℕ) → excess_of (raised p v h) ≡ excess_of p
unfolding excess_of
excess_raised p v h = map-set_same excess p.nodes v _ no_node refl

pub heights_raised : (p : Preflow) (v h : ℕ) → heights_of (raised p v h) ≡ set (heights_of p) v h
unfolding heights_of
heights_raised p v h = map-set height p.nodes v _
