-- The tree by which nodes are reached: every reached node but the root is linked to one that was reached before it. A node is reached where its stamp is above 0.
use Rattle.std.specs.Prelude.{ℕ, ◌<◌, ◌≡◌, Option, IfSome, IfNone, List, length}
use Rattle.network.specs.Stored.{at, tail_of, head_of, flow_of, NoSlack, Network, Potential}

-- edge e leads from node v to a node that was reached before, forth, or back with flow
pub record Link (net : List ℕ) (m : ℕ) (stamp : List ℕ) (v e : ℕ) : Type 0 where
  pub edge : e < m
  pub forth : tail_of net e ≡ v → (0 < at stamp (head_of net e)) × (at stamp (head_of net e) < at stamp v)
  pub back : (tail_of net e ≡ v → ⊥) → (0 < at stamp (tail_of net e)) × (at stamp (tail_of net e) < at stamp v) × (head_of net e ≡ v) × (0 < flow_of net e)

-- every reached node but the root has its link
abbrev pub Linked : List ℕ → ℕ → ℕ → List ℕ → List ℕ → ℕ → Type 0
Linked net m nodes stamp via root = (v : ℕ) → v < nodes → (v ≡ root → ⊥) → 0 < at stamp v → Link net m stamp v (at via v)

-- a link that leads forth has no slack
abbrev pub TightLinks : List ℕ → ℕ → List ℕ → List ℕ → List ℕ → ℕ → Type 0
TightLinks net nodes pot stamp via root = (v : ℕ) → v < nodes → (v ≡ root → ⊥) → 0 < at stamp v → tail_of net (at via v) ≡ v → NoSlack net pot (at via v)

-- the outcome of a search from root: it ends at a node, r, whose goal is above 0, or at none, and every node is reached and none has a goal
pub record Reached (net : List ℕ) (m nodes : ℕ) (pot stamp via : List ℕ) (root : ℕ) (goal : List ℕ) (r : Option ℕ) : Type 0 where
  pub network : Network net m nodes
  pub potential : Potential net m pot
  pub stamps : length stamp ≡ 81
  pub vias : length via ≡ 81
  pub rooted : 0 < at stamp root
  pub linked : Linked net m nodes stamp via root
  pub tight_links : TightLinks net nodes pot stamp via root
  pub found : IfSome r (λ v. (v < nodes) × (0 < at stamp v) × (0 < at goal v))
  pub all : IfNone r ((v : ℕ) → v < nodes → (0 < at stamp v) × (at goal v ≡ 0))
