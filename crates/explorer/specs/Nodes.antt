-- What a layer's calls do to its nodes.
use Rattle.std.specs.Prelude.{◌≡◌, ◌<◌, ◌+◌, ℕ, List, [], ◌∷◌, ◌++◌, length, slice_index_or, slice_set, if◌then◌else◌}
use Rattle.model.specs.declared.plan.Injection.{Injection}
use Rattle.model.specs.State.{State}
use Rattle.model.specs.Placements.{is_less}
use Rattle.machine.specs.declared.machine.Machine.{Machine}
use Rattle.machine.specs.StandsFor.{Stands}
use Rattle.explorer.specs.declared.layer.Node.{Node}

-- The node of this number has plans of this many injections, and its kernel represents each state that this one represents.
pub record IsAlike (nodes : List Node) (k : Machine) (count : ℕ) (number : ℕ) : Type 0 where
  pub node : Node
  pub within : number < length nodes
  pub is : slice_index_or nodes number node ≡ node
  pub long : length node.least ≡ count
  pub steps : k.steps ≡ node.kernel.value.steps
  pub stands : (s : State) → Stands k s → Stands node.kernel.value s

-- The node of this number has so many plans more, and the lesser of its least and this one.
pub record IsJoined (old new : List Node) (number count : ℕ) (least : List Injection) : Type 0 where
  pub node : Node
  pub is : slice_index_or old number node ≡ node
  pub joined : Node
  pub new_is : new ≡ slice_set old number joined
  pub kernel : joined.kernel.value ≡ node.kernel.value
  pub more : joined.count ≡ node.count + count
  pub lesser : joined.least ≡ (if is_less least node.least then least else node.least)

-- There is one node more, with this kernel.
pub record IsPut (old new : List Node) (k : Machine) (count : ℕ) (least : List Injection) : Type 0 where
  pub node : Node
  pub new_is : new ≡ old ++ node ∷ []
  pub kernel : node.kernel.value ≡ k
  pub as_many : node.count ≡ count
  pub same_least : node.least ≡ least
