-- Which nodes of a graph lead to themselves.
use Rattle.std.specs.Prelude.{◌≡◌, ◌↔◌, ◌⊎◌, ℕ, ◌<◌, Bool, true, false, List, [], ◌∷◌, ◌++◌, length, replicate, slice_set, slice_index_or, Option, Some, None, if◌then◌else◌}
use Rattle.std.specs.List.{Contains}
use Rattle.hz_check_reservations.specs.declared.ordering.circle.Labels.{Labels}
use Rattle.hz_check_reservations.specs.declared.ordering.circle.Lead.{Lead}
use Rattle.hz_check_reservations.specs.declared.ordering.circle.Lead.TheVariants.{Nowhere, Straight, Around}
use Rattle.hz_check_reservations.specs.Graphs.{ends_in, Path}

-- the second has the starts of the edges of the first
pub record IsTurned (edges starts : List (List ℕ)) : Type 0 where
  pub size : length starts ≡ length edges
  pub each : (from to : ℕ) → Contains (ends_in starts to) from ↔ Contains (ends_in edges from) to

-- a start is added to those that lead to some ends
pub record AddsStarts (start : ℕ) (ends : List ℕ) (old new : List (List ℕ)) : Type 0 where
  pub size : length new ≡ length old
  pub each : (from to : ℕ) → Contains (ends_in new to) from ↔ (Contains (ends_in old to) from ⊎ ((from ≡ start) × Contains ends to))

-- the first number below a count of which a fact holds, if there is one
abbrev pub IsFirstWith : (ℕ → Type 0) → ℕ → Option ℕ → Type 0
IsFirstWith P count None = (node : ℕ) → node < count → P node → ⊥
IsFirstWith P count (Some first) = (first < count) × P first × ((node : ℕ) → node < first → P node → ⊥)

-- what is known of the nodes, and those whose starts are not looked at yet
pub record Knowledge : Type 0 where
  pub leads : List Lead
  pub taken : List Bool
  pub pending : List ℕ

abbrev pub knowledge_of : Labels → Knowledge
knowledge_of l = record { leads = l.leads.items; taken = l.taken.items; pending = l.pending.items }

-- where a node leads
abbrev pub lead_of : List Lead → ℕ → Lead
lead_of leads node = slice_index_or leads node Nowhere

-- whether a node was taken
abbrev pub is_taken : List Bool → ℕ → Bool
is_taken taken node = slice_index_or taken node false

-- where a node leads that is found to lead to the one that is taken now
abbrev pub lead_now : Bool → Lead
lead_now taken = if taken then Straight else Around

-- a node with this lead is found to lead to the one that is taken now
abbrev pub found_by : Lead → ℕ → Knowledge → Knowledge
found_by Nowhere node k = record k { leads = slice_set k.leads node (lead_now (is_taken k.taken node)); pending = k.pending ++ node ∷ [] }
found_by Straight node k = k
found_by Around node k = k

abbrev pub found : ℕ → Knowledge → Knowledge
found node k = found_by (lead_of k.leads node) node k

-- nodes are found, one after the other
abbrev pub all_found : List ℕ → Knowledge → Knowledge
all_found [] k = k
all_found (node ∷ nodes) k = all_found nodes (found node k)

-- nothing is known of so many nodes
abbrev pub unknown : ℕ → Knowledge
unknown count = record { leads = replicate count Nowhere; taken = replicate count false; pending = [] }

-- all starts of nodes that lead somewhere do so too, and nothing is pending
pub record IsReady (starts : ℕ → List ℕ) (k : Knowledge) : Type 0 where
  pub closed : (node start : ℕ) → (lead_of k.leads node ≡ Nowhere → ⊥) → Contains (starts node) start → lead_of k.leads start ≡ Nowhere → ⊥
  pub rest : k.pending ≡ []

-- A node is taken: all that lead to it are found, and of the others what was known stays.
pub record Takes (starts : ℕ → List ℕ) (end : ℕ) (old new : Knowledge) : Type 0 where
  pub size : length new.leads ≡ length old.leads
  pub taken : new.taken ≡ slice_set old.taken end true
  pub ready : IsReady starts new
  pub kept : (node : ℕ) → (lead_of old.leads node ≡ Nowhere → ⊥) → lead_of new.leads node ≡ lead_of old.leads node
  pub others : (node : ℕ) → lead_of new.leads node ≡ Nowhere → Path starts end node → ⊥
  pub fresh : (node : ℕ) → lead_of old.leads node ≡ Nowhere → (lead_of new.leads node ≡ Nowhere) ⊎ (Path starts end node × (lead_of new.leads node ≡ lead_now (is_taken old.taken node)))
