-- What holds of the parts of every description without a fault. Laws: `parts_are_kept`, `query_units_are_units`,
-- `query_units_have_names_of_their_own`, `query_units_are_without_ndfa`.
use Rattle.std.specs.Prelude.{◌≡◌, ◌≢◌, ℕ, ◌<◌, ◌≤◌, Bool, List, [], Some, slice_get, slice_index_or, length, map, filter, not, All, IsTrue}
use Rattle.std.specs.List.{Contains, flat_map, AllPairs}
use Rattle.hz_description_model.specs.Check.CheckedParts.{AutomatonParts, ClassParts, BypassParts}
use Rattle.hz_base_model.specs.Limits.{automaton_limit, unit_limit, class_limit, cycle_limit}
use Rattle.hz_description_model.specs.Reservations.Limits.{alternative_limit}
use Rattle.hz_description_model.specs.Reading.Limits.{latency_limit}

-- the names of an automaton's query units
abbrev pub ask_names : AutomatonParts → List (List ℕ)
ask_names a = map (λ n. slice_index_or a.units n []) a.queries

-- with the option `ndfa` no automaton has a query unit
abbrev pub AskNothingUnderNdfa : Bool → List AutomatonParts → Type 0
AskNothingUnderNdfa ndfa automata = IsTrue ndfa → All (λ a. a.queries ≡ []) automata

pub record IsKept (automata : List AutomatonParts) (classes : List ClassParts) (bypasses : List BypassParts) (attributes : List (List ℕ × List (List ℕ))) : Type 0 where
  -- there is an automaton
  pub some : 1 ≤ length automata
  -- the automata are not too many
  pub few : length automata ≤ automaton_limit
  -- none of them has too many units
  pub units : All (λ a. length a.units ≤ unit_limit) automata
  -- no two units of all automata have one name
  pub unit_names : AllPairs (λ a b. a ≢ b) (flat_map (λ a. a.units) automata)
  -- the query units of an automaton are units of it by their numbers, which ascend
  pub queries : All (λ a. AllPairs (λ m n. m < n) a.queries × All (λ n. n < length a.units) a.queries) automata
  -- the statements of an automaton name units of it by their numbers
  pub sets : All (λ a. All (λ s. All (λ u. u < length a.units) s.units × All (λ pattern. All (λ u. u < length a.units) pattern) s.patterns) a.statements) automata
  -- the classes are not too many
  pub class_count : length classes ≤ class_limit
  -- no two classes have one name
  pub class_names : AllPairs (λ a b. a ≢ b) (map (λ c. c.name) classes)
  -- no latency is too great
  pub latencies : All (λ c. c.latency ≤ latency_limit) classes
  -- each class has a list for each automaton
  pub lists : All (λ c. length c.lists ≡ length automata) classes
  -- each such list has an alternative, and not too many
  pub alternatives : All (λ c. All (λ list. (1 ≤ length list) × (length list ≤ alternative_limit)) c.lists) classes
  -- the pairs in the list for an automaton have units of it and cycles below the limit
  pub grids : All (λ c. (n : ℕ) (a : AutomatonParts) → slice_get automata n ≡ Some a → All (λ grid. All (λ p. (p.unit < length a.units) × (p.cycle < cycle_limit)) grid) (slice_index_or c.lists n [])) classes
  -- no number of a bypass is too great
  pub bypass_numbers : All (λ b. b.number ≤ latency_limit) bypasses
  -- a bypass names classes by their numbers
  pub bypass_classes : All (λ b. All (λ n. n < length classes) b.outs × All (λ n. n < length classes) b.ins) bypasses
  -- two bypasses of one pair of classes that have no guard have one number
  pub one_number : AllPairs (λ a b. (out «in» : ℕ) → Contains a.outs out → Contains a.ins «in» → Contains b.outs out → Contains b.ins «in» → a.number ≡ b.number) (filter (λ b. not b.guard) bypasses)
  -- no two attributes have one name
  pub attribute_names : AllPairs (λ a b. a ≢ b) (map (λ a. a.0) attributes)
