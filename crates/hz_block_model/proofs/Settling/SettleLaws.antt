-- Compiled machines settle.
use Rattle.std.proofs.Common.{◌≡◌, ℕ, ◌<◌, Bool, true, List, [], ◌∷◌, length, map, replicate, slice_get, All, Contains, Option, Some, None, refl, sym, ap, ◌∙◌, subst, arith}
use Rattle.std.specs.Prelude.{is_some, MatchBool, slice_index_or}
use Rattle.std.specs.Option.{option_map}
use Rattle.std.proofs.lemmas.List.{length-map, get_or_default}
use Rattle.std.proofs.lemmas.List.Elements.{All-contains, All-append, All-cons, All-head, All-tail, All-nil}
use Rattle.std.proofs.lemmas.Option.{slice_get-map, slice_get_within, slice_get-get_or, get_or_from_slice_get}
use Rattle.hz_base_model.specs.Limits.{cycle_limit}
use Rattle.hz_base_model.specs.Pairs.{Pair}
use Rattle.hz_base_model.proofs.Elements.{Contains-nil, Contains-from_map}
use Rattle.hz_description_model.specs.Reservations.Alternatives.{Alternative}
use Rattle.hz_pipeline_model.specs.Accepting.Events.{Event, advance, IsOfClass}
use Rattle.hz_pipeline_model.specs.Accepting.Replay.{Pipeline, Class, of_class, pairs_at}
use Rattle.hz_pipeline_model.specs.Accepting.Restricted.{of_pairs}
use Rattle.hz_description_model.specs.Reading.Descriptions.{Options}
use Rattle.hz_description_model.specs.Check.CheckedParts.{AutomatonParts, ClassParts, BypassParts}
use Rattle.hz_description_model.specs.Check.CheckedShape.{IsKept, AskNothingUnderNdfa}
use Rattle.hz_pipeline_model.specs.Tables.Apart.{AllApart}
use Rattle.hz_pipeline_model.specs.Tables.Machines.{Machine, Part, IsPart, IsMachine, part_at, part_walk, parts_walk, onto_states, machine_walk, starts_of}
use Rattle.hz_pipeline_model.proofs.Tables.MachineLaws.{machine_walk-each, machine_walk-part}
use Rattle.hz_pipeline_model.specs.Reaching.Columns.{class_of_grids}
use Rattle.hz_pipeline_model.specs.Compiling.AutomatonPipelines.{automaton_at, lists_at, automaton_pipeline, queries_at}
use Rattle.hz_pipeline_model.specs.Compiling.Compiled.{Report, IsCompiled, report_at}
use Rattle.hz_pipeline_model.specs.Compiling.CompiledParts.{WalksAccepted, TellsWhatIsLeft, TellsWhatIsHeld}
use Rattle.hz_block_model.specs.Scheduling.Machines.{Settles}
use Rattle.hz_block_model.proofs.Settling.RunLaws.{IsShort, settled, accepted_settled}
use Rattle.hz_block_model.proofs.Settling.PartLaws.{settles_at_start}
use Rattle.hz_block_model.proofs.Settling.AlikeStates.{IsReported}
use Rattle.hz_block_model.proofs.Settling.AskedTreatment.{first_where_asked}
use Rattle.hz_pipeline_model.proofs.Single.WordLaws.{IsFilled}
use Rattle.hz_pipeline_model.proofs.Single.PartLaws.{filled_part}

-- ---- alternatives are short

-- a pair of the alternative at a place stands in an alternative
in_alternative : (alternatives : List (Alternative ℕ)) (i : ℕ) (p : Pair ℕ) → Contains (pairs_at (slice_get alternatives i)) p → (a : Alternative ℕ) × Contains alternatives a × Contains a.pairs p
in_alternative alternatives i p h = go (slice_get alternatives i) refl h
  where
    go : (o : Option (Alternative ℕ)) → slice_get alternatives i ≡ o → Contains (pairs_at o) p → (a : Alternative ℕ) × Contains alternatives a × Contains a.pairs p
    go None e inside = absurd (Contains-nil p inside)
    go (Some a) e inside = (a, (i, slice_get_within alternatives i a e, get_or_from_slice_get alternatives i a a e), inside)

module _ (options : Options) (automata : List AutomatonParts) (classes : List ClassParts) (bypasses : List BypassParts) (attributes : List (List ℕ × List (List ℕ))) (kept : IsKept automata classes bypasses attributes) where
  abbrev list_at : ℕ → ClassParts → List (List (Pair ℕ))
  list_at a c = slice_index_or c.lists a []

  short_class : (a : ℕ) → a < length automata → (k : ℕ) (c : ClassParts) → slice_get classes k ≡ Some c → (grid : List (Pair ℕ)) → Contains (list_at a c) grid → (p : Pair ℕ) → Contains grid p → p.cycle < cycle_limit
  short_class a low k c at grid inside p there =
      let other : AutomatonParts = automaton_at automata a in
      let is_in : Contains classes c = (k, slice_get_within classes k c at, get_or_from_slice_get classes k c c at) in
      let of_class = All-contains (λ (x : ClassParts). (n : ℕ) (b : AutomatonParts) → slice_get automata n ≡ Some b → All (λ g. All (λ q. (q.unit < length b.units) × (q.cycle < cycle_limit)) g) (slice_index_or x.lists n [])) classes c kept.grids is_in in
      let of_list = of_class a other (slice_get-get_or automata a _ low) in
      let of_grid = All-contains (λ g. All (λ q. (q.unit < length other.units) × (q.cycle < cycle_limit)) g) (list_at a c) grid of_list inside in
      (All-contains (λ q. (q.unit < length other.units) × (q.cycle < cycle_limit)) grid p of_grid there).1

  pub short_pipeline : (a : ℕ) → a < length automata → IsShort (automaton_pipeline options automata classes a)
  short_pipeline a low k i p h =
      let same = slice_get-map class_of_grids (lists_at classes a) k ∙ ap (option_map class_of_grids) (slice_get-map (list_at a) classes k) in
      go (slice_get classes k) refl (subst (λ (o : Option (Class ℕ)). Contains (pairs_at (slice_get (of_class o) i)) p) same h)
    where
      go : (o : Option ClassParts) → slice_get classes k ≡ o → Contains (pairs_at (slice_get (of_class (option_map class_of_grids (option_map (list_at a) o))) i)) p → p.cycle < cycle_limit
      go None e inside = let (x, none, there) = in_alternative [] i p inside in absurd (Contains-nil x none)
      go (Some c) e inside =
          let (x, in_list, there) = in_alternative (map of_pairs (list_at a c)) i p inside in
          let (grid, in_grids, same) = Contains-from_map of_pairs (list_at a c) x in_list in
          short_class a low k c e grid in_grids p (subst (λ (y : Alternative ℕ). Contains y.pairs p) (sym same) there)

  -- ---- parts and machines

  module _ (nothing : AskNothingUnderNdfa options.ndfa automata) (m : Machine) (reports : List Report) (machine : IsMachine m) (compiled : IsCompiled options automata classes m reports) (t : List Event) (all : All (IsOfClass (length m.classes)) t) (states : List ℕ) (walked : machine_walk m t ≡ Some states) where
    as_many : length m.classes ≡ length classes
    as_many = ap length compiled.names ∙ length-map classes (λ c. c.name)

    -- each part is at its start
    part_settles : (i : ℕ) → i < length m.parts → part_walk (part_at m i) 0 (settled t) ≡ Some 0
    part_settles i low =
        let part = part_at m i in
        let there : i < length automata = let each = compiled.each in omega arith in
        let is = compiled.parts i there in
        let kept_part = All-contains (IsPart (length m.classes)) m.parts part machine.parts (i, low, get_or_default m.parts i part _ low) in
        let count : length (lists_at classes i) ≡ length classes = length-map classes (list_at i) in
        let walks = subst (λ (n : ℕ). WalksAccepted n (automaton_pipeline options automata classes i) part) (sym count) is.walks in
        let classes_of : All (IsOfClass (length (lists_at classes i))) t = subst (λ (n : ℕ). All (IsOfClass n) t) (as_many ∙ sym count) all in
        let here = machine_walk-part m t states walked i part (slice_get-get_or m.parts i _ low) in
        let standing : is_some (part_walk part 0 t) ≡ true = ap is_some (sym here) ∙ ap is_some (slice_get-get_or states i 0 (let each = machine_walk-each m t states walked in omega arith)) in
        let settled_classes = All-append (IsOfClass (length (lists_at classes i))) t (advance cycle_limit ∷ []) classes_of (All-cons (IsOfClass (length (lists_at classes i))) (advance cycle_limit) [] tt (All-nil (IsOfClass (length (lists_at classes i))))) in
        let now = (walks.walks (settled t) settled_classes).1 (accepted_settled (automaton_pipeline options automata classes i) t ((walks.walks t classes_of).0 standing)) in
        let held = subst (λ (n : ℕ). TellsWhatIsHeld n (automaton_pipeline options automata classes i) (queries_at automata i) part) (sym count) is.held in
        let asks : length (queries_at automata i) ≡ length part.asks = sym (ap length is.asks ∙ length-map (queries_at automata i) (λ unit. slice_index_or (automaton_at automata i).units unit [])) in
        let filled = subst (λ (n : ℕ). IsFilled n part) (sym count) (filled_part options.no_minimization options automata classes i part (report_at reports i) is) in
        let reported : IsReported (length (lists_at classes i)) (automaton_pipeline options automata classes i) (queries_at automata i) part =
        record { shape = record { table = kept_part.table; stays = kept_part.stays }; filled = filled; walks = walks; held = held; asks = asks; first = first_where_asked options automata classes nothing i there } in
        settles_at_start (length (lists_at classes i)) (automaton_pipeline options automata classes i) (short_pipeline i there) (queries_at automata i) part reported t classes_of now options.no_minimization
        (tells options.no_minimization (automaton_pipeline options automata classes i) part (sym count) is.tells)
      where
        tells : (stay : Bool) (pipeline : Pipeline ℕ) (part : Part) {n o : ℕ} → n ≡ o → MatchBool stay (TellsWhatIsLeft n pipeline part) (AllApart part.rows) → MatchBool stay (TellsWhatIsLeft o pipeline part) (AllApart part.rows)
        tells stay pipeline part e h = subst (λ (k : ℕ). MatchBool stay (TellsWhatIsLeft k pipeline part) (AllApart part.rows)) e h

    starts : (parts : List Part) → All (λ part. part_walk part 0 (settled t) ≡ Some 0) parts → parts_walk parts (replicate (length parts) 0) (settled t) ≡ Some (replicate (length parts) 0)
    starts [] each = refl
    starts (part ∷ parts) each =
        ap (λ (o : Option ℕ). onto_states o (parts_walk parts (replicate (length parts) 0) (settled t))) (All-head (λ p. part_walk p 0 (settled t) ≡ Some 0) part parts each)
        ∙ ap (onto_states (Some 0)) (starts parts (All-tail (λ p. part_walk p 0 (settled t) ≡ Some 0) part parts each))

    pub machine_starts : machine_walk m (settled t) ≡ Some (starts_of m)
    machine_starts = starts m.parts (λ i d low. subst (λ (part : Part). part_walk part 0 (settled t) ≡ Some 0) (get_or_default m.parts i _ d low) (part_settles i low))

  pub machine_settles : AskNothingUnderNdfa options.ndfa automata → (m : Machine) (reports : List Report) → IsMachine m → IsCompiled options automata classes m reports → Settles m
  machine_settles nothing m reports machine compiled = record { settles = λ t all walked. go t all (machine_walk m t) refl walked }
    where
      go : (t : List Event) → All (IsOfClass (length m.classes)) t → (o : Option (List ℕ)) → machine_walk m t ≡ o → is_some o ≡ true → machine_walk m (settled t) ≡ Some (starts_of m)
      go t all None e h = absurd (cc)
      go t all (Some states) e h = machine_starts nothing m reports machine compiled t all states e
