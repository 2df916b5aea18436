-- No interval below what heights of states ask for repeats.
use Rattle.std.proofs.Common.{◌≡◌, ℕ, zero, suc, ◌+◌, ◌*◌, ◌<◌, ◌≤◌, ⊎_elim, true, List, [], ◌∷◌, length, replicate, sum_by, All, Contains, Option, Some, None, is_some, refl, sym, ap, ◌∙◌, subst, arith}
use Rattle.std.proofs.lemmas.List.{length-map}
use Rattle.std.proofs.lemmas.List.Elements.{All-nil, All-cons, Contains-get_or}
use Rattle.hz_base_model.proofs.Elements.{Contains-nil, Contains-head, Contains-tail, Contains-cons_cases}
use Rattle.hz_pipeline_model.specs.Accepting.Events.{Event, issue, advance, ask, cycles_of}
use Rattle.hz_pipeline_model.specs.Tables.Tables.{Table, entry, walk}
use Rattle.hz_pipeline_model.specs.Tables.Machines.{Part, Machine, advance_of, column_of, word_of, part_walk, onto_states, parts_walk, machine_walk, IsMachine, IsWalked}
use Rattle.hz_pipeline_model.proofs.Tables.TableLaws.{walk-append}
use Rattle.hz_block_model.specs.Running.Blocks.{Instruction}
use Rattle.hz_block_model.specs.Dependences.Dependences.{Timing}
use Rattle.hz_block_model.specs.Dependences.Graphs.{IsGraph}
use Rattle.hz_block_model.specs.Scheduling.Schedules.{Node, Graph, Slot, class_at, present, spell, Legal}
use Rattle.hz_block_model.specs.Scheduled.BlockGraphs.{classes_of}
use Rattle.hz_measure_model.specs.Kernels.Heights.{AreHeights}
use Rattle.hz_measure_model.specs.Kernels.Repeats.{Repeats}
use Rattle.hz_measure_model.specs.Kernels.Turns.{repeated, turns, start}
use Rattle.hz_measure_model.proofs.Bounds.Held.{asked}
use Rattle.hz_measure_model.proofs.Bounds.LoadLaws.{spelled_issues}
use Rattle.hz_measure_model.proofs.Kernels.CountLaws.{no_more, cycles_of_turns, asked_by_turns}
use Rattle.hz_measure_model.proofs.Kernels.DepLaws.{more_copies}
use Rattle.hz_measure_model.proofs.Kernels.LegalLaws.{in_body, in_time}
use Rattle.hz_measure_model.proofs.Kernels.RepeatLaws.{class_of_copy, for_ever}
use Rattle.hz_measure_model.proofs.Kernels.TurnLaws.{from_turns}

-- a walk of none ends at none
walk_none : (table : Table) (w : List ℕ) → walk table None w ≡ None
walk_none table [] = refl
walk_none table (c ∷ w) = refl

-- the first step of a walk that ends at a state
walk_first : (table : Table) (next : Option ℕ) (w : List ℕ) (last : ℕ) → walk table next w ≡ Some last → (state : ℕ) × (next ≡ Some state) × (walk table (Some state) w ≡ Some last)
walk_first table None w last e = let none = walk_none table w in absurd (cc)
walk_first table (Some state) w last e = (state, refl, e)

module _ (part : Part) (classes : List ℕ) (weight : ℕ → ℕ) (share : ℕ) (height : ℕ → ℕ) (are : AreHeights part classes weight share height) where
  -- cycles lower a state by so many shares
  lowered_by : (n state last : ℕ) → walk part.rows (Some state) (replicate n (advance_of part)) ≡ Some last → height state ≤ height last + share * n
  lowered_by zero state last e = let same : state ≡ last = cc in let level = ap height same in omega (arith, level)
  lowered_by (suc n) state last e =
      let (next, is, rest) = walk_first part.rows (entry part.rows state (advance_of part)) (replicate n (advance_of part)) last e in
      let one = are.lowered state next is in
      let more = lowered_by n next last rest in
      omega (arith, one, more)

  -- a walk raises a state by what its issues ask for, less a share for each cycle
  pub raised_by : (t : List Event) (state last : ℕ) → ((k : ℕ) → Contains t (issue k) → Contains classes k) → part_walk part state t ≡ Some last → height state + asked weight t ≤ height last + share * cycles_of t
  raised_by [] state last known e = let same : state ≡ last = cc in let level = ap height same in omega (arith, level)
  raised_by (issue k ∷ t) state last known e =
      let (next, is, rest) = walk_first part.rows (entry part.rows state (column_of part k)) (word_of part t) last e in
      let one = are.raised state next k (known k (Contains-head (issue k) t)) is in
      let more = raised_by t next last (λ j c. known j (Contains-tail (issue k) (issue j) t c)) rest in
      omega (arith, one, more)
  raised_by (advance n ∷ t) state last known e =
      let (next, is, rest) = walk_first part.rows (walk part.rows (Some state) (replicate n (advance_of part))) (word_of part t) last (sym (walk-append part.rows (Some state) (replicate n (advance_of part)) (word_of part t)) ∙ e) in
      let one = lowered_by n state next is in
      let more = raised_by t next last (λ j c. known j (Contains-tail (advance n) (issue j) t c)) rest in
      omega (arith, one, more)
  raised_by (ask a u ∷ t) state last known e = raised_by t state last (λ j c. known j (Contains-tail (ask a u) (issue j) t c)) e

-- ---- one part of a machine

onto_some : (next : Option ℕ) (others : Option (List ℕ)) → is_some (onto_states next others) ≡ true → (state : ℕ) × (next ≡ Some state) × (is_some others ≡ true)
onto_some None others e = absurd (cc)
onto_some (Some state) None e = absurd (cc)
onto_some (Some state) (Some rest) e = (state, refl, refl)

part_walked : (parts : List Part) (t : List Event) (part : Part) → Contains parts part → is_some (parts_walk parts (replicate (length parts) 0) t) ≡ true → (state : ℕ) × (part_walk part 0 t ≡ Some state)
part_walked [] t part there e = absurd (Contains-nil part there)
part_walked (p ∷ parts) t part there e =
    let (state, is, rest) = onto_some (part_walk p 0 t) (parts_walk parts (replicate (length parts) 0) t) e in
    ⊎_elim
    (λ (same : p ≡ part). (state, subst (λ (q : Part). part_walk q 0 t ≡ Some state) same is))
    (λ (more : Contains parts part). part_walked parts t part more rest)
    (Contains-cons_cases p part parts there)

-- what is walked asks for no more than its cycles leave, and the height of all states
pub walked_below : (m : Machine) (part : Part) (classes : List ℕ) (weight : ℕ → ℕ) (share : ℕ) (height : ℕ → ℕ) (are : AreHeights part classes weight share height) → Contains m.parts part
    → (t : List Event) → ((k : ℕ) → Contains t (issue k) → Contains classes k) → IsWalked m t → asked weight t ≤ share * cycles_of t + are.top
walked_below m part classes weight share height are there t known walked =
    let (last, is) = part_walked m.parts t part there walked in
    let high = raised_by part classes weight share height are t 0 last known is in
    let top = are.below last in
    omega (arith, high, top)

-- ---- turns

all_slots : (P : Slot → Type 0) (xs : List Slot) → ((x : Slot) → Contains xs x → P x) → All P xs
all_slots P [] h = All-nil P
all_slots P (x ∷ xs) h = All-cons P x xs (h x (Contains-head x xs)) (all_slots P xs (λ y c. h y (Contains-tail x y xs c)))

module _ (m : Machine) (machine : IsMachine m) (body : List Instruction) (t : Timing) (g : Graph) (graph : IsGraph body t g.edges) (many : length g.nodes ≡ length body) (slots : List Slot) (legal : Legal (IsWalked m) g slots)
    (three : Timing) (interval first second : ℕ) (some : 1 ≤ interval) (repeats : Repeats m body three g slots interval first second) where
  place_within : (x : Slot) → Contains slots x → x.place < length g.nodes
  place_within x c = let low = in_body (IsWalked m) body t g graph many slots legal x c in omega (arith, low, many)

  within : All (λ x. x.place < length g.nodes) slots
  within = all_slots (λ x. x.place < length g.nodes) slots place_within

  -- the machine walks every number of turns
  turns_walked : (n : ℕ) → IsWalked m (spell (repeated g n) (turns (length body) interval slots n))
  turns_walked n =
      subst (λ (size : ℕ). IsWalked m (spell (repeated g n) (turns size interval slots n))) many
      (for_ever m interval slots g within machine (all_slots (λ x. x.cycle ≤ present 0 slots) slots (in_time (IsWalked m) body t g graph many slots legal)) (omega arith) first second repeats.settled repeats.before
      (subst (λ (size : ℕ). machine_walk m (start size interval slots g first) ≡ machine_walk m (start size interval slots g second)) (sym many) repeats.same)
      (λ k le. subst (λ (size : ℕ). IsWalked m (spell (repeated g k) (turns size interval slots k))) (sym many) (repeats.each k le))
      n)

  -- what they issue has a class of the body
  class_known : (n k : ℕ) → Contains (spell (repeated g n) (turns (length body) interval slots n)) (issue k) → Contains (classes_of g) k
  class_known n k there =
      let (x, inside, is) = spelled_issues (repeated g n) 0 (turns (length body) interval slots n) k there in
      let (of, soon) = from_turns (length body) interval slots n (n * interval + (present 0 slots + 1)) x inside in
      let low = place_within of.slot of.there in
      let long = length-map g.nodes (λ (node : Node). node.class) in
      let place : x.place ≡ of.turn * length g.nodes + of.slot.place = of.place ∙ ap (λ (size : ℕ). of.turn * size + of.slot.place) (sym many) in
      let class : class_at g of.slot.place ≡ k = sym (class_of_copy g n of.turn of.slot.place of.low low) ∙ (ap (class_at (repeated g n)) (sym place) ∙ is) in
      subst (Contains (classes_of g)) class (Contains-get_or (classes_of g) of.slot.place 0 (omega (arith, low, long)))

  -- so a share of the interval is no less than what a turn asks for
  pub heights_below : (part : Part) → Contains m.parts part → (weight : ℕ → ℕ) (share : ℕ) (height : ℕ → ℕ) → AreHeights part (classes_of g) weight share height → sum_by weight (classes_of g) ≤ share * interval
  heights_below part there weight share height are =
      no_more (sum_by weight (classes_of g)) (share * interval) (share * present 0 slots + are.top) (λ n.
      let asks = asked_by_turns (IsWalked m) body t g graph many slots legal interval n weight in
      let cycles = cycles_of_turns (IsWalked m) body t g graph many slots legal interval n in
      let room = walked_below m part (classes_of g) weight share height are there (spell (repeated g n) (turns (length body) interval slots n)) (class_known n) (turns_walked n) in
      let more = shares share _ _ cycles in
      let sum : share * (n * interval + present 0 slots) ≡ n * (share * interval) + share * present 0 slots = omega arith in
      omega (arith, asks, room, more, sum))
    where
      shares : (share a b : ℕ) → a ≤ b → share * a ≤ share * b
      shares share a b le = let more = more_copies a b share le in let one : a * share ≡ share * a = omega arith in let two : b * share ≡ share * b = omega arith in omega (arith, more, one, two)
