-- The states of a machine's parts, one part further.
use Rattle.std.proofs.Common.{◌≡◌, ℕ, ◌+◌, ◌*◌, ◌<◌, ◌≤◌, List, [], ◌∷◌, ◌++◌, length, map, take, drop, set, get_or, Option, Some, None, refl, sym, ap, ◌∙◌, subst, arith, add-one}
use mir.Syntax.{w32, w64}
use mir.Val.{Fits}
use Rattle.std.specs.Option.{option_map}
use Rattle.std.specs.Vec.{vec_len}
use Rattle.std.proofs.lemmas.List.{append_assoc, append-nil, take_more_set, take_all, drop_all, drop-set-lt, take-append-drop, get_or-drop, drop-drop, length-set, length-map}
use Rattle.std.proofs.Math.Seq.{drop-cons, take-suc}
use Rattle.hz_pipeline_model.specs.Tables.Machines.{Part, no_part, next_of, part_walk, parts_walk, onto_states}
use Rattle.hz_pipeline_model.proofs.Tables.MachineLaws.{issue_alone, advance_alone}
use Rattle.hz_tables.specs.declared.machine.Machine.{Machine}
use Rattle.hz_tables.specs.Parts.{part_of}
use Rattle.hz_replay.specs.Replaying.{event_for}

-- ---- the number of a part

-- a machine's parts are few
few_parts : (machine : Machine) → length machine.parts.items ≤ 16
few_parts machine = let few = machine.kept.few in omega (arith, length-map machine.parts.items part_of)

parts_counted : (machine : Machine) (n : ℕ) → n ≡ vec_len machine.parts → n ≡ length machine.parts.items
parts_counted machine n counted = counted ∙ machine.parts.ok.0

module _ (machine : Machine) (i n : ℕ) (counted : n ≡ vec_len machine.parts) (low : i < n) where
  all_parts : n ≡ length machine.parts.items
  all_parts = parts_counted machine n counted

  few : i < 16
  few = let most = few_parts machine in let all = all_parts in omega arith

  pub in_parts : i < length machine.parts.items
  in_parts = let all = all_parts in omega arith

  pub among_parts : i < length (map part_of machine.parts.items)
  among_parts = subst (λ (m : ℕ). i < m) (sym (length-map machine.parts.items part_of)) in_parts

  pub in_states : (start states : List ℕ) → length start ≡ length (map part_of machine.parts.items) → length states ≡ length start → i < length states
  in_states start states each same = subst (λ (m : ℕ). i < m) (sym (same ∙ each)) among_parts

  pub up_to_states : (start states : List ℕ) → length start ≡ length (map part_of machine.parts.items) → length states ≡ length start → i ≤ length states
  up_to_states start states each same = let within = in_states start states each same in omega arith

  pub in_room : i < 16
  in_room = few

  pub up_to_room : i ≤ 16
  up_to_room = let low = few in omega arith

  pub as_part : Fits w32 i
  as_part = let low = few in omega arith

  pub as_offset : Fits w64 (i * 4)
  as_offset = let low = few in omega arith

  pub cost_less : (old now next : ℕ) → now ≤ old + 4 * i → next ≤ now + 4 → next ≤ old + 4 * length machine.parts.items
  cost_less old now next so step = let within = in_parts in omega arith

pub cost_none : (steps : ℕ) → steps ≤ steps + 4 * 0
cost_none steps = omega arith

pub cost_more : (i old now next : ℕ) → now ≤ old + 4 * i → next ≤ now + 4 → next ≤ old + 4 * (i + 1)
cost_more i old now next so step = omega arith

pub cost_all : (machine : Machine) (i n old now : ℕ) → n ≡ vec_len machine.parts → i ≤ n → now ≤ old + 4 * i → now ≤ old + 4 * length machine.parts.items
cost_all machine i n old now counted last so = let all = parts_counted machine n counted in omega arith

pub past_parts : (machine : Machine) (i n : ℕ) → n ≡ vec_len machine.parts → n ≤ i → length (map part_of machine.parts.items) ≤ i
past_parts machine i n counted last = subst (λ (m : ℕ). m ≤ i) (parts_counted machine n counted ∙ sym (length-map machine.parts.items part_of)) last

-- ---- parts

-- what one event takes a part to
one_event : (part : Part) (state : ℕ) (class : Option ℕ) → part_walk part state (event_for class ∷ []) ≡ next_of part state class
one_event part state (Some class) = issue_alone part state class
one_event part state None = advance_alone part state

-- a state before others, which are there or not
onto_front : (front front' : List ℕ) (next : ℕ) (rest : Option (List ℕ)) → front' ≡ front ++ next ∷ [] → option_map (λ (r : List ℕ). front' ++ r) rest ≡ option_map (λ (r : List ℕ). front ++ r) (onto_states (Some next) rest)
onto_front front front' next None is = refl
onto_front front front' next (Some rest) is = ap Some (ap (λ (f : List ℕ). f ++ rest) is ∙ append_assoc front (next ∷ []) rest)

-- an item before those after it
from_place : {A : Type 0} (xs : List A) (i : ℕ) (d : A) → i < length xs → drop i xs ≡ get_or xs i d ∷ drop (i + 1) xs
from_place xs i d low = drop-cons xs i d low ∙ ap (λ (n : ℕ). get_or xs i d ∷ drop n xs) (sym (add-one i))

-- a front with one item more
front_more : (xs : List ℕ) (i : ℕ) → i < length xs → take (i + 1) xs ≡ take i xs ++ get_or xs i 0 ∷ []
front_more xs i low = ap (λ (n : ℕ). take n xs) (add-one i) ∙ take-suc xs i 0 low

-- what stands first in what is left
first_left : (xs ys : List ℕ) (i : ℕ) → drop i xs ≡ drop i ys → get_or xs i 0 ≡ get_or ys i 0
first_left xs ys i same =
    let here : i + 0 ≡ i = omega arith in
    subst (λ (n : ℕ). get_or xs n 0 ≡ get_or ys n 0) here (sym (get_or-drop i xs 0 0) ∙ (ap (λ (zs : List ℕ). get_or zs 0 0) same ∙ get_or-drop i ys 0 0))

-- what is left is one item shorter
left_less : (xs ys : List ℕ) (i : ℕ) → drop i xs ≡ drop i ys → drop (i + 1) xs ≡ drop (i + 1) ys
left_less xs ys i same = sym (drop-drop 1 i xs) ∙ (ap (λ (zs : List ℕ). drop 1 zs) same ∙ drop-drop 1 i ys)

-- The parts before one are taken to their next states, which stand in `states`; those they had stand in `before`. The others have the states
-- that they had.
pub record SoFar (parts : List Part) (start : List ℕ) (class : Option ℕ) (i : ℕ) (states before : List ℕ) : Type 0 where
  pub reported : option_map (λ (rest : List ℕ). take i states ++ rest) (parts_walk (drop i parts) (drop i start) (event_for class ∷ [])) ≡ parts_walk parts start (event_for class ∷ [])
  pub left : drop i states ≡ drop i start
  pub count : length states ≡ length start
  pub kept : take i before ≡ take i start

module _ (parts : List Part) (start : List ℕ) (class : Option ℕ) where
  -- the parts from one on are that one and those after it
  turn : (i : ℕ) → i < length parts → i < length start
      → parts_walk (drop i parts) (drop i start) (event_for class ∷ []) ≡ onto_states (next_of (get_or parts i no_part) (get_or start i 0) class) (parts_walk (drop (i + 1) parts) (drop (i + 1) start) (event_for class ∷ []))
  turn i low state =
      ap (λ (ps : List Part). parts_walk ps (drop i start) (event_for class ∷ [])) (from_place parts i no_part low)
      ∙ (ap (λ (ss : List ℕ). parts_walk (get_or parts i no_part ∷ drop (i + 1) parts) ss (event_for class ∷ [])) (from_place start i 0 state)
      ∙ ap (λ (o : Option ℕ). onto_states o (parts_walk (drop (i + 1) parts) (drop (i + 1) start) (event_for class ∷ []))) (one_event (get_or parts i no_part) (get_or start i 0) class))

  -- no part is taken on
  pub so_far_none : (before : List ℕ) → SoFar parts start class 0 start before
  so_far_none before = record { reported = same (parts_walk parts start (event_for class ∷ [])); left = refl; count = refl; kept = refl }
    where
      same : (o : Option (List ℕ)) → option_map (λ (rest : List ℕ). rest) o ≡ o
      same None = refl
      same (Some rest) = refl

  module _ (i : ℕ) (states before : List ℕ) (so : SoFar parts start class i states before) (low : i < length parts) (each : length start ≡ length parts) where
    -- the next state of the part
    next_here : next_of (get_or parts i no_part) (get_or states i 0) class ≡ next_of (get_or parts i no_part) (get_or start i 0) class
    next_here = ap (λ (s : ℕ). next_of (get_or parts i no_part) s class) (first_left states start i so.left)

    -- the part's state is one of its table
    pub state_within : get_or start i 0 < length (get_or parts i no_part).rows → get_or states i 0 < length (get_or parts i no_part).rows
    state_within is = subst (λ (s : ℕ). s < length (get_or parts i no_part).rows) (sym (first_left states start i so.left)) is

    -- one part more is taken on
    pub so_far_more : (answer : Option ℕ) (next : ℕ) → i < length before → answer ≡ next_of (get_or parts i no_part) (get_or states i 0) class → answer ≡ Some next → SoFar parts start class (i + 1) (set states i next) (set before i (get_or states i 0))
    so_far_more answer next room is some =
        let count = so.count in
        let within : i < length states = omega arith in
        let inside : i < length start = omega arith in
        record {
          reported =
              onto_front (take i states) (take (i + 1) (set states i next)) next (parts_walk (drop (i + 1) parts) (drop (i + 1) start) (event_for class ∷ [])) (take_more_set states i next within)
              ∙ (ap (λ (o : Option (List ℕ)). option_map (λ (rest : List ℕ). take i states ++ rest) o)
              (ap (λ (o : Option ℕ). onto_states o (parts_walk (drop (i + 1) parts) (drop (i + 1) start) (event_for class ∷ []))) (sym some ∙ (is ∙ next_here)) ∙ sym (turn i low inside)) ∙ so.reported);
          left = drop-set-lt (i + 1) states i next (omega arith) ∙ left_less states start i so.left;
          count = length-set states i next ∙ count;
          kept =
              take_more_set before i (get_or states i 0) room
              ∙ (ap (λ (front : List ℕ). front ++ get_or states i 0 ∷ []) so.kept
              ∙ (ap (λ (s : ℕ). take i start ++ s ∷ []) (first_left states start i so.left) ∙ sym (front_more start i inside)));
        }

    -- the part has no next state
    pub so_far_stuck : (answer : Option ℕ) → answer ≡ next_of (get_or parts i no_part) (get_or states i 0) class → answer ≡ None → parts_walk parts start (event_for class ∷ []) ≡ None
    so_far_stuck answer is none =
        let inside : i < length start = omega arith in
        sym so.reported
        ∙ ap (λ (o : Option (List ℕ)). option_map (λ (rest : List ℕ). take i states ++ rest) o)
        (turn i low inside ∙ ap (λ (o : Option ℕ). onto_states o (parts_walk (drop (i + 1) parts) (drop (i + 1) start) (event_for class ∷ []))) (sym (is ∙ next_here) ∙ none))

  -- the states as they were
  pub so_far_back : (i : ℕ) (states before : List ℕ) → SoFar parts start class i states before → (back : List ℕ) → back ≡ take i before ++ drop i states → back ≡ start
  so_far_back i states before so back is =
      is ∙ (ap (λ (front : List ℕ). front ++ drop i states) so.kept ∙ (ap (λ (rest : List ℕ). take i start ++ rest) so.left ∙ take-append-drop i start))

  -- all parts are taken on
  pub so_far_all : (i : ℕ) (states before : List ℕ) → SoFar parts start class i states before → length parts ≤ i → length start ≡ length parts → parts_walk parts start (event_for class ∷ []) ≡ Some states
  so_far_all i states before so last each =
      let count = so.count in
      sym so.reported
      ∙ (ap (λ (ps : List Part). option_map (λ (rest : List ℕ). take i states ++ rest) (parts_walk ps (drop i start) (event_for class ∷ []))) (drop_all i parts last) ∙ ap Some (append-nil (take i states) ∙ take_all i states (omega arith)))
