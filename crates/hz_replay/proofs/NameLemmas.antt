use Rattle.std.proofs.Common.{◌≡◌, ◌≢◌, ◌<◌, get_or, take, All, Option, ℕ, ◌+◌, ◌≤◌, ◌||◌, Bool, true, false, ⊎_elim, arith, cond, not, nat_lt, List, [], ◌∷◌, ◌++◌, length, map, Some, None, refl, sym, ap, ◌∙◌, subst}
use Rattle.std.proofs.lemmas.List.{length-map, length_push, length-take, get_or-take, get_or-map, map_more}
use Rattle.std.proofs.lemmas.List.Folds.{flat_map-map, length-flat_map-take}
use Rattle.std.proofs.lemmas.List.Concat.{get_or-flat_map}
use Rattle.std.proofs.lemmas.List.Elements.{All-get_or, All-push}
use Rattle.std.specs.List.{AllPairs, flat_map}
use Rattle.indexmap.specs.IndexSet.{IndexSet, index_set_len}
use Rattle.hz_base_model.specs.Limits.{class_limit, automaton_limit, unit_limit}
use Rattle.hz_pipeline_model.specs.Tables.Machines.{Part, no_part, IsPart, IsMachine}
use Rattle.hz_tables.specs.declared.machine.Machine as kept
use Rattle.hz_tables.specs.declared.part.Part as declared
use Rattle.hz_tables.specs.Machines.{machine_of}
use Rattle.hz_tables.specs.Parts.{part_of}
use Rattle.std.proofs.lemmas.List.Quantifiers.{position-Some}
use Rattle.std.proofs.lemmas.Slice.Eq.{bytes_eq-Decides}
use Rattle.std.specs.List.{list_any, prefix_len, position, position_or_len}
use Rattle.std.proofs.lemmas.Bool.{ltb-false, cases_Bool}
use Rattle.std.proofs.lemmas.Option.{none-some}
use Rattle.std.specs.Str.{bytes_eq}
use Rattle.std.specs.declared.alloc.Global.{Global}
use Rattle.std.specs.declared.vec.Vec.{Vec}
use Rattle.hz_base_model.specs.Lines.{place_of}
use Rattle.hz_replay.specs.Names.{names_in, all_names_in}

pub prefix_len-map : {A B : Type 0} (f : A → B) (p : B → Bool) (xs : List A) → prefix_len p (map f xs) ≡ prefix_len (λ x. p (f x)) xs
prefix_len-map f p [] = refl
prefix_len-map f p (x ∷ xs) = ap (λ n. cond (p (f x)) (1 + n) 0) (prefix_len-map f p xs)

pub position-map : {A B : Type 0} (f : A → B) (p : B → Bool) (xs : List A) → position p (map f xs) ≡ position (λ x. p (f x)) xs
position-map f p xs =
    rw (prefix_len-map f (λ x. not (p x)) xs, length-map xs f)

-- where a set of owned names has a name
pub place_of_names : (name : List ℕ) (keys : List (Vec ℕ Global)) → place_of name (names_in keys) ≡ position (λ k. bytes_eq name k.items) keys
place_of_names name keys = position-map (λ (k : Vec ℕ Global). k.items) (bytes_eq name) keys

none_any : {K : Type 0} (p : K → Bool) (xs : List K) → length xs ≤ position_or_len p xs → list_any p xs ≡ false
none_any p [] = λ h. refl
none_any p (x ∷ xs) =
    elim (p x) as (λ t. length (x ∷ xs) ≤ cond (not t) (1 + position_or_len p xs) 0 → (t || list_any p xs) ≡ false) [
      | true ↦ λ h. absurd (omega arith)
      | false ↦ λ h. none_any p xs (omega arith)
    ]

none_position : {K : Type 0} (p : K → Bool) (xs : List K) → position p xs ≡ None → length xs ≤ position_or_len p xs
none_position p xs h =
    ⊎_elim (λ e. absurd (none-some _ (sym h ∙ ap (λ t. cond t (Some (position_or_len p xs)) None) e))) (λ e. ltb-false _ _ e) (cases_Bool (nat_lt (position_or_len p xs) (length xs)))

-- a name that is not there is not among the owned names
pub absent_name : (name : List ℕ) (keys : List (Vec ℕ Global)) → place_of name (names_in keys) ≡ None → list_any (λ k. bytes_eq name k.items) keys ≡ false
absent_name name keys h =
    let test : Vec ℕ Global → Bool = λ k. bytes_eq name k.items in
    none_any test keys (none_position test keys (sym (place_of_names name keys) ∙ h))

-- of different names each is new after those before it
pub new_name : (names : List (List ℕ)) (i : ℕ) → AllPairs (λ a b. a ≢ b) names → i < length names → place_of (get_or names i []) (take i names) ≡ None
new_name names i distinct within = by_place (place_of (get_or names i []) (take i names)) refl
  where
    by_place : (o : Option ℕ) → place_of (get_or names i []) (take i names) ≡ o → o ≡ None
    by_place None e = refl
    by_place (Some j) e =
        let found = position-Some (bytes_eq (get_or names i [])) (take i names) j [] e in
        let low : j < i = omega (arith, found.0, length-take i names) in
        let same = (bytes_eq-Decides (get_or names i []) (get_or (take i names) j [])).0 found.1 in
        absurd (distinct j i [] low within (sym (same ∙ get_or-take i names j [] low)))

-- ---- the names of a machine

-- lists of which all together are apart are each apart
part_apart : {X A : Type 0} (R : A → A → Type 0) (f : X → List A) (xs : List X) (i : ℕ) (e : X) → AllPairs R (flat_map f xs) → i < length xs → AllPairs R (f (get_or xs i e))
part_apart R f xs i e apart low j k d before within =
    let front : ℕ = length (flat_map f (take i xs)) in
    let whole : front + length (f (get_or xs i e)) ≤ length (flat_map f xs) = length-flat_map-take f xs i e low in
    let far : R (get_or (flat_map f xs) (front + j) d) (get_or (flat_map f xs) (front + k) d) = apart (front + j) (front + k) d (omega (arith, before)) (omega (arith, whole, within)) in
    subst (λ (x : _). R x (get_or (f (get_or xs i e)) k d)) (get_or-flat_map f xs i j e d low (omega (arith, before, within)))
    (subst (λ (y : _). R (get_or (flat_map f xs) (front + j) d) y) (get_or-flat_map f xs i k e d low within) far)

module _ (machine : kept.Machine) (i : ℕ) (part : declared.Part) (low : i < length machine.parts.items) (is : part ≡ get_or machine.parts.items i part) where
  pub asks_apart : IsMachine (machine_of machine) → AllPairs (λ a b. a ≢ b) part.asks.items
  asks_apart made =
      subst (λ (p : declared.Part). AllPairs (λ a b. a ≢ b) p.asks.items) (sym is)
      (part_apart (λ a b. a ≢ b) (λ (p : declared.Part). p.asks.items) machine.parts.items i part
      (subst (AllPairs (λ a b. a ≢ b)) (flat_map-map (λ (p : Part). p.asks) part_of machine.parts.items) made.ask_names) low)

  pub units_more : map (λ (p : Part). p.asks) (take (i + 1) (machine_of machine).parts) ≡ map (λ (p : Part). p.asks) (take i (machine_of machine).parts) ++ part.asks.items ∷ []
  units_more =
      let parts : List Part = (machine_of machine).parts in
      let long : length parts ≡ length machine.parts.items = length-map machine.parts.items part_of in
      let here : get_or parts i (part_of part) ≡ part_of part = get_or-map part_of machine.parts.items i part (part_of part) low ∙ ap part_of (sym is) in
      map_more (λ (p : Part). p.asks) parts i (part_of part) (omega (arith, low, long)) ∙ ap (λ (p : Part). map (λ (q : Part). q.asks) (take i parts) ++ p.asks ∷ []) here

-- a machine's names are few
pub few_classes : {S : Type 0} (machine : kept.Machine) (set : IndexSet (Vec ℕ Global) S) → IsMachine (machine_of machine) → names_in set.keys ≡ machine.classes.items → index_set_len set ≤ class_limit
few_classes machine set made named =
    let count = made.class_count in
    omega (arith, count, ap length named, length-map set.keys (λ (k : Vec ℕ Global). k.items))

pub few_units : {S : Type 0} (machine : kept.Machine) (sets : List (IndexSet (Vec ℕ Global) S)) → IsMachine (machine_of machine) → all_names_in sets ≡ map (λ (p : Part). p.asks) (machine_of machine).parts
    → All (λ set. index_set_len set ≤ class_limit) sets × (length sets ≤ automaton_limit)
few_units {S} machine sets made named =
    let few = made.few in
    let parts : List Part = (machine_of machine).parts in
    let long : length (map (λ (p : Part). p.asks) parts) ≡ length parts = length-map parts (λ (p : Part). p.asks) in
    let each : length (all_names_in sets) ≡ length sets = length-map sets (λ (s : IndexSet (Vec ℕ Global) S). names_in s.keys) in
    (λ i d low. here i d low (omega (arith, low, long, each, ap length named)), omega (arith, few, long, each, ap length named))
  where
    here : (i : ℕ) (d : IndexSet (Vec ℕ Global) S) → i < length sets → i < length (machine_of machine).parts → index_set_len (get_or sets i d) ≤ class_limit
    here i d low inside =
        let parts : List Part = (machine_of machine).parts in
        let set : IndexSet (Vec ℕ Global) S = get_or sets i d in
        let names : names_in set.keys ≡ (get_or parts i no_part).asks =
        sym (get_or-map (λ (s : IndexSet (Vec ℕ Global) S). names_in s.keys) sets i d [] low) ∙ (ap (λ (ns : List (List (List ℕ))). get_or ns i []) named ∙ get_or-map (λ (p : Part). p.asks) parts i no_part [] inside) in
        let count : length (get_or parts i no_part).asks ≤ unit_limit = (All-get_or (IsPart (length (machine_of machine).classes)) parts i no_part inside made.parts).asks in
        omega (arith, count, ap length names, length-map set.keys (λ (k : Vec ℕ Global). k.items))

-- one set more, of few names
pub more_units : {S : Type 0} (sets : List (IndexSet (Vec ℕ Global) S)) (set : IndexSet (Vec ℕ Global) S) (names : List (List ℕ)) → All (λ set. index_set_len set ≤ class_limit) sets → names_in set.keys ≡ names → length names ≤ unit_limit → length (all_names_in sets) < automaton_limit
    → All (λ set. index_set_len set ≤ class_limit) (sets ++ set ∷ []) × (length (sets ++ set ∷ []) ≤ automaton_limit)
more_units {S} sets set names each is few room =
    let one : index_set_len set ≤ class_limit = omega (arith, few, ap length is, length-map set.keys (λ (k : Vec ℕ Global). k.items)) in
    let all : length (all_names_in sets) ≡ length sets = length-map sets (λ (s : IndexSet (Vec ℕ Global) S). names_in s.keys) in
    (All-push (λ (s : IndexSet (Vec ℕ Global) S). index_set_len s ≤ class_limit) sets set each one, omega (arith, room, all, length_push sets set))

-- ---- names in sets

module _ {S : Type 0} (sets : List (IndexSet (Vec ℕ Global) S)) (i : ℕ) (set : IndexSet (Vec ℕ Global) S) (low : i < length sets) (is : set ≡ get_or sets i set) where
  pub names_inside : i < length (all_names_in sets)
  names_inside = omega (arith, low, length-map sets (λ (s : IndexSet (Vec ℕ Global) S). names_in s.keys))

  pub names_at : get_or (all_names_in sets) i [] ≡ names_in set.keys
  names_at = get_or-map (λ (s : IndexSet (Vec ℕ Global) S). names_in s.keys) sets i set [] low ∙ ap (λ (s : IndexSet (Vec ℕ Global) S). names_in s.keys) (sym is)
