-- What is found is the graph of the definitions, and what a schedule asks of it.
use Rattle.std.proofs.Common.{◌≡◌, ℕ, zero, suc, ◌+◌, ◌-◌, ◌<◌, ◌≤◌, ◌==◌, ◌&&◌, Bool, true, false, ◌||◌, cond, List, [], ◌∷◌, length, map, filter, Option, Some, None, All, Contains, refl, sym, ap, ◌∙◌, subst, arith, rules}
use Rattle.std.specs.Prelude.{slice_get, slice_index, unwrap_or, max, not, IsTrue}
use Rattle.std.specs.List.{find, list_any}
use Rattle.std.specs.Option.{option_map}
use Rattle.std.proofs.lemmas.List.{length-map}
use Rattle.std.proofs.lemmas.List.Elements.{All-filter}
use Rattle.std.proofs.lemmas.Option.{slice_get-map, get_or_from_slice_get}
use Rattle.hz_base_model.proofs.Elements.{Contains-head, Contains-tail}
use Rattle.hz_rtl.specs.declared.block.Insn.{Insn}
use Rattle.hz_rtl.specs.Shape.{instruction}
use Rattle.hz_checked.specs.declared.checked.Checked.{Checked}
use Rattle.hz_checked.specs.declared.checked.CheckedClass.{CheckedClass}
use Rattle.hz_checked.specs.Shape.{bypass_of, class_of}
use Rattle.hz_description_model.specs.Check.CheckedParts.{BypassParts}
use Rattle.hz_block_model.specs.Dependences.Accesses.{access_of}
use Rattle.hz_block_model.specs.Dependences.Classes.{bypass_between, number_where}
use Rattle.hz_block_model.specs.Dependences.Stores.{stores_data, stores_data_if, stores_data_at}
use Rattle.hz_block_model.specs.Running.Blocks.{Instruction}
use Rattle.hz_block_model.specs.Dependences.Dependences as model
use Rattle.hz_block_model.specs.Dependences.Dependences.{depends, Timing}
use Rattle.hz_block_model.specs.Dependences.Graphs.{Edge, edge, IsGraph}
use Rattle.hz_block_model.proofs.Dependences.UpwardLaws.{upwards}
use Rattle.hz_depend.specs.GraphShape.{latencies_of, timing_in}
use Rattle.hz_depend.specs.Held.{Held, node_for, class_number, cost_by, cost_held, is_true, is_anti, is_output, last_of, all_found}
use Rattle.hz_depend.proofs.HeldNumbers.{number}
use Rattle.hz_depend.proofs.LastLemmas.{nodes_in, block_in}
use Rattle.hz_depend.proofs.PairLemmas.{true_same, anti_same, output_same, depends_is, cost_is}
use Rattle.hz_depend.proofs.FoundLemmas.{all_has, all_only, all_once}

some_at : {X : Type 0} (xs : List X) (i : ℕ) → i < length xs → (x : X) × (slice_get xs i ≡ Some x)
some_at [] i lt = absurd (omega arith)
some_at (x ∷ xs) zero lt = (x, refl)
some_at (x ∷ xs) (suc i) lt = some_at xs i (omega arith)

some_of : {X Y : Type 0} (f : X → Y) (o : Option X) (y : Y) → option_map f o ≡ Some y → (x : X) × (o ≡ Some x) × (f x ≡ y)
some_of f (Some x) y e = (x, refl, cc)
some_of f None y e = absurd (cc)

cond_some : (b : Bool) (c e : ℕ) → cond b (Some c) None ≡ Some e → (b ≡ true) × (e ≡ c)
cond_some true c e h = (refl, cc)
cond_some false c e h = absurd (cc)

true_is : (b : Bool) → b ≡ true → IsTrue b
true_is true h = search rules
true_is false h = absurd (cc)

cond_small : (b : Bool) (n : ℕ) → n ≤ 1000 → cond b n 0 ≤ 1000
cond_small true n h = h
cond_small false n h = omega arith

cost_small : (t a o : Bool) (n d c : ℕ) → n ≤ 1000 → d ≤ 1000 → cost_by t a o n d ≡ Some c → c ≤ 1000
cost_small t a o n d c hn hd e =
    let (yes', is) = cond_some (t || a || o) (max (cond t n 0) (cond o d 0)) c e in
    let x = cond_small t n hn in
    let y = cond_small o d hd in
    omega arith

found_all : {X : Type 0} (P : X → Type 0) (p : X → Bool) (xs : List X) (x : X) → All P xs → find p xs ≡ Some x → P x
found_all P p [] x h e = absurd (cc)
found_all P p (y ∷ xs) x h e = go (p y) refl e (found_all P p xs x (λ k d lt. h (suc k) d (omega arith)))
  where
    go : (b : Bool) → p y ≡ b → cond b (Some y) (find p xs) ≡ Some x → (find p xs ≡ Some x → P x) → P x
    go true is e' further = let same : y ≡ x = cc in subst P same (h 0 y (omega arith))
    go false is e' further = further e'

pub all_of : {X Y : Type 0} (P : Y → Type 0) (f : X → Y) (xs : List X) → ((y : Y) → Contains (map f xs) y → P y) → All (λ x. P (f x)) xs
all_of P f [] h k d lt = absurd (omega arith)
all_of P f (x ∷ xs) h zero d lt = h (f x) (Contains-head (f x) (map f xs))
all_of P f (x ∷ xs) h (suc k) d lt = all_of P f xs (λ y c. h y (Contains-tail (f x) y (map f xs) c)) k d (omega arith)

module _ (checked : Checked) (insns : List Insn) where
  abbrev pub bypasses : List BypassParts
  bypasses = map bypass_of checked.bypasses.items

  abbrev pub numbers : List ℕ
  numbers = map (class_number checked) insns

  abbrev pub timing : Timing
  timing = timing_in checked numbers (block_in checked insns)

  abbrev pub all : List Edge
  all = all_found (number bypasses) (nodes_in checked insns) (length insns)

  class_at : (i : ℕ) (x : Insn) → slice_get insns i ≡ Some x → slice_index numbers i ≡ class_number checked x
  class_at i x at = get_or_from_slice_get numbers i (class_number checked x) 0 (slice_get-map (class_number checked) insns i ∙ ap (option_map (class_number checked)) at)

  held_at : (i : ℕ) (x : Insn) → slice_get insns i ≡ Some x → slice_get (nodes_in checked insns) i ≡ Some (node_for checked x)
  held_at i x at = slice_get-map (node_for checked) insns i ∙ ap (option_map (node_for checked)) at

  module _ (i j : ℕ) (x y : Insn) (at_i : slice_get insns i ≡ Some x) (at_j : slice_get insns j ≡ Some y) where
    abbrev cx : ℕ
    cx = class_number checked x

    abbrev cy : ℕ
    cy = class_number checked y

    abbrev of_class : ℕ → ℕ
    of_class = slice_index (latencies_of checked)

    stores_same : stores_data (instruction x) (instruction y) ≡ stores_data_at (block_in checked insns) i j
    stores_same =
        ap (λ (o : Option Instruction). stores_data_if o (Some (instruction y))) (sym (slice_get-map instruction insns i ∙ ap (option_map instruction) at_i))
        ∙ ap (stores_data_if (slice_get (block_in checked insns) i)) (sym (slice_get-map instruction insns j ∙ ap (option_map instruction) at_j))

    number_same : number bypasses (node_for checked x) (node_for checked y) ≡ timing.number i j
    number_same =
        ap (λ (b : Bool). number_where bypasses (of_class cx) b cx cy) stores_same
        ∙ (ap (λ (c : ℕ). number_where bypasses (of_class c) (stores_data_at (block_in checked insns) i j) c cy) (sym (class_at i x at_i))
        ∙ ap (number_where bypasses (of_class (slice_index numbers i)) (stores_data_at (block_in checked insns) i j) (slice_index numbers i)) (sym (class_at j y at_j)))

    difference_same : (of_class cx - of_class cy) ≡ (timing.latency i - timing.latency j)
    difference_same = ap (λ (c : ℕ). of_class c - of_class cy) (sym (class_at i x at_i)) ∙ ap (λ (c : ℕ). of_class (slice_index numbers i) - of_class c) (sym (class_at j y at_j))

    abbrev last : ℕ → ℕ
    last = last_of (nodes_in checked insns) j

    abbrev fx : Held
    fx = node_for checked x

    abbrev fy : Held
    fy = node_for checked y

    abbrev between : ℕ → Bool
    between = model.is_written (block_in checked insns) (i + 1) j

    abbrev since : ℕ → Bool
    since = model.is_written (block_in checked insns) i j

    abbrev t : Bool
    t = model.is_true between since (access_of (instruction x)) (access_of (instruction y))

    abbrev a : Bool
    a = model.is_anti between since (access_of (instruction x)) (access_of (instruction y))

    abbrev o : Bool
    o = model.is_output between since (access_of (instruction x)) (access_of (instruction y))

    pair_cost : i < j → cost_held (last_of (nodes_in checked insns) j) i (node_for checked x) (node_for checked y) (number bypasses)
        ≡ cond (depends (block_in checked insns) i j) (Some (model.cost (block_in checked insns) timing i j)) None
    pair_cost lt =
        ap (λ (b : Bool). cost_by b (is_anti last i fx fy) (is_output last i fx fy) (number bypasses fx fy) (of_class cx - of_class cy)) (true_same checked insns i j x y)
        ∙ (ap (λ (b : Bool). cost_by t b (is_output last i fx fy) (number bypasses fx fy) (of_class cx - of_class cy)) (anti_same checked insns i j x y)
        ∙ (ap (λ (b : Bool). cost_by t a b (number bypasses fx fy) (of_class cx - of_class cy)) (output_same checked insns i j x y)
        ∙ (ap (λ (n : ℕ). cost_by t a o n (of_class cx - of_class cy)) number_same
        ∙ (ap (λ (n : ℕ). cost_by t a o (timing.number i j) n) difference_same
        ∙ (ap (λ (n : ℕ). cond (t || a || o) (Some n) None) (sym (cost_is checked insns i j x y at_i at_j timing))
        ∙ ap (λ (b : Bool). cond b (Some (model.cost (block_in checked insns) timing i j)) None) (sym (depends_is checked insns i j x y at_i at_j lt)))))))

  block_length : length (block_in checked insns) ≡ length insns
  block_length = length-map insns instruction

  -- An edge that was found is one of two instructions.
  record Of (e : Edge) : Type 0 where
    pub first : Insn
    pub second : Insn
    pub at_from : slice_get insns e.from ≡ Some first
    pub at_to : slice_get insns e.to ≡ Some second
    pub upward : e.from < e.to
    pub inside : e.to < length insns
    pub is_cost : cost_held (last_of (nodes_in checked insns) e.to) e.from (node_for checked first) (node_for checked second) (number bypasses) ≡ Some e.cost

  of_edge : (e : Edge) → Contains all e → Of e
  of_edge e c =
      let r = all_only (number bypasses) (nodes_in checked insns) (length insns) e c in
      let (x, at_x, is_x) = some_of (node_for checked) (slice_get insns e.from) r.first (sym (slice_get-map (node_for checked) insns e.from) ∙ r.at_from) in
      let (y, at_y, is_y) = some_of (node_for checked) (slice_get insns e.to) r.second (sym (slice_get-map (node_for checked) insns e.to) ∙ r.at_to) in
      record {
        first = x;
        second = y;
        at_from = at_x;
        at_to = at_y;
        upward = r.upward;
        inside = r.inside;
        is_cost = ap (λ (h : Held). cost_held (last_of (nodes_in checked insns) e.to) e.from h (node_for checked y) (number bypasses)) is_x
            ∙ (ap (λ (h : Held). cost_held (last_of (nodes_in checked insns) e.to) e.from r.first h (number bypasses)) is_y ∙ r.is_cost);
      }

  pub graph_is : IsGraph (block_in checked insns) timing all
  graph_is = record { each = each; only = only; once = all_once (number bypasses) (nodes_in checked insns) (length insns) }
    where
      each : (i j : ℕ) → i < length (block_in checked insns) → j < length (block_in checked insns) → depends (block_in checked insns) i j ≡ true → Contains all (edge (block_in checked insns) timing i j)
      each i j within_i within_j d =
          let n = block_length in
          let (lt, inside) = upwards (block_in checked insns) i j (true_is (depends (block_in checked insns) i j) d) in
          let (x, at_x) = some_at insns i (omega arith) in
          let (y, at_y) = some_at insns j (omega arith) in
          let cost = model.cost (block_in checked insns) timing i j in
          all_has (number bypasses) (nodes_in checked insns) (length insns) i j (node_for checked x) (node_for checked y) cost lt (omega arith) (held_at i x at_x) (held_at j y at_y)
          (pair_cost i j x y at_x at_y lt ∙ ap (λ (b : Bool). cond b (Some cost) None) d)

      only : (e : Edge) → Contains all e → (e.from < e.to) × (e.to < length (block_in checked insns)) × (depends (block_in checked insns) e.from e.to ≡ true) × (e.cost ≡ model.cost (block_in checked insns) timing e.from e.to)
      only e c =
          let n = block_length in
          let r = of_edge e c in
          let u = r.upward in
          let w = r.inside in
          let (d, is) = cond_some (depends (block_in checked insns) e.from e.to) (model.cost (block_in checked insns) timing e.from e.to) e.cost (sym (pair_cost e.from e.to r.first r.second r.at_from r.at_to u) ∙ r.is_cost) in
          (u, omega arith, d, is)

  small_class : (classes : List CheckedClass) → All (λ c. c.latency ≤ 1000) (map class_of classes) → (i : ℕ) → slice_index (map (λ c. c.latency) classes) i ≤ 1000
  small_class [] h i = omega arith
  small_class (c ∷ classes) h zero = h 0 (class_of c) (omega arith)
  small_class (c ∷ classes) h (suc i) = small_class classes (λ k d lt. h (suc k) d (omega arith)) i

  pub small : (i : ℕ) → slice_index (latencies_of checked) i ≤ 1000
  small i = small_class checked.classes.items checked.kept.latencies i

  between_small : (guard : BypassParts → Bool) (out into latency : ℕ) → latency ≤ 1000 → unwrap_or (bypass_between (filter guard bypasses) out into) latency ≤ 1000
  between_small guard out into latency h = go (find test (filter guard bypasses)) refl
    where
      test : BypassParts → Bool
      test b = list_any (λ n. n == out) b.outs && list_any (λ n. n == into) b.ins

      go : (o : Option BypassParts) → find test (filter guard bypasses) ≡ o → unwrap_or (option_map (λ b. b.number) o) latency ≤ 1000
      go None is = h
      go (Some b) is = found_all (λ b. b.number ≤ 1000) test (filter guard bypasses) b (All-filter guard (λ b. b.number ≤ 1000) bypasses checked.kept.bypass_numbers) is

  number_small : (f s : Held) → f.latency ≤ 1000 → number bypasses f s ≤ 1000
  number_small f s h = go (stores_data f.instruction s.instruction)
    where
      plain : unwrap_or (bypass_between (filter (λ b. not b.guard) bypasses) f.class s.class) f.latency ≤ 1000
      plain = between_small (λ b. not b.guard) f.class s.class f.latency h

      go : (b : Bool) → number_where bypasses f.latency b f.class s.class ≤ 1000
      go true = between_small (λ b. b.guard) f.class s.class (unwrap_or (bypass_between (filter (λ b. not b.guard) bypasses) f.class s.class) f.latency) plain
      go false = plain

  pub edge_is : (e : Edge) → Contains all e → (e.from < e.to) × (e.to < length insns) × (e.cost ≤ 1000)
  edge_is e c =
      let r = of_edge e c in
      let last = last_of (nodes_in checked insns) e.to in
      let fx = node_for checked r.first in
      let fy = node_for checked r.second in
      let l = small (class_number checked r.first) in
      (r.upward, r.inside, cost_small (is_true last e.from fx fy) (is_anti last e.from fx fy) (is_output last e.from fx fy) (number bypasses fx fy) (fx.latency - fy.latency) e.cost (number_small fx fy l) (omega arith) r.is_cost)

pub map_map : {X Y Z : Type 0} (f : Y → Z) (g : X → Y) (xs : List X) → map f (map g xs) ≡ map (λ x. f (g x)) xs
map_map f g [] = refl
map_map f g (x ∷ xs) = ap (λ (ys : List _). f (g x) ∷ ys) (map_map f g xs)
