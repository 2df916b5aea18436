-- The tables and the marks, instruction by instruction.
use Rattle.std.proofs.Common.{◌≡◌, ℕ, suc, ◌+◌, ◌<◌, ◌==◌, Bool, true, false, List, [], length, map, take, Option, Some, Contains, sym, ap, ◌∙◌, subst, arith}
use Rattle.std.specs.Prelude.{slice_get, slice_index}
use Rattle.std.specs.Option.{option_map, option_map_or}
use Rattle.std.proofs.Math.Path.{fun_ext}
use Rattle.std.proofs.lemmas.Bool.{eq-eqb}
use Rattle.std.proofs.lemmas.List.{take-map, length-map}
use Rattle.std.proofs.lemmas.Option.{slice_get-map, slice_get_within}
use Rattle.hz_block_model.specs.Dependences.Accesses.{Based}
use Rattle.hz_depend.specs.declared.nodes.Node.{Node}
use Rattle.hz_depend.specs.Held.{Held, held, found, found_among, cost_held, last_of}
use Rattle.hz_depend.specs.Lists.{list_at}
use Rattle.hz_depend.specs.Marks.{marked}
use Rattle.hz_depend.specs.Noted.{hits, put_all, is_unknown, has_base, has_key, CellPlaces, Places, IsBlank, HasMore, HasNoted, candidates}
use Rattle.hz_depend.proofs.NotedPlaces.{places, had, AreCells, AreNoted}
use Rattle.hz_depend.proofs.FoundLemmas.{slice_get-take, length-take_at}
use Rattle.hz_depend.proofs.MarkLemmas.{has_mark}
use Rattle.hz_depend.proofs.CandidateLemmas.{no_cost, found_same}

pub blank_noted : (nodes : List Held) (p : Places) → IsBlank p → AreNoted nodes 0 p
blank_noted nodes p b = record {
  readers = b.readers;
  writers = b.writers;
  read = record { unknown = b.read.unknown; bases = b.read.bases; keys = b.read.keys };
  written = record { unknown = b.written.unknown; bases = b.written.bases; keys = b.written.keys };
}

-- one more of what is held, where the list has a place for each item that passes
one_more : {X : Type 0} (test : X → Bool) (nodes : List Held) (what : Held → List X) (j : ℕ) (h : Held) (old new : List ℕ) → slice_get nodes j ≡ Some h → old ≡ places test (had what nodes) j → new ≡ put_all old (hits test (what h) j)
    → new ≡ places test (had what nodes) (j + 1)
one_more {X} test nodes what j h old new at is more =
    let one : j + 1 ≡ suc j = omega arith in
    let what_it_had : had what nodes j ≡ what h = ap (λ (o : Option Held). option_map_or what o []) at in
    more
    ∙ (ap (λ (xs : List ℕ). put_all xs (hits test (what h) j)) is
    ∙ (ap (λ (items : List X). put_all (places test (had what nodes) j) (hits test items j)) (sym what_it_had)
    ∙ ap (places test (had what nodes)) (sym one)))

more_cells : (nodes : List Held) (what : Held → List (Option Based)) (j : ℕ) (h : Held) (old new : CellPlaces) → slice_get nodes j ≡ Some h → AreCells (had what nodes) j old → HasMore j (what h) old new → AreCells (had what nodes) (j + 1) new
more_cells nodes what j h old new at are more = record {
  unknown = one_more is_unknown nodes what j h old.unknown new.unknown at are.unknown more.unknown;
  bases = λ b. one_more (has_base b) nodes what j h (list_at old.bases b) (list_at new.bases b) at (are.bases b) (more.bases b);
  keys = λ k. one_more (has_key k) nodes what j h (old.keys k) (new.keys k) at (are.keys k) (more.keys k);
}

more_noted : (nodes : List Held) (j : ℕ) (h : Held) (old new : Places) → slice_get nodes j ≡ Some h → AreNoted nodes j old → HasNoted j h old new → AreNoted nodes (j + 1) new
more_noted nodes j h old new at are more = record {
  readers = λ r. one_more (λ m. m == r) nodes (λ n. n.registers_read) j h (list_at old.readers r) (list_at new.readers r) at (are.readers r) (more.readers r);
  writers = λ r. one_more (λ m. m == r) nodes (λ n. n.registers_written) j h (list_at old.writers r) (list_at new.writers r) at (are.writers r) (more.writers r);
  read = more_cells nodes (λ n. n.cells_read) j h old.read new.read at are.read more.read;
  written = more_cells nodes (λ n. n.cells_written) j h old.written new.written at are.written more.written;
}

pub more_noted_node : (nodes : List Node) (j : ℕ) (node : Node) (old new : Places) → slice_get nodes j ≡ Some node → AreNoted (map held nodes) j old → HasNoted j (held node) old new → AreNoted (map held nodes) (j + 1) new
more_noted_node nodes j node old new at = more_noted (map held nodes) j (held node) old new (slice_get-map held nodes j ∙ ap (option_map held) at)

-- the instructions that are marked have all edges
module _ (nodes : List Node) (j : ℕ) (s : Held) (cycles : Held → Held → ℕ) (last : List ℕ) (p : Places) (old new : List ℕ)
    (same : (r : ℕ) → slice_index last r ≡ last_of (map held nodes) j r)
    (noted : AreNoted (map held nodes) j p) (many : length old ≡ length nodes) (within : j < length nodes)
    (is : new ≡ marked old (j + 1) (candidates p (slice_index last) s)) where
  tables : slice_index last ≡ last_of (map held nodes) j
  tables = fun_ext same

  is_marked : (k : ℕ) → k < j → Contains (candidates p (last_of (map held nodes) j) s) k → (slice_index new k == j + 1) ≡ true
  is_marked k lt c =
      let there : Contains (candidates p (slice_index last) s) k = subst (λ (t : ℕ → ℕ). Contains (candidates p t s) k) (sym tables) c in
      eq-eqb (slice_index new k) (j + 1) (ap (λ (xs : List ℕ). slice_index xs k) is ∙ has_mark (j + 1) old (candidates p (slice_index last) s) k (omega arith) there)

  pub among_all : found_among (λ i. slice_index new i == j + 1) (slice_index last) cycles j s 0 (map held (take j nodes)) ≡ found (slice_index last) cycles j s 0 (map held (take j nodes))
  among_all = found_same (λ i. slice_index new i == j + 1) (slice_index last) cycles j s 0 (map held (take j nodes)) (λ k f at not_marked.
      let shorter = slice_get_within (map held (take j nodes)) k f at in
      let long = length-map (take j nodes) held in
      let short = length-take_at nodes j in
      let lt : k < j = omega arith in
      let there : slice_get (map held nodes) k ≡ Some f = sym (slice_get-take (map held nodes) j k lt) ∙ (ap (λ (xs : List Held). slice_get xs k) (take-map held j nodes) ∙ at) in
      let z : 0 + k ≡ k = omega arith in
      let unmarked : (slice_index new k == j + 1) ≡ false = ap (λ (q : ℕ). slice_index new q == j + 1) (sym z) ∙ not_marked in
      ap (λ (q : ℕ). cost_held (slice_index last) q f s cycles) z
      ∙ (ap (λ (t : ℕ → ℕ). cost_held t k f s cycles) tables
      ∙ no_cost (map held nodes) j k f s p noted lt there cycles (λ c. let marked_it = is_marked k lt c in absurd (cc))))
