-- An instruction on which another depends is one of its candidates.
use Rattle.std.proofs.Common.{◌≡◌, ◌≢◌, ℕ, zero, suc, ◌+◌, ◌-◌, ◌%◌, ◌<◌, ◌≤◌, ◌==◌, Bool, true, false, cond, ◌||◌, ◌&&◌, not, ◌⊎◌, inl, inr, ⊎_elim, List, [], ◌∷◌, ◌++◌, Option, Some, None, Contains, refl, sym, ap, ◌∙◌, subst, arith}
use Rattle.std.specs.Prelude.{slice_get, nat_lt}
use Rattle.std.specs.List.{flat_map, list_any}
use Rattle.std.specs.Option.{option_map_or}
use Rattle.std.proofs.lemmas.Bool.{cases_lt, lt-ltb, ltb-true, eqb-true, eq-eqb}
use Rattle.std.proofs.lemmas.List.Elements.{Contains-append_left, Contains-append_right}
use Rattle.hz_base_model.proofs.Elements.{Contains-head}
use Rattle.hz_block_model.specs.Running.Operators.{word_count}
use Rattle.hz_block_model.specs.Dependences.Accesses.{Based, is_among}
use Rattle.hz_block_model.specs.Dependences.Dependences.{apart_by}
use Rattle.hz_block_model.specs.Dependences.Graphs.{Edge}
use Rattle.hz_depend.specs.Held.{Held, meet, cost_by, is_true, is_anti, is_output, cost_held, edge_by, found, found_among, writes, last_of}
use Rattle.hz_depend.specs.Lists.{list_at}
use Rattle.hz_depend.specs.Marks.{place_before, all_lists, other_lists, below}
use Rattle.hz_depend.specs.Noted.{key_of, same_key, is_unknown, has_base, has_key, CellPlaces, Places, known_candidates, cell_candidates, candidates}
use Rattle.hz_depend.proofs.NotedPlaces.{places, had, AreCells, AreNoted}
use Rattle.hz_depend.proofs.LastLemmas.{none_after}
use Rattle.hz_depend.proofs.NotedLemmas.{any_passes, among_there, flat_map_has, places_has, below_has, all_lists_has, other_lists_has}

either : (a b : Bool) → (a || b) ≡ true → (a ≡ true) ⊎ (b ≡ true)
either true b e = inl refl
either false b e = inr e

both : (a b : Bool) → (a && b) ≡ true → (a ≡ true) × (b ≡ true)
both true true e = (refl, refl)
both true false e = absurd (cc)
both false b e = absurd (cc)

module _ (touched : ℕ → List (Option Based)) (n : ℕ) (c : CellPlaces) (known : AreCells touched n c) (last : ℕ → ℕ) (low : (r : ℕ) → last r ≤ n) (i : ℕ) (lt : i < n) where
  unknown_has : Contains (touched i) None → Contains c.unknown i
  unknown_has there = subst (λ (xs : List ℕ). Contains xs i) (sym known.unknown) (places_has is_unknown touched n i None lt there refl)

  base_has : (a : Based) → Contains (touched i) (Some a) → Contains (list_at c.bases a.base) i
  base_has a there = subst (λ (xs : List ℕ). Contains xs i) (sym (known.bases a.base)) (places_has (has_base a.base) touched n i (Some a) lt there (eq-eqb a.base a.base refl))

  module _ (a b : Based) (there : Contains (touched i) (Some a)) where
    others_have : a.base ≢ b.base → Contains (other_lists b.base 0 c.bases) i
    others_have ne = other_lists_has b.base 0 c.bases a.base i (λ e. ne (omega arith)) (base_has a there)

    old_has : a.base ≡ b.base → i < last b.base → Contains (below (last b.base) (list_at c.bases b.base)) i
    old_has same lately = subst (λ (xs : List ℕ). Contains (below (last b.base) xs) i) (sym (known.bases b.base))
        (below_has (has_base b.base) touched n (last b.base) i (Some a) lately (low b.base) there (eq-eqb a.base b.base same))

    key_has : same_key (key_of a) (key_of b) ≡ true → Contains (c.keys (key_of b)) i
    key_has same = subst (λ (xs : List ℕ). Contains xs i) (sym (known.keys (key_of b))) (places_has (has_key (key_of b)) touched n i (Some a) lt there same)

    abbrev late : List ℕ
    late = below (last b.base) (list_at c.bases b.base)

    abbrev all_others : List ℕ
    all_others = other_lists b.base 0 c.bases

    known_has : (x y z : Bool) → (a.base == b.base) ≡ x → (a.offset % word_count == b.offset % word_count) ≡ y → nat_lt i (last a.base) ≡ z → not (x && not y && not z) ≡ true → Contains (known_candidates c last b) i
    known_has false y z ex ey ez e = Contains-append_left all_others (late ++ c.keys (key_of b)) i (others_have (λ same. let t = eq-eqb a.base b.base same in absurd (cc)))
    known_has true y true ex ey ez e =
        let same = eqb-true a.base b.base ex in
        let lately : i < last b.base = subst (λ (r : ℕ). i < last r) same (ltb-true i (last a.base) ez) in
        Contains-append_right all_others (late ++ c.keys (key_of b)) i (Contains-append_left late (c.keys (key_of b)) i (old_has same lately))
    known_has true true false ex ey ez e =
        Contains-append_right all_others (late ++ c.keys (key_of b)) i (Contains-append_right late (c.keys (key_of b)) i (key_has (rw (ex, ey) refl)))
    known_has true false false ex ey ez e = absurd (cc)

  cell_has : (v w : Option Based) → Contains (touched i) v → not (apart_by (λ r. nat_lt i (last r)) v w) ≡ true → Contains (cell_candidates c last w) i
  cell_has None None there e = Contains-append_left c.unknown (all_lists c.bases) i (unknown_has there)
  cell_has None (Some b) there e = Contains-append_left c.unknown (known_candidates c last b) i (unknown_has there)
  cell_has (Some a) None there e = Contains-append_right c.unknown (all_lists c.bases) i (all_lists_has c.bases a.base i (base_has a there))
  cell_has (Some a) (Some b) there e = Contains-append_right c.unknown (known_candidates c last b) i
      (known_has a b there (a.base == b.base) (a.offset % word_count == b.offset % word_count) (nat_lt i (last a.base)) refl refl refl e)

  pub meet_has : (vs ws : List (Option Based)) → touched i ≡ vs → meet (λ r. nat_lt i (last r)) vs ws ≡ true → Contains (flat_map (cell_candidates c last) ws) i
  meet_has vs ws same e =
      let v = any_passes (λ v. list_any (λ w. not (apart_by (λ r. nat_lt i (last r)) v w)) ws) vs e in
      let w = any_passes (λ w. not (apart_by (λ r. nat_lt i (last r)) v.one w)) ws v.passes in
      flat_map_has (cell_candidates c last) ws w.one i w.there (cell_has v.one w.one (subst (λ (xs : List (Option Based)). Contains xs v.one) (sym same) v.there) w.passes)

-- one of six lists has it
module _ (a b c d e f : List ℕ) (i : ℕ) where
  abbrev six : List ℕ
  six = a ++ (b ++ (c ++ (d ++ (e ++ f))))

  in_first : Contains a i → Contains six i
  in_first h = Contains-append_left a (b ++ (c ++ (d ++ (e ++ f)))) i h

  in_second : Contains b i → Contains six i
  in_second h = Contains-append_right a (b ++ (c ++ (d ++ (e ++ f)))) i (Contains-append_left b (c ++ (d ++ (e ++ f))) i h)

  in_third : Contains c i → Contains six i
  in_third h = Contains-append_right a (b ++ (c ++ (d ++ (e ++ f)))) i (Contains-append_right b (c ++ (d ++ (e ++ f))) i (Contains-append_left c (d ++ (e ++ f)) i h))

  in_fourth : Contains d i → Contains six i
  in_fourth h = Contains-append_right a (b ++ (c ++ (d ++ (e ++ f)))) i (Contains-append_right b (c ++ (d ++ (e ++ f))) i (Contains-append_right c (d ++ (e ++ f)) i (Contains-append_left d (e ++ f) i h)))

  in_last_two : Contains (e ++ f) i → Contains six i
  in_last_two h = Contains-append_right a (b ++ (c ++ (d ++ (e ++ f)))) i (Contains-append_right b (c ++ (d ++ (e ++ f))) i (Contains-append_right c (d ++ (e ++ f)) i (Contains-append_right d (e ++ f) i h)))

  in_fifth : Contains e i → Contains six i
  in_fifth h = in_last_two (Contains-append_left e f i h)

  in_sixth : Contains f i → Contains six i
  in_sixth h = in_last_two (Contains-append_right e f i h)

pub last_low : (nodes : List Held) (j r : ℕ) → last_of nodes j r ≤ j
last_low nodes zero r = omega arith
last_low nodes (suc j) r = go (writes (slice_get nodes j) r) (last_low nodes j r)
  where
    go : (b : Bool) → last_of nodes j r ≤ j → cond b (suc j) (last_of nodes j r) ≤ suc j
    go true h = omega arith
    go false h = omega arith

-- a register is written below the place that `last_of` tells
last_high : (nodes : List Held) (j i r : ℕ) → i < j → writes (slice_get nodes i) r ≡ true → suc i ≤ last_of nodes j r
last_high nodes j i r lt e = ⊎_elim
    (λ (less : i < last_of nodes j r). omega arith)
    (λ (more : last_of nodes j r ≤ i). let never = none_after nodes r j i more lt in absurd (cc))
    (cases_lt i (last_of nodes j r))

module _ (nodes : List Held) (j i : ℕ) (f s : Held) (p : Places) (noted : AreNoted nodes j p) (lt : i < j) (at : slice_get nodes i ≡ Some f) where
  abbrev last : ℕ → ℕ
  last = last_of nodes j

  had_is : {X : Type 0} (what : Held → List X) → had what nodes i ≡ what f
  had_is what = ap (λ (o : Option Held). option_map_or what o []) at

  abbrev last_places : List ℕ
  last_places = flat_map (λ r. place_before (last r)) s.registers_read

  abbrev reader_places : List ℕ
  reader_places = flat_map (list_at p.readers) s.registers_written

  abbrev writer_places : List ℕ
  writer_places = flat_map (list_at p.writers) s.registers_written

  abbrev stores_read : List ℕ
  stores_read = flat_map (cell_candidates p.written last) s.cells_read

  abbrev loads_written : List ℕ
  loads_written = flat_map (cell_candidates p.read last) s.cells_written

  abbrev stores_written : List ℕ
  stores_written = flat_map (cell_candidates p.written last) s.cells_written

  abbrev Has : Type 0
  Has = Contains (candidates p last s) i

  passed_has : list_any (λ r. is_among f.registers_written r && not (nat_lt (i + 1) (last r))) s.registers_read ≡ true → Has
  passed_has e =
      let one = any_passes (λ r. is_among f.registers_written r && not (nat_lt (i + 1) (last r))) s.registers_read e in
      let (wrote, late) = both (is_among f.registers_written one.one) (not (nat_lt (i + 1) (last one.one))) one.passes in
      let does : writes (slice_get nodes i) one.one ≡ true = rw at wrote in
      let high = last_high nodes j i one.one lt does in
      let up : last one.one ≤ i + 1 = ⊎_elim
      (λ (less : i + 1 < last one.one). let t = lt-ltb (i + 1) (last one.one) less in absurd (cc))
      (λ (more : last one.one ≤ i + 1). more)
      (cases_lt (i + 1) (last one.one)) in
      let is : last one.one ≡ suc i = omega arith in
      in_first last_places reader_places writer_places stores_read loads_written stores_written i
      (flat_map_has (λ r. place_before (last r)) s.registers_read one.one i one.there (subst (λ (k : ℕ). Contains (place_before k) i) (sym is) (Contains-head i [])))

  -- a register of the first that the second writes
  shared_has : (what : Held → List ℕ) (lists : List (List ℕ)) → ((r : ℕ) → list_at lists r ≡ places (λ m. m == r) (had what nodes) j) → list_any (is_among s.registers_written) (what f) ≡ true → Contains (flat_map (list_at lists) s.registers_written) i
  shared_has what lists is e =
      let one = any_passes (is_among s.registers_written) (what f) e in
      flat_map_has (list_at lists) s.registers_written one.one i (among_there s.registers_written one.one one.passes)
      (subst (λ (xs : List ℕ). Contains xs i) (sym (is one.one))
      (places_has (λ m. m == one.one) (had what nodes) j i one.one lt (subst (λ (xs : List ℕ). Contains xs one.one) (sym (had_is what)) one.there) (eq-eqb one.one one.one refl)))

  true_has : is_true last i f s ≡ true → Has
  true_has e = ⊎_elim
      (λ (by_register : list_any (λ r. is_among f.registers_written r && not (nat_lt (i + 1) (last r))) s.registers_read ≡ true). passed_has by_register)
      (λ (by_cell : meet (λ r. nat_lt i (last r)) f.cells_written s.cells_read ≡ true).
      in_fourth last_places reader_places writer_places stores_read loads_written stores_written i
      (meet_has (had (λ h. h.cells_written) nodes) j p.written noted.written last (last_low nodes j) i lt f.cells_written s.cells_read (had_is (λ h. h.cells_written)) by_cell))
      (either _ _ e)

  anti_has : is_anti last i f s ≡ true → Has
  anti_has e = ⊎_elim
      (λ (by_register : list_any (is_among s.registers_written) f.registers_read ≡ true).
      in_second last_places reader_places writer_places stores_read loads_written stores_written i (shared_has (λ h. h.registers_read) p.readers noted.readers by_register))
      (λ (by_cell : meet (λ r. nat_lt i (last r)) f.cells_read s.cells_written ≡ true).
      in_fifth last_places reader_places writer_places stores_read loads_written stores_written i
      (meet_has (had (λ h. h.cells_read) nodes) j p.read noted.read last (last_low nodes j) i lt f.cells_read s.cells_written (had_is (λ h. h.cells_read)) by_cell))
      (either _ _ e)

  output_has : is_output last i f s ≡ true → Has
  output_has e = ⊎_elim
      (λ (by_register : list_any (is_among s.registers_written) f.registers_written ≡ true).
      in_third last_places reader_places writer_places stores_read loads_written stores_written i (shared_has (λ h. h.registers_written) p.writers noted.writers by_register))
      (λ (by_cell : meet (λ r. nat_lt i (last r)) f.cells_written s.cells_written ≡ true).
      in_sixth last_places reader_places writer_places stores_read loads_written stores_written i
      (meet_has (had (λ h. h.cells_written) nodes) j p.written noted.written last (last_low nodes j) i lt f.cells_written s.cells_written (had_is (λ h. h.cells_written)) by_cell))
      (either _ _ e)

  pub no_cost : (cycles : Held → Held → ℕ) → (Contains (candidates p last s) i → ⊥) → cost_held last i f s cycles ≡ None
  no_cost cycles never = go (is_true last i f s) (is_anti last i f s) (is_output last i f s) refl refl refl
    where
      go : (t a o : Bool) → is_true last i f s ≡ t → is_anti last i f s ≡ a → is_output last i f s ≡ o → cost_by t a o (cycles f s) (f.latency - s.latency) ≡ None
      go true a o et ea eo = absurd (never (true_has et))
      go false true o et ea eo = absurd (never (anti_has ea))
      go false false true et ea eo = absurd (never (output_has eo))
      go false false false et ea eo = refl

-- where each that isn't marked has no edge, those that are have all
pub found_same : (is_marked : ℕ → Bool) (last : ℕ → ℕ) (cycles : Held → Held → ℕ) (j : ℕ) (s : Held) (i : ℕ) (firsts : List Held)
    → ((k : ℕ) (f : Held) → slice_get firsts k ≡ Some f → is_marked (i + k) ≡ false → cost_held last (i + k) f s cycles ≡ None) → found_among is_marked last cycles j s i firsts ≡ found last cycles j s i firsts
found_same is_marked last cycles j s i [] none = refl
found_same is_marked last cycles j s i (f ∷ firsts) none =
    ap (λ (es : List Edge). es ++ found_among is_marked last cycles j s (suc i) firsts) (go (is_marked i) refl)
    ∙ ap (λ (es : List Edge). edge_by i j (cost_held last i f s cycles) ++ es) (found_same is_marked last cycles j s (suc i) firsts
    (λ k g at not_marked. let e : i + suc k ≡ suc i + k = omega arith in
    ap (λ (q : ℕ). cost_held last q g s cycles) (sym e) ∙ none (suc k) g at (ap is_marked e ∙ not_marked)))
  where
    go : (b : Bool) → is_marked i ≡ b → cond b (edge_by i j (cost_held last i f s cycles)) [] ≡ edge_by i j (cost_held last i f s cycles)
    go true is = refl
    go false is =
        let z : i + zero ≡ i = omega arith in
        let nothing : cost_held last i f s cycles ≡ None = ap (λ (q : ℕ). cost_held last q f s cycles) (sym z) ∙ none zero f refl (ap is_marked z ∙ is) in
        ap (edge_by i j) (sym nothing)
