-- Each cell of a picture is the calendar's.
use Rattle.std.proofs.Common.{◌≡◌, ℕ, ◌+◌, ◌-◌, ◌≤◌, Bool, true, List, Contains, Option, Some, None, refl, sym, ap, ◌∙◌, subst, arith}
use Rattle.std.specs.Prelude.{◌&&◌, ◌==◌, nat_le, codes, decimal}
use Rattle.std.specs.List.{find}
use Rattle.std.specs.Option.{option_map_or}
use Rattle.std.proofs.lemmas.Bool.{and_parts, and_from, eqb-true, eq-eqb, leb-true, le-leb, both_ways}
use Rattle.hz_base_model.specs.Pairs.{Pair}
use Rattle.hz_base_model.proofs.Elements.{Contains-map, Contains-from_map, Contains-filter, Contains-from_filter}
use Rattle.hz_pipeline_model.specs.Accepting.Events.{Event, cycles_of}
use Rattle.hz_pipeline_model.specs.Accepting.Plays.{Tells}
use Rattle.hz_pipeline_model.specs.Accepting.Replay.{Pipeline, IsChoice, calendar}
use Rattle.hz_why_model.specs.Holders.{Entry, entries, entry_from, entries_from}
use Rattle.hz_why_model.specs.Pictures.{text_at}
use Rattle.hz_why_model.proofs.Finding.{found, none_passes}
use Rattle.hz_why_model.proofs.HolderLaws.{calendar_in, one_holder}

module _ {U : Type 0} (same : U → U → Bool) (tells : Tells same) (name : U → List ℕ) (m : Pipeline U) (t : List Event) (lines choices : List ℕ) where
  abbrev all : List (Entry U)
  all = entries m 0 t lines choices

  abbrev left : List (Entry U)
  left = entries_from (cycles_of t) all

  abbrev test : Pair U → Entry U → Bool
  test p e = same e.pair.unit p.unit && e.pair.cycle == p.cycle

  -- an entry from the present cycle on is one of all, with its cycle counted anew
  from_all : (e : Entry U) → Contains left e → (f : Entry U) × Contains all f × (cycles_of t ≤ f.pair.cycle) × (entry_from (cycles_of t) f ≡ e)
  from_all e h =
      let found = Contains-from_map (entry_from (cycles_of t)) _ e h in
      let is = Contains-from_filter (λ (f : Entry U). nat_le (cycles_of t) f.pair.cycle) found.0 all found.1 in
      (found.0, is.0, leb-true _ _ is.1, found.2)

  to_left : (e : Entry U) → Contains all e → cycles_of t ≤ e.pair.cycle → Contains left (entry_from (cycles_of t) e)
  to_left e is late = Contains-map (entry_from (cycles_of t)) _ e (Contains-filter (λ (f : Entry U). nat_le (cycles_of t) f.pair.cycle) e (le-leb _ _ late) all is)

  passes : (p : Pair U) → test p (record { pair = p; line = 0; class = 0 }) ≡ true
  passes p = and_from (same p.unit p.unit) (p.cycle == p.cycle) ((tells p.unit p.unit).1 refl) (eq-eqb p.cycle p.cycle refl)

  same_pair : (p q : Pair U) → p.unit ≡ q.unit → p.cycle ≡ q.cycle → p ≡ q
  same_pair p q unit cycle = ap (λ (u : U). record { unit = u; cycle = p.cycle }) unit ∙ ap (λ (c : ℕ). record { unit = q.unit; cycle = c }) cycle

  module _ (is : IsChoice m t choices) (e : Entry U) (there : Contains all e) (late : cycles_of t ≤ e.pair.cycle) where
    abbrev asked : Pair U
    asked = record { unit = e.pair.unit; cycle = e.pair.cycle - cycles_of t }

    -- what is found has the line of the entry
    line_found : (f : Entry U) → Contains left f → test asked f ≡ true → f.line ≡ e.line
    line_found f h passed =
        let from = from_all f h in
        let both = and_parts (same f.pair.unit asked.unit) (f.pair.cycle == asked.cycle) passed in
        let unit : f.pair.unit ≡ e.pair.unit = (tells f.pair.unit asked.unit).0 both.0 in
        let cycle : f.pair.cycle ≡ e.pair.cycle - cycles_of t = eqb-true _ _ both.1 in
        let g : Entry U = from.0 in
        let counted : g.pair.cycle - cycles_of t ≡ f.pair.cycle = ap (λ (x : Entry U). x.pair.cycle) from.3 in
        let low : cycles_of t ≤ g.pair.cycle = from.2 in
        let time : g.pair.cycle ≡ e.pair.cycle = omega arith in
        let units : g.pair.unit ≡ e.pair.unit = ap (λ (x : Entry U). x.pair.unit) from.3 ∙ unit in
        sym (ap (λ (x : Entry U). x.line) from.3) ∙ (one_holder m t lines choices is g e from.1 there (same_pair g.pair e.pair units time)).0

    cell_by : (o : Option (Entry U)) → find (test asked) left ≡ o → option_map_or (λ (x : Entry U). decimal x.line) o (codes ".") ≡ decimal e.line
    cell_by None h =
        let none = none_passes (test asked) left h (entry_from (cycles_of t) e) (to_left e there late) in
        absurd (both_ways _ none (passes asked))
    cell_by (Some f) h = let is_one = found (test asked) left f h in ap (λ (n : ℕ). decimal n) (line_found f is_one.0 is_one.1)

    pub held_cell : text_at same name left e.pair.unit (e.pair.cycle - cycles_of t) ≡ decimal e.line
    held_cell = cell_by _ refl

  module _ (u : U) (cycle : ℕ) (free : Contains (calendar m 0 t choices) (record { unit = u; cycle = cycles_of t + cycle }) → ⊥) where
    abbrev here : Pair U
    here = record { unit = u; cycle = cycle }

    none_there : (f : Entry U) → Contains left f → test here f ≡ true → ⊥
    none_there f h passed =
        let from = from_all f h in
        let both = and_parts (same f.pair.unit u) (f.pair.cycle == cycle) passed in
        let g : Entry U = from.0 in
        let counted : g.pair.cycle - cycles_of t ≡ f.pair.cycle = ap (λ (x : Entry U). x.pair.cycle) from.3 in
        let low : cycles_of t ≤ g.pair.cycle = from.2 in
        let at : f.pair.cycle ≡ cycle = eqb-true _ _ both.1 in
        let time : g.pair.cycle ≡ cycles_of t + cycle = omega arith in
        let units : g.pair.unit ≡ u = ap (λ (x : Entry U). x.pair.unit) from.3 ∙ (tells f.pair.unit u).0 both.0 in
        let taken : Contains (calendar m 0 t choices) g.pair = subst (λ (ps : List (Pair U)). Contains ps g.pair) (calendar_in m 0 t lines choices) (Contains-map (λ (x : Entry U). x.pair) all g from.1) in
        free (subst (λ (p : Pair U). Contains (calendar m 0 t choices) p) (same_pair g.pair (record { unit = u; cycle = cycles_of t + cycle }) units time) taken)

    free_by : (o : Option (Entry U)) → find (test here) left ≡ o → option_map_or (λ (x : Entry U). decimal x.line) o (codes ".") ≡ codes "."
    free_by None h = refl
    free_by (Some f) h = let is_one = found (test here) left f h in absurd (none_there f is_one.0 is_one.1)

    pub free_cell : text_at same name left u cycle ≡ codes "."
    free_cell = free_by _ refl
