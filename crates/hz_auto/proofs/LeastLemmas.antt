-- A part whose table is minimised is compiled, too.
use Rattle.std.proofs.Common.{◌≡◌, ℕ, ◌+◌, ◌≤◌, Bool, true, false, List, [], ◌∷◌, ◌++◌, length, replicate, slice_get, All, Option, Some, None, refl, sym, ap, ◌∙◌, subst, arith}
use Rattle.std.specs.Prelude.{is_some, MatchBool, IsSomeAnd, slice_index_or, ◌&&◌, ◌↔◌}
use Rattle.std.proofs.Math.Nat.{mul-le-mul_left}
use Rattle.hz_pipeline_model.specs.Accepting.Events.{Event, issue, advance, ask, IsOfClass}
use Rattle.hz_pipeline_model.specs.Accepting.Replay.{Pipeline}
use Rattle.hz_pipeline_model.specs.Accepting.Asking.{IsHeld}
use Rattle.hz_description_model.specs.Reading.Descriptions.{Options}
use Rattle.hz_description_model.specs.Check.CheckedParts.{AutomatonParts, ClassParts}
use Rattle.hz_pipeline_model.specs.Tables.Tables.{Table, entry, walk}
use Rattle.hz_pipeline_model.specs.Tables.Apart.{WalkTheSame}
use Rattle.hz_pipeline_model.specs.Tables.Machines.{Part, IsPart, part_walk, word_of, advance_of, tells_reserved}
use Rattle.hz_pipeline_model.proofs.Tables.TableLaws.{breadth_first_reached}
use Rattle.hz_pipeline_model.specs.Least.Normal.{IsNormal}
use Rattle.hz_pipeline_model.proofs.Asks.AskLaws.{least_stays, walk_one, walk_end}
use Rattle.hz_pipeline_model.proofs.Single.PartLaws.{some_of}
use Rattle.hz_pipeline_model.specs.Compiling.AutomatonPipelines.{automaton_pipeline, queries_at}
use Rattle.hz_pipeline_model.specs.Compiling.Compiled.{shows_states, IsCompiledPart, IsShown, Shown, Report}
use Rattle.hz_auto.specs.Parts.{IsLeast}
use Rattle.hz_auto.proofs.SameParts.{same_part}

-- where states may be minimised, none is shown
not_shown : (options : Options) → options.no_minimization ≡ false → shows_states options ≡ false
not_shown options e = rw e (go options.verbose)
  where
    go : (b : Bool) → (b && false) ≡ false
    go true = refl
    go false = refl

-- the part with this table
abbrev with_rows : Part → Table → Part
with_rows part rows = record { name = part.name; map = part.map; columns = part.columns; asks = part.asks; rows = rows }

-- a part with the least table of its own
module _ (part : Part) (rows : Table) (normal : IsNormal rows (advance_of part)) (walks : WalkTheSame part.rows rows) (fewer : length rows ≤ length part.rows) where
  abbrev lesser : Part
  lesser = with_rows part rows

  -- events take the same columns
  words_same : (t : List Event) → word_of lesser t ≡ word_of part t
  words_same [] = refl
  words_same (issue k ∷ t) = ap (λ (w : List ℕ). slice_index_or part.map k (advance_of part + 1) ∷ w) (words_same t)
  words_same (ask b u ∷ t) = words_same t
  words_same (advance k ∷ t) = ap (λ (w : List ℕ). replicate k (advance_of part) ++ w) (words_same t)

  walked : (t : List Event) → is_some (part_walk lesser 0 t) ≡ is_some (part_walk part 0 t)
  walked t = ap (λ (w : List ℕ). is_some (walk rows (Some 0) w)) (words_same t) ∙ sym (walks.same (word_of part t))

  -- what is kept of the part is kept of it
  lesser_kept : (classes : ℕ) → IsPart classes part → IsPart classes lesser
  lesser_kept classes kept = record {
    each = kept.each;
    within = kept.within;
    columns = kept.columns;
    asks = kept.asks;
    table = normal.is;
    stays = least_stays part.rows rows part.columns (length part.asks) kept.table kept.stays walks normal;
    cells =
        let cells = kept.cells in
        let less = mul-le-mul_left {m = length rows} {n = length part.rows} (advance_of part + 1) fewer in
        omega (arith, less, cells);
  }

  -- it tells what the part tells
  same_tells : (t : List Event) (state mate query : ℕ) → part_walk lesser 0 t ≡ Some state → part_walk part 0 t ≡ Some mate → tells_reserved lesser state query ≡ tells_reserved part mate query
  same_tells t state mate query ends led =
      let column = part.columns + query in
      let w = word_of part t in
      let here : is_some (walk rows (Some 0) (w ++ column ∷ [])) ≡ is_some (entry rows state column) = ap is_some (walk_one rows (Some 0) state column w [] (sym (ap (walk rows (Some 0)) (words_same t)) ∙ ends) ∙ walk_end rows (entry rows state column)) in
      let there : is_some (walk part.rows (Some 0) (w ++ column ∷ [])) ≡ is_some (entry part.rows mate column) = ap is_some (walk_one part.rows (Some 0) mate column w [] led ∙ walk_end part.rows (entry part.rows mate column)) in
      sym here ∙ (sym (walks.same (w ++ column ∷ [])) ∙ there)

  module _ (options : Options) (automata : List AutomatonParts) (classes : List ClassParts) (a : ℕ) (report : Report) (compiled : IsCompiledPart true options automata classes a part report) (lessened : options.no_minimization ≡ false) where
    abbrev m : Pipeline ℕ
    m = automaton_pipeline options automata classes a

    hidden : (b : Bool) → b ≡ false → (o : Option Shown) → MatchBool b (IsSomeAnd o (IsShown (length classes) m part)) (o ≡ None) → MatchBool b (IsSomeAnd o (IsShown (length classes) m lesser)) (o ≡ None)
    hidden false e o h = h
    hidden true e o h = absurd (cc)

    lesser_held : (t : List Event) (state query unit : ℕ) → All (IsOfClass (length classes)) t → part_walk lesser 0 t ≡ Some state → slice_get (queries_at automata a) query ≡ Some unit → (tells_reserved lesser state query ≡ true) ↔ IsHeld m t unit
    lesser_held t state query unit all ends at =
        let mate = some_of (part_walk part 0 t) (sym (walked t) ∙ ap is_some ends) in
        let same = same_tells t state mate.0 query ends mate.1 in
        let held = compiled.held.held t mate.0 query unit all mate.1 at in
        (λ h. held.0 (sym same ∙ h), λ h. same ∙ held.1 h)

    lesser_compiled : IsCompiledPart options.no_minimization options automata classes a lesser report
    lesser_compiled = subst (λ (b : Bool). IsCompiledPart b options automata classes a lesser report) (sym lessened) (record {
      name = compiled.name;
      columns = compiled.columns;
      shared = compiled.shared;
      number = compiled.number;
      asks = compiled.asks;
      held = record { held = λ t state query unit all ends at. lesser_held t state query unit all ends at };
      walks = record {
        walks = λ t all.
            let before = compiled.walks.walks t all in
            (λ h. before.0 (sym (walked t) ∙ h), λ h. walked t ∙ before.1 h);
      };
      tells = normal.apart;
      numbered = record { reached = breadth_first_reached rows (advance_of part) normal.parents normal.order; parents = normal.parents; breadth_first = normal.order };
      within = compiled.within;
      grids = compiled.grids;
      states = compiled.states;
      members = compiled.members;
      shown = hidden (shows_states options) (not_shown options lessened) report.shown compiled.shown;
    })

module _ (part least : Part) (is : IsLeast part least) where
  advance_same : advance_of least ≡ advance_of part
  advance_same = ap (λ (n : ℕ). n + length least.asks) is.columns ∙ ap (λ (names : List (List ℕ)). part.columns + length names) is.asks

  normal_rows : IsNormal least.rows (advance_of part)
  normal_rows = subst (IsNormal least.rows) advance_same is.normal

  least_is : with_rows part least.rows ≡ least
  least_is = same_part (with_rows part least.rows) least (sym is.named) (sym is.mapped) (sym is.columns) (sym is.asks) refl

  -- what is kept of the part is kept of the least one
  pub least_kept : (classes : ℕ) → IsPart classes part → IsPart classes least
  least_kept classes kept = subst (IsPart classes) least_is (lesser_kept part least.rows normal_rows is.walks is.fewer classes kept)

  pub least_compiled : (options : Options) (automata : List AutomatonParts) (classes : List ClassParts) (a : ℕ) (report : Report) → IsCompiledPart true options automata classes a part report → options.no_minimization ≡ false → IsCompiledPart options.no_minimization options automata classes a least report
  least_compiled options automata classes a report compiled lessened =
      subst (λ (p : Part). IsCompiledPart options.no_minimization options automata classes a p report) least_is
      (lesser_compiled part least.rows normal_rows is.walks is.fewer options automata classes a report compiled lessened)
