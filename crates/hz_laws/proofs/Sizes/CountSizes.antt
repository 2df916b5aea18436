-- The counts that are reported of a compiled automaton are small, its rows are few, and where states are not shown nothing is reported
-- of them.
use Rattle.std.proofs.Common.{◌≡◌, ℕ, ◌+◌, ◌^◌, ◌<◌, ◌≤◌, Bool, true, false, List, length, All, Option, None, ⊎_elim, sym, subst, arith, ap, ◌∙◌, []}
use Rattle.std.specs.Prelude.{MatchBool, IsSomeAnd, slice_index_or}
use Rattle.std.proofs.lemmas.Bool.{cases_lt}
use Rattle.std.proofs.lemmas.List.{get_or_default, length-map}
use Rattle.hz_pipeline_model.specs.Accepting.Replay.{Pipeline}
use Rattle.hz_description_model.specs.Reading.Descriptions.{Options}
use Rattle.hz_description_model.specs.Check.CheckedParts.{AutomatonParts, ClassParts}
use Rattle.hz_pipeline_model.specs.Tables.StateLimits.{state_limit}
use Rattle.hz_pipeline_model.specs.Tables.Machines.{Part, Machine, IsMachine, part_at, no_part}
use Rattle.hz_pipeline_model.specs.Reaching.Counts.{Count, grids, states, members, CountIsAtMost}
use Rattle.hz_pipeline_model.proofs.Reaching.CountLaws.{no_count_both}
use Rattle.hz_pipeline_model.specs.Compiling.AutomatonPipelines.{automaton_pipeline, queries_at, automaton_at}
use Rattle.hz_pipeline_model.specs.Compiling.Counted.{CountIs}
use Rattle.hz_pipeline_model.specs.Compiling.CompiledParts.{cap_of}
use Rattle.hz_pipeline_model.specs.Compiling.Compiled.{Report, report_at, shows_states, IsShown, IsCompiled}
use Rattle.hz_tabtext_model.specs.Texts.{spelled}
use Rattle.hz_tabtext_model.specs.Said.{tables_said}
use Rattle.hz_pipeline_model.proofs.Single.PartLaws.{filled_part}
use Rattle.hz_laws.specs.Sizes.Extents.{unnamed_limit, bytes_of_names}
use Rattle.hz_laws.proofs.Sizes.RowSizes.{rows_few}
use Rattle.hz_laws.proofs.Sizes.TextSizes.{TellsCounts, spelled_most}
use Rattle.hz_block_model.proofs.Settling.AlikeStates.{IsReported}
use Rattle.hz_block_model.proofs.Settling.AskedTreatment.{first_where_asked}
use Rattle.hz_description_model.specs.Check.CheckedShape.{AskNothingUnderNdfa}

-- a count is no greater than what it is at most
count_most : {U : Type 0} (m : Pipeline U) (columns : ℕ) (kind : Count) (n most : ℕ) → CountIs m columns kind n → CountIsAtMost m columns kind most → n ≤ most
count_most m columns kind n most is within = ⊎_elim
    (λ (more : most < n). absurd (no_count_both m columns most kind (is.least most more) within))
    (λ (less : n ≤ most). less)
    (cases_lt most n)

-- the limits, whether states are shown or not
caps_low : (shown : Bool) → (cap_of shown grids < 2 ^ 32) × (cap_of shown states ≤ state_limit) × (cap_of shown members < 2 ^ 32)
caps_low true = (omega arith, omega arith, omega arith)
caps_low false = (omega arith, omega arith, omega arith)

-- where nothing is to be shown there is nothing
none_shown : {X : Type 0} (P : X → Type 0) (shown : Bool) (o : Option X) → shown ≡ false → MatchBool shown (IsSomeAnd o P) (o ≡ None) → o ≡ None
none_shown P true o hidden h = absurd (cc)
none_shown P false o hidden h = h

module _ (options : Options) (automata : List AutomatonParts) (classes : List ClassParts) (m : Machine) (reports : List Report) (is : IsCompiled options automata classes m reports) where
  tells_counts : shows_states options ≡ false → (a : ℕ) → a < length m.parts → TellsCounts options automata reports m a
  tells_counts hidden a low =
      let each = is.each in
      let part = is.parts a (omega (arith, low, each)) in
      let pipeline = automaton_pipeline options automata classes a in
      let columns = (part_at m a).columns in
      let report = report_at reports a in
      let caps = caps_low (shows_states options) in
      let within = part.within.counts in
      let one = count_most pipeline columns grids report.grids (cap_of (shows_states options) grids) part.grids (within grids) in
      let two = count_most pipeline columns states report.states (cap_of (shows_states options) states) part.states (within states) in
      let three = count_most pipeline columns members report.members (cap_of (shows_states options) members) part.members (within members) in
      record {
        counts = record { grids = omega (arith, one, caps.0); states = omega (arith, two, caps.1); members = omega (arith, three, caps.2) };
        nothing = none_shown (IsShown (length classes) pipeline (part_at m a)) (shows_states options) report.shown hidden part.shown;
      }

  pub rows_low : AskNothingUnderNdfa options.ndfa automata → IsMachine m → All (λ part. length part.rows ≤ state_limit) m.parts
  rows_low nothing machine a d low =
      let each = is.each in
      let part = is.parts a (omega (arith, low, each)) in
      let shown = shows_states options in
      let within = part.within.counts in
      let fits = machine.parts a no_part low in
      let reported : IsReported (length classes) (automaton_pipeline options automata classes a) (queries_at automata a) (part_at m a) = record {
        shape = record { table = fits.table; stays = fits.stays };
        filled = filled_part options.no_minimization options automata classes a (part_at m a) (report_at reports a) part;
        walks = part.walks;
        held = part.held;
        asks = sym (ap length part.asks ∙ length-map (queries_at automata a) (λ unit. slice_index_or (automaton_at automata a).units unit []));
        first = first_where_asked options automata classes nothing a (omega (arith, low, each));
      } in
      let few = rows_few (length classes) (automaton_pipeline options automata classes a) (queries_at automata a) (part_at m a) reported options.no_minimization part.tells (within grids) part.numbered.reached (cap_of shown states) (within states) in
      let caps = caps_low shown in
      let here : length (part_at m a).rows ≤ state_limit = omega (arith, few, caps.1) in
      subst (λ (p : Part). length p.rows ≤ state_limit) (sym (get_or_default m.parts a d no_part low)) here

  pub lines_most : AskNothingUnderNdfa options.ndfa automata → IsMachine m → shows_states options ≡ false → length (spelled (tables_said options automata reports m)) ≤ unnamed_limit + bytes_of_names m
  lines_most nothing machine hidden = spelled_most options automata reports m machine (rows_low nothing machine) (tells_counts hidden)
