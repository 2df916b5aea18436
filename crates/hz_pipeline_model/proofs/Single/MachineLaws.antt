-- There is one machine that is compiled of automata and classes, and the same is reported of it.
use Rattle.std.proofs.Common.{◌≡◌, ℕ, ◌<◌, List, length, All, None, sym, ◌∙◌, arith}
use Rattle.std.proofs.lemmas.List.{ext_get_or}
use Rattle.hz_description_model.specs.Reading.Descriptions.{Options}
use Rattle.hz_description_model.specs.Check.CheckedParts.{AutomatonParts, ClassParts}
use Rattle.hz_pipeline_model.specs.Tables.Machines.{Machine, Part, part_at, no_part, IsPart, IsMachine}
use Rattle.hz_pipeline_model.specs.Compiling.Compiled.{Report, IsCompiledPart, IsCompiled, report_at}
use Rattle.hz_pipeline_model.specs.Single.Reported.{TellTheSame, AllTellTheSame, ListsAscending}
use Rattle.hz_pipeline_model.proofs.Single.PartLaws.{one_part, IsShaped}
use Rattle.hz_pipeline_model.proofs.Single.ReportLaws.{tell_the_same, one_report}

-- what is reported where no automaton is
abbrev nothing_reported : Report
nothing_reported = record { grids = 0; states = 0; members = 0; shown = None }

module _ (options : Options) (automata : List AutomatonParts) (classes : List ClassParts) (m m' : Machine) (reports reports' : List Report) (machine : IsMachine m) (machine' : IsMachine m') (is : IsCompiled options automata classes m reports) (is' : IsCompiled options automata classes m' reports') where
  -- a fact of two compiled parts holds of those of each number
  of_each : (Both : Part → Part → Report → Report → Type 0) → ((a : ℕ) (part other : Part) (report report' : Report) → IsShaped part → IsShaped other → IsCompiledPart options.no_minimization options automata classes a part report → IsCompiledPart options.no_minimization options automata classes a other report' → Both part other report report') → (a : ℕ) → a < length automata → Both (part_at m a) (part_at m' a) (report_at reports a) (report_at reports' a)
  of_each Both both a low =
      let one : IsPart (length m.classes) (part_at m a) = machine.parts a no_part (omega (arith, low, is.each)) in
      let other : IsPart (length m'.classes) (part_at m' a) = machine'.parts a no_part (omega (arith, low, is'.each)) in
      both a (part_at m a) (part_at m' a) (report_at reports a) (report_at reports' a) (record { table = one.table; stays = one.stays }) (record { table = other.table; stays = other.stays }) (is.parts a low) (is'.parts a low)

  parts_same : m.parts ≡ m'.parts
  parts_same = ext_get_or no_part m.parts m'.parts (is.each ∙ sym is'.each)
      (λ a low. of_each (λ part other report report'. part ≡ other) (one_part options.no_minimization options automata classes) a (omega (arith, low, is.each)))

  pub one_machine : m ≡ m'
  one_machine = λ i. record { classes = (is.names ∙ sym is'.names) i; parts = parts_same i }

  pub all_tell_the_same : AllTellTheSame reports reports'
  all_tell_the_same = record {
    each = is.reported ∙ sym is'.reported;
    reported = λ a low. of_each (λ part other report report'. TellTheSame report report') (tell_the_same options.no_minimization options automata classes) a (omega (arith, low, is.reported));
  }

  pub one_reported : All ListsAscending reports → All ListsAscending reports' → reports ≡ reports'
  one_reported up up' = ext_get_or nothing_reported reports reports' (is.reported ∙ sym is'.reported)
      (λ a low. of_each (λ part other report report'. ListsAscending report → ListsAscending report' → report ≡ report') (one_report options.no_minimization options automata classes) a (omega (arith, low, is.reported))
      (up a nothing_reported low) (up' a nothing_reported (omega (arith, low, is.reported, is'.reported))))
