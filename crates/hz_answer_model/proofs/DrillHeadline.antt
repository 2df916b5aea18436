-- What `drill` answers with status 0 is of a trace that the description and `replay` accept, and of the tables that `compile` writes.
use Rattle.std.proofs.Common.{◌≡◌, ℕ, inl, false, List, length, Some, nat_lt, refl, sym, ◌∙◌, subst, []}
use Rattle.std.proofs.lemmas.Bool.{le-ltb}
use Rattle.std.proofs.lemmas.Option.{same_Some}
use Rattle.hz_pipeline_model.specs.Accepting.Events.{issues_of, cycles_of}
use Rattle.hz_pipeline_model.specs.Compiling.DescriptionLimits.{AllKeepLimits}
use Rattle.hz_description_model.specs.Reading.Limits.{description_limit}
use Rattle.hz_pipeline_model.specs.Traces.TraceLimits.{trace_limit}
use Rattle.hz_description_model.specs.Check.Places.{Known}
use Rattle.hz_description_model.specs.Reading.Descriptions.{Description}
use Rattle.hz_pipeline_model.specs.Tables.Machines.{Machine}
use Rattle.hz_tabtext_model.specs.Texts.{TableText}
use Rattle.hz_front_model.specs.Descriptions.{HasDescription}
use Rattle.hz_answer_model.specs.Answers.{Judges, DrillsDescription, AnswersOrder}
use Rattle.hz_answer_model.specs.DrillAnswers.{Drills, IsDrillOf}
use Rattle.hz_answer_model.specs.Headline.{IsDescribed, WritesDrill, ReplayAcceptsEvents}
use Rattle.hz_base_model.specs.Names.{Held}
use Rattle.hz_words_model.specs.Words.{compile, drill}
use Rattle.hz_front_model.specs.Phases.{Opens, Says}
use Rattle.hz_answer_model.specs.TableAnswers.{IsTablesOf}
use Rattle.hz_front_model.specs.Texts.{accepted_line}
use Rattle.hz_answer_model.proofs.DoneLaws.{IsOpened, opened, IsGiven, given_of, compiled_of}
use Rattle.hz_answer_model.proofs.DrillLaws.{same_machine, machine_of_tables, drawn_accepted}
use Rattle.hz_answer_model.proofs.HeadlineLaws.{one_described, opens}
use Rattle.hz_answer_model.proofs.WalkLaws.{writes_tables}
use Rattle.hz_pipeline_model.proofs.Traces.DrillLaws.{draws_of_turn}
use Rattle.hz_pipeline_model.specs.Accepting.Replay.{Accepted}
use Rattle.hz_pipeline_model.specs.Pipelines.Pipelines.{pipeline_with}
use Rattle.hz_pipeline_model.specs.Traces.Traces.{event_lines}
use Rattle.hz_base_model.specs.Lines.{lines_of}
use Rattle.hz_front_model.specs.Asks.{trace_names, held_in}
use Rattle.hz_front_model.proofs.AskLaws.{last_reported, turns_ask_nothing}

module _ (held : Held) (description : List ℕ) (number turns : ℕ) (text : List ℕ) (h : AnswersOrder held (drill description number turns) 0 text) where
  first : IsOpened (held description) description_limit (λ described. HasDescription description described (DrillsDescription description number turns)) text
  first = opened (held description) description description_limit (λ described. HasDescription description described (DrillsDescription description number turns)) text h

  given : IsGiven first.bytes (DrillsDescription description number turns) text
  given = given_of description first.bytes (DrillsDescription description number turns) text first.answers

  reported : AllKeepLimits given.d given.known × Drills given.d given.known number turns 0 text
  reported = compiled_of description given.d given.known (Drills given.d given.known number turns) text given.answers

  -- the tables of the same description
  tables_there : (m : Machine) (other : Held) (written : List ℕ) → ((t : List ℕ) (is : IsTablesOf given.d given.known t) → is.machine ≡ m) → other description ≡ Some first.bytes → AnswersOrder other (compile description) 0 written → TableText written m
  tables_there m other written same there answer =
      let w = writes_tables other description written answer in
      let bytes : w.described ≡ first.bytes = same_Some w.described first.bytes (sym w.file ∙ there) in
      let one = one_described first.bytes w.d given.d w.known given.known (subst (λ (b : List ℕ). IsDescribed b w.d w.known) bytes w.is_described) given.is in
      let tables : IsTablesOf given.d given.known written = subst (λ (k : Known). IsTablesOf given.d k written) one.1 (subst (λ (x : Description). IsTablesOf x w.known written) one.0 w.tables) in
      subst (TableText written) (same written tables) tables.stands

  pub writes_drill : WritesDrill held description number turns text
  writes_drill =
      let drill : IsDrillOf given.d given.known number turns text = reported.1.1 in
      record {
        described = first.bytes;
        file = first.is;
        d = given.d;
        known = given.known;
        is_described = given.is;
        drill = drill;
        accepted = drawn_accepted given.d given.known number turns drill.events drill.drawn;
        tables = λ other written there answer. tables_there drill.machine other written (λ t is. same_machine given.d given.known is.machine drill.machine (machine_of_tables given.d given.known t is) drill.compiled) there answer;
      }

module _ (held : Held) (description : List ℕ) (number turns : ℕ) (text : List ℕ) (w : WritesDrill held description number turns text) (h : AnswersOrder held (drill description number turns) 0 text) where
  -- the description keeps its limits, and its text does
  limits : AllKeepLimits w.d w.known × (nat_lt description_limit (length w.described) ≡ false)
  limits =
      let first = opened (held description) description description_limit (λ described. HasDescription description described (DrillsDescription description number turns)) text h in
      let given = given_of description first.bytes (DrillsDescription description number turns) text first.answers in
      let kept = (compiled_of description given.d given.known (Drills given.d given.known number turns) text given.answers).0 in
      let bytes : first.bytes ≡ w.described = same_Some first.bytes w.described (sym first.is ∙ w.file) in
      let one = one_described w.described given.d w.d given.known w.known (subst (λ (b : List ℕ). IsDescribed b given.d given.known) bytes given.is) w.is_described in (
        subst (AllKeepLimits w.d) one.1 (subst (λ (x : Description). AllKeepLimits x given.known) one.0 kept),
        subst (λ (b : List ℕ). nat_lt description_limit (length b) ≡ false) bytes first.low,
      )

  pub accepts_drill : ReplayAcceptsEvents held description w.d w.drill.events
  accepts_drill = record {
    answers = λ other trace traced same there short says.
        let events = w.drill.events in
        let line = accepted_line (issues_of events) (cycles_of events) in
        opens (other description) description description_limit (λ described. Opens other trace trace_limit (λ traced. Judges description described trace traced)) w.described line (same ∙ w.file) limits.1
        (opens (other trace) trace trace_limit (λ traced. Judges description w.described trace traced) traced line there (le-ltb trace_limit (length traced) short)
        (inl ((w.is_described).read, (w.is_described).forms, inl (w.d, (w.is_described).says, inl (w.known, (w.is_described).sound, inl (limits.0, inl (events, says, inl (w.accepted, last_reported (held_in w.d w.known) (trace_names w.d) (event_lines (trace_names w.d) 1 (lines_of traced)) events (Says 0 line) (turns_ask_nothing (length (w.d).classes) events (draws_of_turn (Accepted (pipeline_with w.d w.known)) (length (w.d).classes) [] number turns events (w.drill).drawn)) 0 line (refl, refl)))))))));
  }
