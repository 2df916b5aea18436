-- The drill over a machine that is compiled is that of its description.
use Rattle.std.proofs.Common.{◌≡◌, ℕ, ◌+◌, ◌<◌, ◌≤◌, List, [], ◌∷◌, ◌++◌, length, take, get_or, Some, refl, ap, ◌∙◌, subst, arith}
use Rattle.std.proofs.lemmas.List.{map_more}
use Rattle.hz_pipeline_model.specs.Accepting.Events.{Event, issue, advance, ask, issues_of, cycles_of}
use Rattle.hz_pipeline_model.proofs.Accepting.ReplayLaws.{issues_of-append}
use Rattle.hz_pipeline_model.specs.Accepting.Replay.{Accepted}
use Rattle.hz_answer_model.specs.DrillAnswers.{Drills}
use Rattle.hz_answer_model.specs.Texts.{drill_text}
use Rattle.hz_auto.specs.declared.compiled.Compiled.{Compiled}
use Rattle.hz_auto.specs.Machines.{reports_of}
use Rattle.hz_checked.specs.declared.checked.Checked.{Checked}
use Rattle.hz_check.specs.Checked.{IsCheckedOf}
use Rattle.hz_pipeline_model.specs.Traces.Drills.{Drawn}
use Rattle.hz_pipeline_model.proofs.Traces.DrillLaws.{drawn_there, draws_counts}
use Rattle.hz_description_model.specs.Reading.Descriptions.{Description}
use Rattle.hz_pipeline_model.specs.Pipelines.Pipelines.{pipeline_with}
use Rattle.hz_replay.specs.declared.event.Event.{Event as Placed}
use Rattle.hz_replay.specs.Lines.{event_of}
use Rattle.hz_replay.specs.Replaying.{issues_in}
use Rattle.hz_replay.specs.Traces.{events_in}
use Rattle.hz_tables.specs.Machines.{machine_of}
use Rattle.hz_pipeline_model.specs.Tables.Machines.{Machine, IsMachine, machine_walk, IsWalked}
use Rattle.hz_tool.proofs.MachineLemmas.{classes_count, compiled_of, machine_for}
use Rattle.hz_tool.specs.Compiled.{IsCompiledBy}

module _ (d : Description) (checked : Checked) (is : IsCheckedOf d checked) (all : Compiled) (by : IsCompiledBy checked all) where
  abbrev m : Machine
  m = machine_of all.machine

  -- what is drawn over the machine is drawn by what the description accepts
  drawn_described : (number turns : ℕ) (t : List Event) → Drawn (IsWalked m) (length m.classes) number turns t → Drawn (Accepted (pipeline_with d is.known)) (length d.classes) number turns t
  drawn_described number turns t drawn =
      let machine = machine_for d checked is m (reports_of all.reports.items) by.compiled in
      let here = subst (λ (n : ℕ). Drawn (IsWalked m) n number turns t) (classes_count d is.known m machine) drawn in
      drawn_there (length d.classes) (IsWalked m) (Accepted (pipeline_with d is.known)) (λ s of_class. (machine.walks s of_class).0) (λ s of_class. (machine.walks s of_class).1) number turns t here

  pub drill_reported : IsMachine m → (number turns issues cycles : ℕ) (t : List Event) (states : List ℕ) → Drawn (IsWalked m) (length m.classes) number turns t → machine_walk m t ≡ Some states → issues ≡ issues_of t → cycles ≡ cycles_of t
      → Drills d is.known number turns 0 (drill_text turns issues cycles states)
  drill_reported kept number turns issues cycles t states drawn left counted passed = (
    refl,
    record {
      events = t;
      drawn = drawn_described number turns t drawn;
      machine = m;
      compiled = record { reports = reports_of all.reports.items; is_machine = kept; compiled = compiled_of d checked is m (reports_of all.reports.items) by.compiled };
      states = states;
      left = left;
      tells = ap (λ (n : ℕ). drill_text turns n cycles states) counted ∙ ap (λ (n : ℕ). drill_text turns (issues_of t) n states) passed;
    },
  )

-- the issues and the cycles of a drawn trace are its turns
pub turns_counted : (m : Machine) (classes number turns : ℕ) (t : List Event) → Drawn (IsWalked m) classes number turns t → issues_of t + cycles_of t ≡ turns
turns_counted m classes number turns t = draws_counts (IsWalked m) classes [] number turns t

-- one more event is counted
issues_push : (t : List Event) (e : Event) → issues_of (t ++ e ∷ []) ≡ issues_of t + issues_in e
issues_push t (issue k) = issues_of-append t (issue k ∷ [])
issues_push t (advance n) = issues_of-append t (advance n ∷ [])
issues_push t (ask a u) = issues_of-append t (ask a u ∷ [])

pub issues_more : (es : List Placed) (i : ℕ) (e : Placed) → i < length es → issues_of (events_in (take (i + 1) es)) ≡ issues_of (events_in (take i es)) + issues_in (event_of (get_or es i e).what)
issues_more es i e low = ap issues_of (map_more (λ (x : Placed). event_of x.what) es i e low) ∙ issues_push (events_in (take i es)) (event_of (get_or es i e).what)

pub one_issue : (e : Event) → issues_in e ≤ 1
one_issue (issue k) = omega arith
one_issue (advance n) = omega arith
one_issue (ask a u) = omega arith
