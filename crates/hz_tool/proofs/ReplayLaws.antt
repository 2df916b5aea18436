-- What `replay` answers over the machine of a description is what the description says.
use Rattle.std.proofs.Common.{◌≡◌, ℕ, ◌+◌, List, length, take, Some, None, All, refl, sym, ap, subst, add-one}
use Rattle.std.proofs.lemmas.Option.{same_Some}
use Rattle.hz_pipeline_model.specs.Accepting.Events.{Event, IsOfClass}
use Rattle.hz_pipeline_model.specs.Accepting.Replay as accepting
use Rattle.hz_pipeline_model.specs.Pipelines.Pipelines.{pipeline_with}
use Rattle.hz_pipeline_model.proofs.Accepting.AcceptanceLaws.{one_refused, accepted_or_refused}
use Rattle.hz_auto.specs.declared.compiled.Compiled.{Compiled}
use Rattle.hz_auto.specs.Machines.{reports_of}
use Rattle.hz_pipeline_model.specs.Tables.Machines.{Machine, machine_walk}
use Rattle.hz_pipeline_model.proofs.Compiling.DescriptionLaws.{unwalked_refused}
use Rattle.hz_check.specs.Checked.{IsCheckedOf}
use Rattle.hz_checked.specs.declared.checked.Checked.{Checked}
use Rattle.hz_description_model.specs.Check.Places.{Known}
use Rattle.hz_description_model.specs.Reading.Descriptions.{Description}
use Rattle.hz_replay.specs.Replaying.{IsOutcome}
use Rattle.hz_replay.specs.declared.outcome.Outcome.{Outcome}
use Rattle.hz_replay.specs.declared.outcome.Outcome.TheVariants.{Accepted, Refused}
use Rattle.hz_tables.specs.Machines.{machine_of}
use Rattle.hz_tool.specs.Compiled.{IsCompiledBy}
use Rattle.hz_tool.specs.Machines.{IsMachineFor}
use Rattle.hz_tool.specs.Replays.{IsReplayOf}
use Rattle.hz_tool.proofs.MachineLemmas.{machine_for, classes_count}

-- an outcome over the machine of a description
by_outcome : (d : Description) (known : Known) (m : Machine) → IsMachineFor d known m → (events : List Event) → All (IsOfClass (length d.classes)) events → (outcome : Outcome) → IsOutcome m events outcome → IsReplayOf (pipeline_with d known) events outcome
by_outcome d known m is events all (Accepted issues cycles) (some, issues_counted, cycles_counted) =
    let accepted = (is.walks events all).0 some in
    record {
      accepts = (λ e. accepted, λ a. refl);
      counted = (issues_counted, cycles_counted);
      refuses = λ i. (λ e. absurd (let none : None ≡ Some i = e in cc), λ first. absurd (accepted_or_refused (pipeline_with d known) events i accepted first));
    }
by_outcome d known m is events all (Refused event) first =
    let p = pipeline_with d known in
    let stops : machine_walk m (take (event + 1) events) ≡ None = subst (λ (n : ℕ). machine_walk m (take n events) ≡ None) (sym (add-one event)) first.stops in
    let refused = unwalked_refused p m (length d.classes) is.walks events all event first.within first.before stops in
    record {
      accepts = (λ e. absurd (let some : Some event ≡ None = e in cc), λ a. absurd (accepted_or_refused p events event a refused));
      counted = tt;
      refuses = λ i. (λ e. subst (accepting.FirstRefused p events) (same_Some event i e) refused, λ other. ap Some (one_refused p events event i refused other));
    }

pub replayed : (d : Description) (checked : Checked) (is : IsCheckedOf d checked) (compiled : Compiled) → IsCompiledBy checked compiled → (events : List Event) → All (IsOfClass (length compiled.machine.classes.items)) events → (outcome : Outcome) → IsOutcome (machine_of compiled.machine) events outcome → IsReplayOf (pipeline_with d is.known) events outcome
replayed d checked is compiled by events all outcome h =
    let m = machine_of compiled.machine in
    let for = machine_for d checked is m (reports_of compiled.reports.items) by.compiled in
    by_outcome d is.known m for events (subst (λ (n : ℕ). All (IsOfClass n) events) (classes_count d is.known m for) all) outcome h
