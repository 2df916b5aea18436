use Rattle.std.proofs.Common.{sym}
use Rattle.hz_laws.proofs.Grouping.GroupRuns.{accepted_by_groups, refused_by_groups, choice_there, held_by_groups}
use Rattle.hz_laws.proofs.Grouping.Renaming.{accepted_renamed, refused_renamed, choices_renamed, calendar_renamed, held_renamed}
use Rattle.hz_laws.specs.Grouping.{renamed}
use Rattle.hz_laws.proofs.split_laws.cut_pipelines_accept_the_same.Goals as goal

pub returns-clause-acceptance : goal.returns-clause-acceptance
returns-clause-acceptance g c = λ rename group lists m o one same t.
    let first = accepted_renamed rename one m t in
    let second = accepted_by_groups group lists (renamed rename m) o same t in
    (λ h. second.0 (first.0 h), λ h. first.1 (second.1 h))

pub returns-clause-refused : goal.returns-clause-refused
returns-clause-refused g c = λ rename group lists m o one same t i.
    let first = refused_renamed rename one m t i in
    let second = refused_by_groups group lists (renamed rename m) o same t i in
    (λ h. second.0 (first.0 h), λ h. first.1 (second.1 h))

pub returns-clause-choices : goal.returns-clause-choices
returns-clause-choices g c = λ rename group lists m o one same t choices is.
    let there = choice_there group lists (renamed rename m) o same t choices ((choices_renamed rename one m t choices).0 is) in
    (there.0, there.1, rw (sym (calendar_renamed rename one m 0 t choices)) there.2)

pub returns-clause-held : goal.returns-clause-held
returns-clause-held g c = λ rename group lists m o one same treatment t unit.
    let first = held_renamed rename one m t unit in
    let second = held_by_groups group lists (renamed rename m) o same treatment t (rename unit) in
    (λ h. second.0 (first.0 h), λ h. first.1 (second.1 h))
