use Rattle.std.proofs.Common.{◌≤◌, ◌<◌, length, All, sym, ap, ◌∙◌, subst}
use Rattle.std.proofs.lemmas.Result.{IfErr-weaker}
use Rattle.std.specs.Prelude.{IfOk, if◌then◌else◌}
use Rattle.hz_base_model.specs.Limits.{class_limit}
use Rattle.hz_pipeline_model.specs.Accepting.Replay.{first_fit, any_fit}
use Rattle.hz_unitsets.specs.SetRules.{IsInRange}
use Rattle.hz_determ.specs.Explored.{IsBuilt, AreWithin, PassesCap}
use Rattle.hz_determ.specs.Spaces.{pipeline_of, lists_of}
use Rattle.hz_checked.specs.Shape.{automaton_of}
use Rattle.hz_auto.specs.Parts.{IsCapped, IsWhole}
use Rattle.hz_auto.proofs.CheckedFacts.{have_lists, sets_in_range, queries_below}
use Rattle.hz_auto.proofs.ExploredLemmas.{columns_now, asks_now, columns_few, past, members_reported, grids_reported, numbers_there, askable, past_asked, kept, has_table, whole_compiled, both_then}
use Rattle.hz_auto.proofs.part.found_part.Goals as goal

pub columns_of-requires-clause-lists : goal.columns_of-requires-clause-lists
columns_of-requires-clause-lists c = subst (All (λ x. c.args.automaton < length x.lists.items)) (sym c.deref.ensures.value) (have_lists c.args.checked.now c.args.automaton c.requires)

pub build-requires : goal.build-requires
build-requires c = subst (All IsInRange) (sym (c.deref-2.ensures.value ∙ ap (λ x. x.sets.items) c.index-parts.ensures)) (sets_in_range c.args.checked.now c.args.automaton c.index-parts.result.now c.requires)

pub whole-requires-clause-queries : goal.whole-requires-clause-queries
whole-requires-clause-queries c = subst (λ x. All (λ unit. unit < length x.units.items) x.queries.items) (sym c.index-parts.ensures) (queries_below c.args.checked.now c.args.automaton c.index-parts.result.now c.requires)

pub explored-requires-clause-columns : goal.explored-requires-clause-columns
explored-requires-clause-columns c =
    let d = c.index-parts.result.now in
    let columns = c.in_ok-columns.columns.lists.items in
    let maps = c.in_ok-columns.columns.map.items in
    let rules = c.in_ok-rules.rules in
    let is = columns_now c.args.checked.now c.args.automaton (lists_of columns) maps c.deref.result.now c.deref.ensures.value c.in_ok-columns.ensures in
    let asks = asks_now rules c.deref-2.result.now d.sets.items c.deref-2.ensures.value c.in_ok-rules.ensures.same in
    subst (λ xs. length xs ≤ class_limit) (sym c.deref-3.ensures.value) (columns_few c.args.checked.now c.args.automaton c.requires d c.index-parts.ensures columns maps is rules asks)

pub whole-requires-clause-members : goal.whole-requires-clause-members
whole-requires-clause-members c =
    let d = c.index-parts.result.now in
    let columns = c.in_ok-columns.columns.lists.items in
    let maps = c.in_ok-columns.columns.map.items in
    let rules = c.in_ok-rules.rules in
    let is = columns_now c.args.checked.now c.args.automaton (lists_of columns) maps c.deref.result.now c.deref.ensures.value c.in_ok-columns.ensures in
    let asks = asks_now rules c.deref-2.result.now d.sets.items c.deref-2.ensures.value c.in_ok-rules.ensures.same in
    let built = subst (λ xs. IsBuilt (if c.args.checked.now.options.ndfa then any_fit else first_fit) rules xs c.in-Ok.explored) c.deref-3.ensures.value c.in-Ok.ensures.built in
    let within = subst (λ xs. AreWithin (pipeline_of (if c.args.checked.now.options.ndfa then any_fit else first_fit) rules xs) (length xs) c.caps_of-caps.result) c.deref-3.ensures.value c.in-Ok.ensures.within in
    members_reported c.args.checked.now c.args.automaton c.requires d c.index-parts.ensures columns maps is rules asks c.caps_of-caps.result c.caps_of-caps.ensures.caps c.in-Ok.explored built within

pub whole-requires-clause-numbers : goal.whole-requires-clause-numbers
whole-requires-clause-numbers c =
    let d = c.index-parts.result.now in
    let columns = c.in_ok-columns.columns.lists.items in
    let maps = c.in_ok-columns.columns.map.items in
    let rules = c.in_ok-rules.rules in
    let is = columns_now c.args.checked.now c.args.automaton (lists_of columns) maps c.deref.result.now c.deref.ensures.value c.in_ok-columns.ensures in
    let asks = asks_now rules c.deref-2.result.now d.sets.items c.deref-2.ensures.value c.in_ok-rules.ensures.same in
    let built = subst (λ xs. IsBuilt (if c.args.checked.now.options.ndfa then any_fit else first_fit) rules xs c.in-Ok.explored) c.deref-3.ensures.value c.in-Ok.ensures.built in
    let within = subst (λ xs. AreWithin (pipeline_of (if c.args.checked.now.options.ndfa then any_fit else first_fit) rules xs) (length xs) c.caps_of-caps.result) c.deref-3.ensures.value c.in-Ok.ensures.within in
    numbers_there c.args.checked.now c.args.automaton c.requires d c.index-parts.ensures columns maps is rules asks c.caps_of-caps.result c.caps_of-caps.ensures.caps c.in-Ok.explored built within

pub whole-requires-clause-few : goal.whole-requires-clause-few
whole-requires-clause-few c =
    let d = c.index-parts.result.now in
    let columns = c.in_ok-columns.columns.lists.items in
    let maps = c.in_ok-columns.columns.map.items in
    let rules = c.in_ok-rules.rules in
    let is = columns_now c.args.checked.now c.args.automaton (lists_of columns) maps c.deref.result.now c.deref.ensures.value c.in_ok-columns.ensures in
    let asks = asks_now rules c.deref-2.result.now d.sets.items c.deref-2.ensures.value c.in_ok-rules.ensures.same in
    let built = subst (λ xs. IsBuilt (if c.args.checked.now.options.ndfa then any_fit else first_fit) rules xs c.in-Ok.explored) c.deref-3.ensures.value c.in-Ok.ensures.built in
    let within = subst (λ xs. AreWithin (pipeline_of (if c.args.checked.now.options.ndfa then any_fit else first_fit) rules xs) (length xs) c.caps_of-caps.result) c.deref-3.ensures.value c.in-Ok.ensures.within in
    grids_reported c.args.checked.now c.args.automaton c.requires d c.index-parts.ensures columns maps is rules asks c.caps_of-caps.result c.caps_of-caps.ensures.caps c.in-Ok.explored built within

pub whole-requires-clause-askable : goal.whole-requires-clause-askable
whole-requires-clause-askable c =
    let d = c.index-parts.result.now in
    let columns = c.in_ok-columns.columns.lists.items in
    let maps = c.in_ok-columns.columns.map.items in
    let rules = c.in_ok-rules.rules in
    let is = columns_now c.args.checked.now c.args.automaton (lists_of columns) maps c.deref.result.now c.deref.ensures.value c.in_ok-columns.ensures in
    let asks = asks_now rules c.deref-2.result.now d.sets.items c.deref-2.ensures.value c.in_ok-rules.ensures.same in
    let built = subst (λ xs. IsBuilt (if c.args.checked.now.options.ndfa then any_fit else first_fit) rules xs c.in-Ok.explored) c.deref-3.ensures.value c.in-Ok.ensures.built in
    let within = subst (λ xs. AreWithin (pipeline_of (if c.args.checked.now.options.ndfa then any_fit else first_fit) rules xs) (length xs) c.caps_of-caps.result) c.deref-3.ensures.value c.in-Ok.ensures.within in
    askable c.args.checked.now c.args.automaton c.requires d c.index-parts.ensures columns maps is rules asks c.caps_of-caps.result c.caps_of-caps.ensures.caps c.in-Ok.explored built within

pub returns-in-Ok-clause-compiled : goal.returns-in-Ok-clause-compiled
returns-in-Ok-clause-compiled c =
    let d = c.index-parts.result.now in
    let columns = c.in_ok-columns.columns.lists.items in
    let maps = c.in_ok-columns.columns.map.items in
    let rules = c.in_ok-rules.rules in
    let is = columns_now c.args.checked.now c.args.automaton (lists_of columns) maps c.deref.result.now c.deref.ensures.value c.in_ok-columns.ensures in
    let asks = asks_now rules c.deref-2.result.now d.sets.items c.deref-2.ensures.value c.in_ok-rules.ensures.same in
    let built = subst (λ xs. IsBuilt (if c.args.checked.now.options.ndfa then any_fit else first_fit) rules xs c.in-Ok.explored) c.deref-3.ensures.value c.in-Ok.ensures.built in
    let within = subst (λ xs. AreWithin (pipeline_of (if c.args.checked.now.options.ndfa then any_fit else first_fit) rules xs) (length xs) c.caps_of-caps.result) c.deref-3.ensures.value c.in-Ok.ensures.within in
    both_then c.whole.result (subst (λ b. IfOk c.whole.result (IsWhole (automaton_of d) b maps c.in-Ok.explored)) c.shows_states-shown.ensures c.whole.ensures.whole) c.whole.ensures.within
    (λ all whole room. whole_compiled c.args.checked.now c.args.automaton c.requires d c.index-parts.ensures columns maps is rules asks c.caps_of-caps.result c.caps_of-caps.ensures.caps c.in-Ok.explored built within (subst (λ b. IsCapped b c.caps_of-caps.result) c.shows_states-shown.ensures c.caps_of-caps.ensures.capped) all whole room)

pub returns-in-Ok-clause-kept : goal.returns-in-Ok-clause-kept
returns-in-Ok-clause-kept c =
    let d = c.index-parts.result.now in
    let columns = c.in_ok-columns.columns.lists.items in
    let maps = c.in_ok-columns.columns.map.items in
    let rules = c.in_ok-rules.rules in
    let is = columns_now c.args.checked.now c.args.automaton (lists_of columns) maps c.deref.result.now c.deref.ensures.value c.in_ok-columns.ensures in
    let asks = asks_now rules c.deref-2.result.now d.sets.items c.deref-2.ensures.value c.in_ok-rules.ensures.same in
    let built = subst (λ xs. IsBuilt (if c.args.checked.now.options.ndfa then any_fit else first_fit) rules xs c.in-Ok.explored) c.deref-3.ensures.value c.in-Ok.ensures.built in
    let within = subst (λ xs. AreWithin (pipeline_of (if c.args.checked.now.options.ndfa then any_fit else first_fit) rules xs) (length xs) c.caps_of-caps.result) c.deref-3.ensures.value c.in-Ok.ensures.within in
    both_then c.whole.result (subst (λ b. IfOk c.whole.result (IsWhole (automaton_of d) b maps c.in-Ok.explored)) c.shows_states-shown.ensures c.whole.ensures.whole) c.whole.ensures.within
    (λ all whole room. kept c.args.checked.now c.args.automaton c.requires d c.index-parts.ensures columns maps is rules asks c.caps_of-caps.result c.caps_of-caps.ensures.caps c.in-Ok.explored built within (subst (λ b. IsCapped b c.caps_of-caps.result) c.shows_states-shown.ensures c.caps_of-caps.ensures.capped) all whole room)

pub returns-in-Ok-clause-table : goal.returns-in-Ok-clause-table
returns-in-Ok-clause-table c =
    let d = c.index-parts.result.now in
    let columns = c.in_ok-columns.columns.lists.items in
    let maps = c.in_ok-columns.columns.map.items in
    let rules = c.in_ok-rules.rules in
    let is = columns_now c.args.checked.now c.args.automaton (lists_of columns) maps c.deref.result.now c.deref.ensures.value c.in_ok-columns.ensures in
    let asks = asks_now rules c.deref-2.result.now d.sets.items c.deref-2.ensures.value c.in_ok-rules.ensures.same in
    let built = subst (λ xs. IsBuilt (if c.args.checked.now.options.ndfa then any_fit else first_fit) rules xs c.in-Ok.explored) c.deref-3.ensures.value c.in-Ok.ensures.built in
    let within = subst (λ xs. AreWithin (pipeline_of (if c.args.checked.now.options.ndfa then any_fit else first_fit) rules xs) (length xs) c.caps_of-caps.result) c.deref-3.ensures.value c.in-Ok.ensures.within in
    both_then c.whole.result (subst (λ b. IfOk c.whole.result (IsWhole (automaton_of d) b maps c.in-Ok.explored)) c.shows_states-shown.ensures c.whole.ensures.whole) c.whole.ensures.within
    (λ all whole room. has_table c.args.checked.now c.args.automaton c.requires d c.index-parts.ensures columns maps is rules asks c.caps_of-caps.result c.caps_of-caps.ensures.caps c.in-Ok.explored built within (subst (λ b. IsCapped b c.caps_of-caps.result) c.shows_states-shown.ensures c.caps_of-caps.ensures.capped) all whole room)

pub returns-in-Ok-clause-fault : goal.returns-in-Ok-clause-fault
returns-in-Ok-clause-fault c =
    let d = c.index-parts.result.now in
    let columns = c.in_ok-columns.columns.lists.items in
    let maps = c.in_ok-columns.columns.map.items in
    let rules = c.in_ok-rules.rules in
    let is = columns_now c.args.checked.now c.args.automaton (lists_of columns) maps c.deref.result.now c.deref.ensures.value c.in_ok-columns.ensures in
    let asks = asks_now rules c.deref-2.result.now d.sets.items c.deref-2.ensures.value c.in_ok-rules.ensures.same in
    let built = subst (λ xs. IsBuilt (if c.args.checked.now.options.ndfa then any_fit else first_fit) rules xs c.in-Ok.explored) c.deref-3.ensures.value c.in-Ok.ensures.built in
    let within = subst (λ xs. AreWithin (pipeline_of (if c.args.checked.now.options.ndfa then any_fit else first_fit) rules xs) (length xs) c.caps_of-caps.result) c.deref-3.ensures.value c.in-Ok.ensures.within in
    IfErr-weaker c.whole.result _ _ (λ fault reported. past_asked c.args.checked.now c.args.automaton c.requires d c.index-parts.ensures columns maps is rules asks c.caps_of-caps.result c.caps_of-caps.ensures.caps c.in-Ok.explored built within (subst (λ b. IsCapped b c.caps_of-caps.result) c.shows_states-shown.ensures c.caps_of-caps.ensures.capped) fault reported) c.whole.ensures.fault

pub returns-clause-fault : goal.returns-clause-fault
returns-clause-fault c =
    let d = c.index-parts.result.now in
    let columns = c.in_ok-columns.columns.lists.items in
    let maps = c.in_ok-columns.columns.map.items in
    let rules = c.in_ok-rules.rules in
    let is = columns_now c.args.checked.now c.args.automaton (lists_of columns) maps c.deref.result.now c.deref.ensures.value c.in_ok-columns.ensures in
    let asks = asks_now rules c.deref-2.result.now d.sets.items c.deref-2.ensures.value c.in_ok-rules.ensures.same in
    past c.args.checked.now c.args.automaton c.requires d c.index-parts.ensures columns maps is rules asks c.caps_of-caps.result (subst (λ b. IsCapped b c.caps_of-caps.result) c.shows_states-shown.ensures c.caps_of-caps.ensures.capped) c.in-Err.fault
    (subst (λ xs. PassesCap (pipeline_of (if c.args.checked.now.options.ndfa then any_fit else first_fit) rules xs) (length xs) c.caps_of-caps.result c.in-Err.fault) c.deref-3.ensures.value c.in-Err.ensures.fault)
