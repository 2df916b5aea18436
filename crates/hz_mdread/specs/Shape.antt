-- What the code holds, as what the definitions speak of.
use Rattle.std.specs.Prelude.{List, [], ◌∷◌, map}
use Rattle.hz_regexp.specs.Shape.{expression}
use Rattle.hz_mdread.specs.declared.condition.Condition.{Condition}
use Rattle.hz_mdread.specs.declared.condition.Condition.TheOpen.{Condition-F}
use Rattle.hz_mdread.specs.declared.condition.Condition.TheFolds.{fold-Condition}
use Rattle.hz_mdread.specs.declared.description.Description.{Description}
use Rattle.hz_mdread.specs.declared.items.AutomatonItem.{AutomatonItem}
use Rattle.hz_mdread.specs.declared.items.UnitItem.{UnitItem}
use Rattle.hz_mdread.specs.declared.items.ReservationItem.{ReservationItem}
use Rattle.hz_mdread.specs.declared.items.ClassItem.{ClassItem}
use Rattle.hz_mdread.specs.declared.items.BypassItem.{BypassItem}
use Rattle.hz_mdread.specs.declared.items.SetForm.{SetForm}
use Rattle.hz_mdread.specs.declared.items.SetForm.TheVariants.{Exclusion, Presence, FinalPresence, Absence, FinalAbsence}
use Rattle.hz_mdread.specs.declared.items.SetItem.{SetItem}
use Rattle.hz_mdread.specs.declared.items.AttrItem.{AttrItem}
use Rattle.hz_mdread.specs.declared.items.Addition.{Addition}
use Rattle.hz_mdread.specs.declared.items.Addition.TheVariants as code
use Rattle.hz_mdread.specs.declared.kinds.FormKind.{FormKind}
use Rattle.hz_mdread.specs.declared.kinds.FormKind.TheVariants as kinds
use Rattle.hz_mdread.specs.declared.options.Options.{Options}
use Rattle.hz_description_model.specs.Reading.Descriptions as model
use Rattle.hz_description_model.specs.Reading.DescriptionForms as forms
use Rattle.hz_description_model.specs.Reading.DescriptionShape as shape
use Rattle.hz_description_model.specs.Reservations.Sets as sets

-- conditions side by side
abbrev pub conditions_from : List model.Condition → model.Conditions
conditions_from [] = model.none
conditions_from (first ∷ others) = model.more first (conditions_from others)

-- a condition whose tests are known
abbrev pub condition_step : Condition-F model.Condition → model.Condition
condition_step (Condition-F.ConstInt number) = model.constant number
condition_step (Condition-F.EqAttr name values negated) = model.matches name values.items negated
condition_step (Condition-F.Not test) = model.negation test.value
condition_step (Condition-F.And tests) = model.conjunction (conditions_from tests.items)
condition_step (Condition-F.Ior tests) = model.disjunction (conditions_from tests.items)

-- the condition that is held
abbrev pub condition : Condition → model.Condition
condition = fold-Condition model.Condition condition_step

-- the conditions of tests
abbrev pub conditions : List Condition → model.Conditions
conditions tests = conditions_from (map condition tests)

abbrev pub automaton_item : AutomatonItem → model.AutomatonItem
automaton_item i = record { line = i.line; form = i.form; name = i.name }

abbrev pub unit_item : UnitItem → model.UnitItem
unit_item i = record { line = i.line; form = i.form; name = i.name; automaton = i.automaton; query = i.query }

abbrev pub reservation_item : ReservationItem → model.ReservationItem
reservation_item i = record { line = i.line; form = i.form; name = i.name; expression = expression i.expr }

abbrev pub class_item : ClassItem → model.ClassItem
class_item i = record { line = i.line; form = i.form; name = i.name; latency = i.latency; condition = condition i.condition; expression = expression i.expr }

abbrev pub bypass_item : BypassItem → model.BypassItem
bypass_item i = record { line = i.line; form = i.form; number = i.number; outs = i.outs.items; ins = i.ins.items; guard = i.guard }

abbrev pub set_kind : SetForm → sets.SetKind
set_kind Exclusion = sets.exclusion
set_kind Presence = sets.presence
set_kind FinalPresence = sets.final_presence
set_kind Absence = sets.absence
set_kind FinalAbsence = sets.final_absence

abbrev pub set_item : SetItem → model.SetItem
set_item i = record { line = i.line; form = i.form; kind = set_kind i.kind; units = i.units.items; patterns = map (λ pattern. pattern.items) i.patterns.items }

abbrev pub attribute_item : AttrItem → model.AttributeItem
attribute_item i = record { line = i.line; form = i.form; name = i.name; values = i.values.items; fallback = i.fallback }

abbrev pub options : Options → model.Options
options o = record { ndfa = o.ndfa; no_minimization = o.no_minimization; stats = o.stats; verbose = o.verbose; no_comb_vect = o.no_comb_vect }

-- the description that is held
abbrev pub description : Description → model.Description
description d = record {
  automata = map automaton_item d.automata.items;
  units = map unit_item d.units.items;
  reservations = map reservation_item d.reservations.items;
  classes = map class_item d.classes.items;
  bypasses = map bypass_item d.bypasses.items;
  sets = map set_item d.sets.items;
  attributes = map attribute_item d.attributes.items;
  options = options d.options;
}

-- what a form adds
abbrev pub addition : Addition → forms.Addition
addition (code.Automata items) = forms.automata (map automaton_item items.items)
addition (code.Units items) = forms.units (map unit_item items.items)
addition (code.Reservation item) = forms.reservation (reservation_item item)
addition (code.Class item) = forms.class (class_item item)
addition (code.Bypass item) = forms.bypass (bypass_item item)
addition (code.Set item) = forms.set (set_item item)
addition (code.Options o) = forms.options (options o)
addition (code.Attribute item) = forms.attribute (attribute_item item)

-- the kind of a form
abbrev pub kind_in : FormKind → shape.FormKind
kind_in kinds.DefineAutomaton = shape.define_automaton
kind_in (kinds.DefineCpuUnit query) = shape.define_cpu_unit query
kind_in kinds.DefineReservation = shape.define_reservation
kind_in kinds.DefineInsnReservation = shape.define_insn_reservation
kind_in kinds.DefineBypass = shape.define_bypass
kind_in (kinds.SetStatement kind) = shape.set_form (set_kind kind)
kind_in kinds.AutomataOption = shape.automata_option
kind_in kinds.DefineAttr = shape.define_attr
