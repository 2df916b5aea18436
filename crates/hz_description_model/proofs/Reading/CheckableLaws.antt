-- Descriptions that are well formed can be checked.
use Rattle.std.proofs.Common.{arith}
use Rattle.std.proofs.lemmas.List.Elements.{All-weaker}
use Rattle.hz_description_model.specs.Reading.Descriptions.{Description}
use Rattle.hz_description_model.specs.Reservations.Sets.{SetKind}
use Rattle.hz_description_model.specs.Reading.DescriptionShape.{IsForm, set_form, define_automaton, define_cpu_unit, define_attr, IsAutomaton, IsUnit, IsReservation, IsClass, IsBypass, IsSet, IsAttribute, IsWellFormed, IsCheckableReservation, IsCheckableClass, IsCheckableBypass, IsCheckable}

pub can_be_checked : (d : Description) → IsWellFormed d → IsCheckable d
can_be_checked d is = record {
  kinds = is.kinds;
  automata = All-weaker (IsAutomaton is.kinds) (λ i. IsForm is.kinds i.form define_automaton) (λ i h. h.form) d.automata is.automata;
  units = All-weaker (IsUnit is.kinds) (λ i. IsForm is.kinds i.form (define_cpu_unit i.query)) (λ i h. h.form) d.units is.units;
  reservations = All-weaker (IsReservation is.kinds) (IsCheckableReservation is.kinds) (λ i h. record { form = h.form; expression = h.expression }) d.reservations is.reservations;
  classes = All-weaker (IsClass is.kinds) (IsCheckableClass is.kinds) (λ i h. record { form = h.form; latency = h.latency; expression = h.expression }) d.classes is.classes;
  bypasses = All-weaker (IsBypass is.kinds) (IsCheckableBypass is.kinds) (λ i h. record { form = h.form; number = h.number }) d.bypasses is.bypasses;
  sets = All-weaker (IsSet is.kinds) (λ i. (kind : SetKind) × IsForm is.kinds i.form (set_form kind)) (λ i h. (i.kind, h.form)) d.sets is.sets;
  attributes = All-weaker (IsAttribute is.kinds) (λ i. IsForm is.kinds i.form define_attr) (λ i h. h.form) d.attributes is.attributes;
  automata_in_order = is.automata_in_order;
  units_in_order = is.units_in_order;
  reservations_in_order = λ i j e low within. let before = is.reservations_in_order i j e low within in omega (arith, before);
  classes_in_order = λ i j e low within. let before = is.classes_in_order i j e low within in omega (arith, before);
  bypasses_in_order = λ i j e low within. let before = is.bypasses_in_order i j e low within in omega (arith, before);
  sets_in_order = λ i j e low within. let before = is.sets_in_order i j e low within in omega (arith, before);
  attributes_in_order = λ i j e low within. let before = is.attributes_in_order i j e low within in omega (arith, before);
}
