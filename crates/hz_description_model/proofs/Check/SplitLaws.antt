-- The classes of a description without a fault keep the two rules on units of several automata.
use Rattle.std.proofs.Common.{◌≡◌, Bool, true, false, [], Contains, refl, arith, length}
use Rattle.std.specs.Prelude.{IsFalse}
use Rattle.hz_description_model.specs.Reservations.Alternatives.{Expression}
use Rattle.hz_description_model.specs.Reading.Descriptions.{Description, ClassItem}
use Rattle.hz_description_model.specs.Splits.Rules.{is_mixed_class, is_uneven_class}
use Rattle.hz_description_model.specs.Check.CheckFaults.{CheckFault, IsSound, faults_of_meanings}
use Rattle.hz_description_model.specs.Check.CountingOrder.{Reserving, reserving_class, classes_of}
use Rattle.hz_description_model.specs.Check.Places.{Known, meaning}
use Rattle.hz_description_model.specs.Check.SplitClasses.{classes_where}
use Rattle.hz_description_model.proofs.Check.KeptLaws.{none_stands, none_passes}
use Rattle.hz_base_model.proofs.Elements.{Contains-map}

module _ (d : Description) (known : Known) (sound : IsSound d known) where
  -- a test of expressions that no class passes is failed by each
  fails : (test : Expression → Bool) → classes_where test d ≡ [] → (c : ClassItem) → Contains d.classes c → IsFalse (test c.expression)
  fails test none c there = by_test (test c.expression) refl
    where
      by_test : (b : Bool) → test c.expression ≡ b → b ≡ false
      by_test true e = absurd (none_passes (λ (r : Reserving). r.site) (λ r. test r.expression) (classes_of d) (reserving_class c) none (Contains-map reserving_class d.classes c there) e)
      by_test false e = refl

  pub unmixed : (c : ClassItem) → Contains d.classes c → IsFalse (is_mixed_class (meaning d) (length d.reservations) known c.expression)
  unmixed = fails (is_mixed_class (meaning d) (length d.reservations) known) (none_stands (faults_of_meanings d known sound.order) sound.free 8 (record { fault = CheckFault.bypass_twice; sites = [] }) (omega arith))

  pub even : (c : ClassItem) → Contains d.classes c → IsFalse (is_uneven_class (meaning d) (length d.reservations) known c.expression)
  even = fails (is_uneven_class (meaning d) (length d.reservations) known) (none_stands (faults_of_meanings d known sound.order) sound.free 9 (record { fault = CheckFault.bypass_twice; sites = [] }) (omega arith))
