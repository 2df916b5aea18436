-- What the phases on a description give to those after them.
use Rattle.std.specs.Prelude.{◌⊎◌, ℕ, List}
use Rattle.hz_front_model.specs.Descriptions.{TellsDescription, TellsCheck}
use Rattle.hz_front_model.specs.Phases.{TellsFault}
use Rattle.hz_check.specs.Checked.{IsCheckedOf}
use Rattle.hz_checked.specs.declared.checked.Checked.{Checked}
use Rattle.hz_description_model.specs.Reading.DescriptionForms as description_forms
use Rattle.hz_description_model.specs.Reading.Descriptions.{Description}
use Rattle.hz_base_model.specs.Forms.Forms.{form_word}
use Rattle.hz_base_model.specs.Forms.Forms as forms
use Rattle.hz_base_model.specs.Forms.Trees.{Trees}
use Rattle.hz_front.specs.Refusals.{Agrees}
use Rattle.hz_front.specs.declared.refusal.Refusal.{Refusal}

-- What is held is what the description gives that bytes say.
pub record IsCheckedIn (bytes : List ℕ) (checked : Checked) : Type 0 where
  pub read : Trees
  pub d : Description
  pub forms : forms.Reads bytes read
  pub says : description_forms.Reads read d
  pub is : IsCheckedOf d checked

-- what is wrong with the description that forms say: the first wrong form, or what is wrong with what they say
abbrev pub TellsSaid : List ℕ → Trees → Refusal → Type 0
TellsSaid name read reported = Agrees (TellsDescription name read) reported ⊎ ((d : Description) × description_forms.Reads read d × Agrees (TellsCheck name d) reported)

-- what is wrong with the description that bytes say
abbrev pub TellsDescribed : List ℕ → List ℕ → Refusal → Type 0
TellsDescribed name bytes reported = Agrees (TellsFault form_word (forms.FaultAt bytes) name) reported ⊎ ((read : Trees) × forms.Reads bytes read × TellsSaid name read reported)
