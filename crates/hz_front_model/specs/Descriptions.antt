-- The front of every program on a description: its text is read and checked. This profile, docs/FORMATS.md, 'Answers'.
use Rattle.std.specs.Prelude.{ℕ, List, ◌⊎◌}
use Rattle.hz_base_model.specs.Forms.Trees.{Trees}
use Rattle.hz_description_model.specs.Check.CheckFaults.{CheckFault, CheckFaultAt, IsSound}
use Rattle.hz_description_model.specs.Check.Places.{Known}
use Rattle.hz_description_model.specs.Check.Sites.{Site}
use Rattle.hz_description_model.specs.Reading.DescriptionForms.{DescriptionFault}
use Rattle.hz_description_model.specs.Reading.DescriptionForms as description_forms
use Rattle.hz_description_model.specs.Reading.Descriptions.{Description}
use Rattle.hz_front_model.specs.FaultTexts.{description_line, check_line, check_status}
use Rattle.hz_front_model.specs.Phases.{Says, Next, HasForms}

-- the first fault of a form of a description is reported
abbrev pub TellsDescription : List ℕ → Trees → ℕ → List ℕ → Type 0
TellsDescription name read status text = (fault : DescriptionFault) × (line : ℕ) × description_forms.FaultAt read fault line × Says 2 (description_line name fault line) status text

-- the description that forms say, or the first fault of a form
abbrev pub Describes : List ℕ → Trees → Next Description → ℕ → List ℕ → Type 0
Describes name read next status text = ((d : Description) × description_forms.Reads read d × next d status text) ⊎ TellsDescription name read status text

-- the fault or the limit of a description is reported
abbrev pub TellsCheck : List ℕ → Description → ℕ → List ℕ → Type 0
TellsCheck name d status text = (fault : CheckFault) × (site : Site) × CheckFaultAt d fault site × Says (check_status fault) (check_line name fault site) status text

-- the description is checked: the alternatives of its names, or the fault that is reported
abbrev pub Checks : List ℕ → Description → Next Known → ℕ → List ℕ → Type 0
Checks name d next status text = ((known : Known) × IsSound d known × next known status text) ⊎ TellsCheck name d status text

-- the front of every command on a description: its text is read, and it is checked
abbrev pub HasDescription : List ℕ → List ℕ → ((d : Description) → Next Known) → ℕ → List ℕ → Type 0
HasDescription name bytes next = HasForms name bytes (λ read. Describes name read (λ d. Checks name d (next d)))
