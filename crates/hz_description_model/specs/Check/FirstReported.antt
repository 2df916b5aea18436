-- Of several faults the first that stands somewhere is reported, at its earliest site. This profile, docs/RULES.md, 'Faults of a description'.
use Rattle.std.specs.Prelude.{List, [], ◌∷◌, Option, Some, None}
use Rattle.hz_description_model.specs.Check.Sites.{Site, earliest}

-- A fault and the sites where it stands.
pub record Standing (Fault : Type 0) : Type 0 where
  pub fault : Fault
  pub sites : List Site

-- what is reported: the fault, and where
pub record Reported (Fault : Type 0) : Type 0 where
  pub fault : Fault
  pub site : Site

-- the fault at the site, if there is one, else what is reported otherwise
abbrev pub reported_at : {Fault : Type 0} → Fault → Option Site → Option (Reported Fault) → Option (Reported Fault)
reported_at fault (Some site) otherwise = Some (record { fault = fault; site = site })
reported_at fault None otherwise = otherwise

-- the first fault that stands somewhere, at its earliest site
abbrev pub first_reported : {Fault : Type 0} → List (Standing Fault) → Option (Reported Fault)
first_reported [] = None
first_reported (s ∷ others) = reported_at s.fault (earliest s.sites) (first_reported others)
