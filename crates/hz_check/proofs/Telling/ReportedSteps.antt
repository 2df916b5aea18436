-- Which of several faults is reported.
use Rattle.std.proofs.Common.{◌≡◌, Option, Some, None, refl, ap, ◌∙◌}
use Rattle.std.specs.Option.{option_map, option_or}
use Rattle.hz_check.specs.declared.faults.reported.Reported.{Reported as StoredReported}
use Rattle.hz_check.specs.Faults.{reported_of}
use Rattle.hz_description_model.specs.Check.CheckFaults.{CheckFault}
use Rattle.hz_description_model.specs.Check.FirstReported.{Reported, reported_at}
use Rattle.hz_description_model.specs.Check.Sites.{Site}

-- what is reported first of two
pub map-or : (a b : Option StoredReported) → option_map reported_of (option_or a b) ≡ option_or (option_map reported_of a) (option_map reported_of b)
map-or None b = refl
map-or (Some x) b = refl

pub reported_at-or : (fault : CheckFault) (site : Option Site) (rest : Option (Reported CheckFault)) → option_or (reported_at fault site None) rest ≡ reported_at fault site rest
reported_at-or fault None rest = refl
reported_at-or fault (Some s) rest = refl

-- a fault at its site, before what is reported otherwise
pub record IsReported (reported : Option StoredReported) (is : Option (Reported CheckFault)) : Type 0 where
  pub same : option_map reported_of reported ≡ is

pub reported_first : (first : Option StoredReported) (fault : CheckFault) {second both : Option StoredReported} {site reported : Option Site} {rest : Option (Reported CheckFault)} → both ≡ option_or first second → option_map reported_of first ≡ reported_at fault site None → site ≡ reported → IsReported second rest
    → IsReported both (reported_at fault reported rest)
reported_first first fault {second} {both} {site} {reported} {rest} e here at later = record {
  same = ap (option_map reported_of) e
      ∙ (map-or first second
      ∙ (ap (λ (o : Option (Reported CheckFault)). option_or o (option_map reported_of second)) here
      ∙ (ap (option_or (reported_at fault site None)) later.same ∙ (reported_at-or fault site rest ∙ ap (λ (s : Option Site). reported_at fault s rest) at))));
}
