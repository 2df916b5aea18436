use Rattle.std.proofs.Common.{filter, sym, ap, ◌∙◌}
use Rattle.std.proofs.Math.Path.{fun_ext}
use Rattle.std.specs.List.{flat_map}
use Rattle.hz_check.specs.Names.Held.{is_held}
use Rattle.hz_check.specs.Names.First.{first_of}
use Rattle.hz_check.proofs.Lists.Next.{flat_map-map}
use Rattle.hz_description_model.specs.Check.Sites.{is_among}
use Rattle.hz_check.proofs.faults.self_exclusion.unit_in_patterns.Goals as goal

pub returns : goal.returns
returns c =
    let set = c.args.set.now in
    let patterns = ap (flat_map (λ pattern. pattern.items)) c.deref.ensures.value ∙ sym (flat_map-map (λ pattern. pattern) (λ pattern. pattern.items) set.patterns.items) in
    c.site_in.ensures _
    (c.first_held-unit.ensures
    ∙ (ap (λ units. first_of (filter (is_held c.in_ok-others.others) units)) c.deref-2.ensures.value
    ∙ ap (λ f. first_of (filter f set.units.items)) (fun_ext (λ name. c.in_ok-others.ensures name ∙ ap (is_among name) patterns))))
