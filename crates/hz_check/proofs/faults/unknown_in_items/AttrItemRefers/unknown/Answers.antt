use Rattle.std.proofs.Common.{not, ap, ◌∙◌}
use Rattle.std.specs.List.{list_any}
use Rattle.std.specs.Str.{bytes_eq}
use Rattle.hz_check.proofs.Lists.FirstOf.{found_alone}
use Rattle.hz_check.proofs.Tables.NameLists.{contains_is_among}
use Rattle.hz_description_model.specs.Check.Sites.{is_among}
use Rattle.hz_check.proofs.faults.unknown_in_items.AttrItemRefers.unknown.Goals as goal

pub returns : goal.returns
returns c =
    let item = c.args.self.now in
    let is = c.contains-is_unknown.ensures.value ∙ (ap (λ names. list_any (λ n. bytes_eq n item.fallback) names) c.deref.ensures.value ∙ contains_is_among item.fallback item.values.items) in
    c.site_in.ensures _ (found_alone (λ name. not (is_among name item.values.items)) _ _ _ c.then_some-name.ensures (ap not is))
