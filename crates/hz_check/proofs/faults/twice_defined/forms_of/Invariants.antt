use Rattle.std.proofs.Common.{◌≡◌, map, drop, ◌||◌}
use Rattle.hz_check.specs.Faults.Twice.{is_given}
use Rattle.hz_description_model.specs.Check.Sites.{Site, is_preceded}
use Rattle.hz_check.proofs.faults.twice_defined.forms_of.Given as goal

abbrev pub invariant-loop-item : goal.invariant-loop-item
invariant-loop-item g l =
    (s : Site) → (is_given l.forms s || is_preceded (map g.T.Defines.site (drop l.item-index l.items)) s) ≡ is_preceded (map g.T.Defines.site l.items) s
