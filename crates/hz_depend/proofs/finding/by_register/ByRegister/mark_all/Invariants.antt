use Rattle.std.proofs.Common.{◌≡◌, drop}
use Rattle.hz_depend.specs.Lists.{lists_of}
use Rattle.hz_depend.specs.Marks.{marked, all_lists}
use Rattle.hz_depend.specs.Tables.{lists_in}
use Rattle.hz_depend.proofs.finding.by_register.ByRegister.mark_all.Given as goal

-- with the lists that are left, the places of all are marked
abbrev pub invariant-loop-places : goal.invariant-loop-places
invariant-loop-places l = marked l.stamps l.stamp (all_lists (lists_of (drop l.places-index l.self.lists.items))) ≡ marked l.initial.stamps l.stamp (all_lists (lists_in l.self))
