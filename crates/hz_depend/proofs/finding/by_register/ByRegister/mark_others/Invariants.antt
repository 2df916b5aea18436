use Rattle.std.proofs.Common.{◌≡◌, drop}
use Rattle.hz_depend.specs.Lists.{lists_of}
use Rattle.hz_depend.specs.Marks.{marked, other_lists}
use Rattle.hz_depend.specs.Tables.{lists_in}
use Rattle.hz_depend.proofs.finding.by_register.ByRegister.mark_others.Given as goal

-- with the lists that are left, the places of all but one are marked
abbrev pub invariant-loop-number : goal.invariant-loop-number
invariant-loop-number l = marked l.stamps l.stamp (other_lists l.register l.number (lists_of (drop l.number l.self.lists.items))) ≡ marked l.initial.stamps l.stamp (other_lists l.register 0 (lists_in l.self))
