use Rattle.std.proofs.Common.{◌≡◌, map, take, drop, vec_len}
use Rattle.hz_mdread.specs.Shape.{description, bypass_item}
use Rattle.hz_checked.specs.NumberRows.{rows_of}
use Rattle.hz_check.proofs.HeldNumbers.{HoldsNumbers}
use Rattle.hz_description_model.specs.Check.CheckFaults.{renumbered_after, second_numbers}
use Rattle.hz_description_model.specs.Reading.Descriptions.{unguarded}
use Rattle.hz_description_model.specs.Check.Sites.{earliest}
use Rattle.hz_check.proofs.faults.bypass_twice.second_number.Given as goal

abbrev pub invariant-loop-bypass : goal.invariant-loop-bypass
invariant-loop-bypass l =
    let d = description l.names.desc.now in
    let before = unguarded (map bypass_item (take l.bypass-index l.bypass-items)) in
    record {
      len : vec_len l.rows ≡ l.classes;
      numbers : HoldsNumbers d (rows_of l.rows.items) before;
      rest : earliest (second_numbers d) ≡ earliest (renumbered_after before (unguarded (map bypass_item (drop l.bypass-index l.bypass-items))));
    }
