use Rattle.std.proofs.Common.{◌≡◌, ◌++◌, map, drop}
use Rattle.std.specs.Prelude.{◌==◌, if◌then◌else◌}
use Rattle.hz_why_model.specs.Lists.{listed}
use Rattle.hz_explain.proofs.lists.add_listed.Given as goal

abbrev pub invariant-loop-place : goal.invariant-loop-place
invariant-loop-place l =
    l.text.items ++ listed l.left (if l.place == 0 then l.before else l.between) l.between (drop l.place (map (λ item. item.items) l.items))
    ≡ l.fn.text.items ++ listed l.columns l.before l.between (map (λ item. item.items) l.items)
