use Rattle.std.proofs.Common.{◌≡◌, ◌+◌, ◌++◌, ◌∷◌, [], ℕ, List, map, take, All, sym, ap, ◌∙◌, subst}
use Rattle.std.specs.declared.vec.Vec.{Vec}
use Rattle.std.specs.declared.alloc.Global.{Global}
use Rattle.std.proofs.lemmas.List.{map_push, take_more}
use Rattle.std.proofs.lemmas.List.Elements.{All-nil}
use Rattle.hz_grid.specs.Stored.{units_of}
use Rattle.hz_unitsets.specs.SetRules.{in_order, each_once}
use Rattle.hz_unitsets.specs.RowRules.{IsRow}
use Rattle.hz_unitsets.proofs.Once.{each_once-none}
use Rattle.hz_unitsets.proofs.Distinct.{rows_inserted, once_more_row}
use Rattle.hz_unitsets.proofs.row_rules.Rule.build.Goals as goal

pub loop-pattern-init : goal.loop-pattern-init
loop-pattern-init c = record {
  rows = subst (All IsRow) (sym c.new-patterns.ensures.empty) (All-nil IsRow);
  units = ap (map units_of) c.new-patterns.ensures.empty ∙ sym each_once-none;
}

pub loop-pattern-preserved : goal.loop-pattern-preserved
loop-pattern-preserved c =
    let all = c.deref-pattern-items.result.now in
    let at = c.loop-pattern.pattern-index in
    let pattern = c.pattern-item.result in
    let items = λ (p : Vec ℕ Global). p.items in
    let before = map items (take at all) in
    let more : map items (take (at + 1) all) ≡ before ++ pattern.items ∷ [] =
    ap (map items) (take_more all at pattern c.loop-pattern-test.true ∙ ap (λ (p : Vec ℕ Global). take at all ++ p ∷ []) (sym c.pattern-item.is)) ∙ map_push items (take at all) pattern in
    let units = c.row_of.ensures.units ∙ ap in_order c.deref.ensures.value in
    let keys = c.in_ok-insert.ensures.keys in
    record {
      rows = subst (All IsRow) (sym keys) (rows_inserted c.loop-pattern.patterns.keys c.row_of.result c.row_of.ensures.row c.loop-pattern.invariant.rows);
      units =
          once_more_row before pattern.items c.loop-pattern.patterns.keys c.insert.new.self.keys c.row_of.result keys c.row_of.ensures.row c.loop-pattern.invariant.rows units c.loop-pattern.invariant.units
          ∙ ap (λ (ps : List (List ℕ)). each_once (map in_order ps)) (sym more);
    }
