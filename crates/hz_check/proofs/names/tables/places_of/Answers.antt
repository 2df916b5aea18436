use Rattle.std.proofs.Common.{arith, sym, ap}
use Rattle.hz_check.specs.Names.Held.{held}
use Rattle.hz_check.proofs.Tables.TableSteps.{places_put, places_kept, places_all}
use Rattle.hz_check.proofs.names.tables.places_of.Goals as goal
use Rattle.hz_check.proofs.names.tables.places_of.Goals.{then-not-holds+in_ok-put, else-not-holds}

pub loop-place-preserved : goal.loop-place-preserved
loop-place-preserved g c = λ q.
    let name_of = λ (i : g.row.T.Denot). (g.T.Defines.site i).name in
    let items = c.args.items.now in
    let at = ap (λ s. s.name) c.site.ensures in
    elim c.if-not-holds.branch [
      | then-not-holds+in_ok-put w ↦ rw w.table-is (places_put name_of items c.loop-place.place c.index-items-place.result c.index-items-place.is c.loop-place-test.true c.loop-place.table _ at q w.put.new.self _ (sym w.if-not-holds.ensures) (w.in_ok-put.ensures q) (c.loop-place.invariant q))
      | else-not-holds w ↦ rw w.table-is (places_kept name_of items c.loop-place.place c.index-items-place.result c.index-items-place.is c.loop-place-test.true c.loop-place.table _ at q _ (sym w.if-not-holds.ensures) (c.loop-place.invariant q))
    ]

pub returns : goal.returns
returns g c = λ q. places_all (λ i. (g.T.Defines.site i).name) c.args.items.now c.loop-place.place (held c.loop-place.table q) q (omega arith) (c.loop-place.invariant q)
