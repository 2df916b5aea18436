use Rattle.std.proofs.Common.{◌≡◌, ◌<◌, ◌≤◌, length, ⊎_elim, arith}
use Rattle.std.proofs.lemmas.Bool.{cases_lt, false≢true}
use Rattle.std.proofs.lemmas.List.{length_push}
use Rattle.std.proofs.lemmas.Slice.Zip.{zip_turn, zip_end}
use Rattle.hz_grid.proofs.Steps.{apart_from_rows}
use Rattle.hz_grid.proofs.grid_of.share_unit.Goals as goal

pub loop-one-preserved : goal.loop-one-preserved
loop-one-preserved g c =
    let so_far = c.loop-one.yielded in
    let turn = zip_turn c.args.first.now c.args.second.now so_far c.into_iter-one-iterator.result c.loop-one.one-iterator c.next.new.self _ (cc) (cc) c.loop-one.yielded_by _ c.in-Some.is c.next.ensures.steps in
    λ k lt meets.
    ⊎_elim
    (λ (before : k < length so_far). c.loop-one.invariant k before meets)
    (λ (past : length so_far ≤ k).
    let here : k ≡ length so_far = omega (arith, length_push so_far (c.in-Some.one, c.in-Some.other)) in
    let met = c.meets.ensures.1 (rw (turn.2 0, turn.3 0, ← here) meets) in
    cc)
    (cases_lt k (length so_far))

pub returns : goal.returns
returns g c =
    let end = zip_end c.args.first.now c.args.second.now c.loop-one.yielded c.into_iter-one-iterator.result c.loop-one.one-iterator c.next.new.self _ (cc) (cc) c.loop-one.yielded_by c.in-None.is c.next.ensures.steps in (
      λ t. absurd (false≢true t),
      λ shared. absurd (apart_from_rows c.args.first.now c.args.second.now _ end c.loop-one.invariant shared),
    )
