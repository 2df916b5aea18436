use Rattle.std.proofs.Common.{◌≡◌, ◌<◌, ◌≤◌, ◌+◌, max, ℕ, List, length, map, sym, ap, ◌∙◌, subst, arith}
use Rattle.std.specs.Prelude.{slice_index}
use Rattle.std.proofs.lemmas.List.{length-map}
use Rattle.hz_description_model.specs.Reading.Limits.{latency_limit}
use Rattle.hz_sched.specs.Shape.{graph_of, slots_of, node_of}
use Rattle.hz_sched.specs.Rows.{edge_to}
use Rattle.hz_sched.specs.Waits.{issued_at, and_issued, leading, ripe_from}
use Rattle.hz_sched.proofs.RowLemmas.{row_all, leading_same, ripe_same}
use Rattle.hz_sched.proofs.BoardLemmas.{enough, waits_next, both_written}
use Rattle.hz_sched.proofs.board.Board.end_waits.Goals as goal

pub release-requires-clause-within : goal.release-requires-clause-within
release-requires-clause-within c = λ k d lt.
    let n = length c.args.graph.now.insns.items in
    let e = row_all (λ e. (e.to < n) × (e.cost ≤ latency_limit)) c.args.place c.args.row.now c.args.graph.now.edges.items c.requires.row c.requires.edges k d lt in
    omega (arith, e.0, ap (λ (xs : List ℕ). length xs) c.deref_mut.ensures.value, c.requires.waits.counts_size, length-map c.args.graph.now.insns.items node_of)

pub release-requires-clause-some : goal.release-requires-clause-some
release-requires-clause-some c = λ j.
    let g = graph_of c.args.graph.now in
    let at = issued_at (slots_of c.args.self.now.slots.items) in
    let row = map (edge_to c.args.place) c.args.row.now in
    let same = leading_same c.args.place c.args.row.now j in
    subst (λ (n : ℕ). n ≤ slice_index c.deref_mut.result.now j) same
    (subst (λ (xs : List ℕ). leading j row ≤ slice_index xs j) (sym c.deref_mut.ensures.value)
    (enough g at c.args.place c.args.self.now.cycle c.requires.unissued c.args.self.now.counts.items c.args.self.now.ripes.items row c.requires.row c.requires.waits j))

pub release-requires-clause-costs : goal.release-requires-clause-costs
release-requires-clause-costs c = λ k d lt.
    let n = length c.args.graph.now.insns.items in
    let e = row_all (λ e. (e.to < n) × (e.cost ≤ latency_limit)) c.args.place c.args.row.now c.args.graph.now.edges.items c.requires.row c.requires.edges k d lt in
    e.1

pub returns-clause-waits : goal.returns-clause-waits
returns-clause-waits c =
    let g = graph_of c.args.graph.now in
    let at = issued_at (slots_of c.args.self.now.slots.items) in
    let cycle = c.args.self.now.cycle in
    let row = map (edge_to c.args.place) c.args.row.now in
    let counts = c.deref_mut.ensures.value in
    let ripes = c.deref_mut-2.ensures.value in
    let wide : length c.release.new.counts ≡ length c.args.self.now.counts.items = omega (arith, c.release.auto.counts, ap (λ (xs : List ℕ). length xs) counts) in
    let long : length c.release.new.ripes ≡ length c.args.self.now.ripes.items = omega (arith, c.release.auto.ripes, ap (λ (xs : List ℕ). length xs) ripes) in
    both_written g (and_issued at c.args.place cycle) _ _ c.release.new.counts _ c.release.new.ripes _
    (omega (arith, wide, c.args.self.now.counts.ok.0)) (omega (arith, long, c.args.self.now.ripes.ok.0))
    (waits_next g at c.args.place cycle c.requires.unissued c.args.self.now.counts.items c.args.self.now.ripes.items c.release.new.counts c.release.new.ripes row c.requires.row c.requires.waits wide long
    (λ j. subst (λ (xs : List ℕ). slice_index xs j ≡ slice_index c.release.new.counts j + leading j row) counts (c.release.ensures.counts j ∙ ap (λ (n : ℕ). slice_index c.release.new.counts j + n) (sym (leading_same c.args.place c.args.row.now j))))
    (λ j. subst (λ (xs : List ℕ). slice_index c.release.new.ripes j ≡ max (slice_index xs j) (ripe_from cycle j row)) ripes (c.release.ensures.ripes j ∙ ap (λ (n : ℕ). max (slice_index c.deref_mut-2.result.now j) n) (sym (ripe_same c.args.place cycle c.args.row.now j)))))
