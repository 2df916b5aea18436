use Rattle.std.proofs.Common.{Contains, sym, subst}
use Rattle.hz_minim.specs.Arrows.{arrow_from}
use Rattle.hz_minim.specs.Lists.{list_at, lists_of}
use Rattle.hz_minim.specs.Moves.{IsSeparate}
use Rattle.hz_minim.proofs.ApartLaws.{buckets_are_separate}
use Rattle.hz_minim.proofs.splitting.turn.Goals as goal

pub fill-requires-clause-columns : goal.fill-requires-clause-columns
fill-requires-clause-columns c = c.requires.arrows.column

pub split_all-requires-clause-states : goal.split_all-requires-clause-states
split_all-requires-clause-states c = λ place state h.
    let there = subst (λ lists. Contains (list_at (lists_of lists) place) state) c.deref.ensures.value h in
    let to = c.in_ok-fill.ensures.buckets.only place state there in
    c.requires.arrows.source to.0 (arrow_from state place) to.3

pub returns-clause-apart : goal.returns-clause-apart
returns-clause-apart c = λ plain is are keeps.
    c.in_ok-split_all.ensures.apart plain.rows
    (λ place. subst (λ lists. IsSeparate plain.rows (list_at (lists_of lists) place)) (sym c.deref.ensures.value)
    (buckets_are_separate plain is (lists_of c.args.arrows.now) are c.args.partition.now.blocks.items keeps c.args.block (lists_of c.fill.new.buckets.items) c.in_ok-fill.ensures.buckets place))
    keeps
