use Rattle.std.proofs.Common.{ℕ, ◌<◌, All}
use Rattle.hz_timed.specs.Shape.{place_of}
use Rattle.hz_timed.specs.Writes.{notes_in, IsIndexed}
use Rattle.hz_timed.proofs.EffectLemmas.{MappedSoFar}
use Rattle.hz_timed.proofs.timing.note_all.Given as goal

abbrev pub invariant-loop-kept : goal.invariant-loop-kept
invariant-loop-kept l =
    IsIndexed l.written
    × MappedSoFar (λ k. record { place = l.fn.slot.place; cycle = l.fn.slot.cycle; at = place_of k.what; word = k.word }) l.fn.stores (notes_in l.fn.written) (notes_in l.written) l.kept-index
