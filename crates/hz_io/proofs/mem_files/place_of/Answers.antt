use Rattle.std.proofs.Common.{◌≡◌, bytes_eq, false, sym, ap, ◌∙◌}
use Rattle.hz_io.proofs.DriveLemmas.{search_passed}
use Rattle.hz_io.proofs.mem_files.place_of.Goals as goal

pub loop-place-preserved : goal.loop-place-preserved
loop-place-preserved c =
    let other : bytes_eq c.args.name.now c.index-files-place.result.0 ≡ false =
    ap (bytes_eq c.args.name.now) (sym c.bytes.ensures.value) ∙ sym c.eq.ensures ∙ c.if-eq.false in
    search_passed c.args.files.now c.args.name.now c.loop-place.place c.index-files-place.result c.loop-place-test.true c.index-files-place.is c.loop-place.invariant other
