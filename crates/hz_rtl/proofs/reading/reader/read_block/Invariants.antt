use Rattle.std.proofs.Common.{◌≡◌, [], drop, map}
use Rattle.hz_sexp.specs.Shape.{trees}
use Rattle.hz_block_model.specs.Texts.BlockForms as model
use Rattle.hz_rtl.specs.Shape.{instruction}
use Rattle.hz_rtl.proofs.reading.reader.read_block.Given as goal

-- the instructions so far, with those of what is left, are all of them
abbrev pub invariant-loop-form : goal.invariant-loop-form
invariant-loop-form l = model.instructions_after (map instruction l.insns.items) (trees (drop l.form-index l.forms)) ≡ model.instructions_after [] (trees l.forms)
