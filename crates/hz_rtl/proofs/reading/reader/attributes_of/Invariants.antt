use Rattle.std.proofs.Common.{◌≡◌, [], drop}
use Rattle.hz_sexp.specs.Shape.{trees}
use Rattle.hz_block_model.specs.Texts.BlockForms as model
use Rattle.hz_rtl.proofs.reading.reader.attributes_of.Given as goal

-- the attributes so far, with those of what is left, are all of them
abbrev pub invariant-loop-form : goal.invariant-loop-form
invariant-loop-form l = model.attributes_after l.attributes.given.items (trees (drop l.form-index l.forms)) ≡ model.attributes_after [] (trees l.forms)
