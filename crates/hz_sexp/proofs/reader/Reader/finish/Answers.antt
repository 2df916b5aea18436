use Rattle.std.proofs.Common.{refl}
use Rattle.hz_base_model.specs.Forms.Forms.{OpenBracket}
use Rattle.hz_base_model.specs.Forms.FormFronts.{brackets}
use Rattle.hz_sexp.specs.State.{frame_of, frames_in}
use Rattle.hz_sexp.proofs.ReaderLemmas.{frames_in-push}
use Rattle.hz_sexp.proofs.reader.Reader.finish.Goals as goal

pub returns-in-Some-clause-err : goal.returns-in-Some-clause-err
returns-in-Some-clause-err c = let inner : OpenBracket = (frame_of c.in-Some.frame).opened in
    (refl, inner, brackets (frames_in c.pop.new.self.items), rw (c.in-Some.ensures.items, frames_in-push c.pop.new.self.items c.in-Some.frame) refl, refl)
