use Rattle.hz_tabfile.proofs.Sayable.{compiled_is_sayable}
use Rattle.hz_tabfile.proofs.writing.laws.compiled_descriptions_are_sayable.Goals as goal

pub returns : goal.returns
returns c = compiled_is_sayable
