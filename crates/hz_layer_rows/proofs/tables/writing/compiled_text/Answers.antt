use Rattle.hz_tabfile.proofs.Sayable.{compiled_is_sayable}
use Rattle.hz_layer_rows.proofs.tables.writing.compiled_text.Goals as goal

pub written-requires : goal.written-requires
written-requires c = compiled_is_sayable c.in-Ok.compiled c.args.checked.now c.in-Ok.ensures.compiled c.in-Ok.ensures.options
