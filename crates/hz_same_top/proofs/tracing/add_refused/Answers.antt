use Rattle.std.proofs.Common.{ap₂}
use Rattle.hz_same_model.specs.Texts.{refused_line}
use Rattle.hz_same_top.proofs.LineLaws.{text_same}
use Rattle.hz_same_top.proofs.tracing.add_refused.Goals as goal

pub returns : goal.returns
returns c =
    text_same c.add_all.result c.add_all.new.text.items c.args.text.now.items (refused_line c.as_bytes.result.now c.as_bytes-2.result.now) (refused_line c.args.refuses.now c.args.accepts.now) c.add_all.ensures (ap₂ refused_line c.as_bytes.ensures.value c.as_bytes-2.ensures.value)
