use Rattle.hz_rtl.proofs.NameLemmas.{name_more}
use Rattle.hz_rtl.proofs.reading.attributes.Attributes.add.Goals as goal

pub invariant_of-result : goal.invariant_of-result
invariant_of-result c = record { same = λ name. rw (c.in_ok-push.ensures.items, ← c.in_ok-copy.ensures) (name_more c.args.self.names c.insert.new.self c.args.self.given.items c.in_ok-copy.field-0 c.args.value c.in_ok-insert.ensures.updates c.args.self.same name) }
