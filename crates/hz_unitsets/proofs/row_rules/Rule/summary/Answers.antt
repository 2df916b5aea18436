use Rattle.std.proofs.Common.{sym, subst}
use Rattle.hz_unitsets.proofs.Cycles.{final_presence_alone}
use Rattle.hz_unitsets.proofs.Blocks.{Wants, presence_alone, presence_wants, final_presence_wants, summed_wanting, summed_forbidding}
use Rattle.hz_unitsets.proofs.row_rules.Rule.summary.Goals as goal

pub returns-in-Presence : goal.returns-in-Presence
returns-in-Presence c = summed_wanting c.args.self.now _ _ (subst Wants (sym c.in-Presence.is) presence_wants) c.wanting.ensures

pub returns-in-FinalPresence : goal.returns-in-FinalPresence
returns-in-FinalPresence c = summed_wanting c.args.self.now _ _ (subst Wants (sym c.in-FinalPresence.is) final_presence_wants) c.wanting-in-FinalPresence.ensures

pub returns-in_default : goal.returns-in_default
returns-in_default c =
    summed_forbidding c.args.self.now _ _ c.requires (λ e. c.in_default.not-Presence (presence_alone _ e)) (λ e. c.in_default.not-FinalPresence (final_presence_alone _ e)) c.forbidding.ensures
