use Rattle.hz_description_model.proofs.Check.OnceLaws.{each_once, all_counted, all_count}
use Rattle.hz_description_model.proofs.checks.each_counts_once.Goals as goal

pub returns-clause-once : goal.returns-clause-once
returns-clause-once c = each_once

pub returns-clause-all : goal.returns-clause-all
returns-clause-all c = λ d known order formed unfolded r. (all_counted d known order formed unfolded r, all_count d known order formed unfolded r)
