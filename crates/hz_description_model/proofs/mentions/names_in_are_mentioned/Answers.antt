use Rattle.hz_description_model.proofs.Reservations.MentionLaws.{listed_from_mentions, mentions_from_listed}
use Rattle.hz_description_model.proofs.mentions.names_in_are_mentioned.Goals as goal

pub returns : goal.returns
returns c = λ e name. (listed_from_mentions e name, mentions_from_listed e name)
