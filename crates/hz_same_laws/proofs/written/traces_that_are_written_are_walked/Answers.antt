use Rattle.hz_same_laws.proofs.WrittenLaws.{answered, tables_named}
use Rattle.hz_same_laws.proofs.written.traces_that_are_written_are_walked.Goals as goal

pub returns : goal.returns
returns c = λ file other_file first second text one other said short tables other_tables name other_name trace reads reads' s s' a a' walk walk'.
    answered first second (tables_named tables first reads) (tables_named other_tables second reads') file other_file text one other said short tables other_tables name other_name trace reads reads' s s' a a' walk walk'
