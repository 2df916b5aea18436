use Rattle.hz_io.proofs.mem_files.MemFilesFiles.read.Goals as goal

pub returns-clause-steady : goal.returns-clause-steady
returns-clause-steady c = λ s. rw c.skip.ensures (c.count_call.ensures.steady s)
