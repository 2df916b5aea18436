use Rattle.hz_io.proofs.mem_files.MemFilesFiles.open.Goals as goal

pub returns-in-Some-clause-steady : goal.returns-in-Some-clause-steady
returns-in-Some-clause-steady c = λ s. rw (← c.self.view_is) at (c.count_call.ensures.steady s)

pub returns-in-None-clause-steady : goal.returns-in-None-clause-steady
returns-in-None-clause-steady c = λ s. rw (← c.self.view_is) at (c.count_call.ensures.steady s)
