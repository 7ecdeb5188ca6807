use Rattle.thread_core_calls.proofs.of_three.Goals as goal

pub returns-in-Slice : goal.returns-in-Slice
returns-in-Slice c = λ p k. rw c.in-Slice.is (c.slice.ensures p k)

pub returns-in-MakeFile : goal.returns-in-MakeFile
returns-in-MakeFile c = λ p k. rw c.in-MakeFile.is (c.make_file.ensures p k)

pub returns-in-MakeDir : goal.returns-in-MakeDir
returns-in-MakeDir c = λ p k. rw c.in-MakeDir.is (c.make_dir.ensures p k)

pub returns-in-Read : goal.returns-in-Read
returns-in-Read c = λ p k. rw c.in-Read.is (c.read.ensures p k)
