use Rattle.thread_core_calls.proofs.of_two.Goals as goal

pub returns-in-Byte : goal.returns-in-Byte
returns-in-Byte c = λ p k. rw c.in-Byte.is (c.byte.ensures p k)

pub returns-in-Cat : goal.returns-in-Cat
returns-in-Cat c = λ p k. rw c.in-Cat.is (c.cat.ensures p k)

pub returns-in-Copy : goal.returns-in-Copy
returns-in-Copy c = λ p k. rw c.in-Copy.is (c.copy_to.ensures p k)

pub returns-in-OpenFile : goal.returns-in-OpenFile
returns-in-OpenFile c = λ p k. rw c.in-OpenFile.is (c.open_file.ensures p k)

pub returns-in-OpenDir : goal.returns-in-OpenDir
returns-in-OpenDir c = λ p k. rw c.in-OpenDir.is (c.open_dir.ensures p k)

pub returns-in-Remove : goal.returns-in-Remove
returns-in-Remove c = λ p k. rw c.in-Remove.is (c.remove.ensures p k)

pub returns-in-Append : goal.returns-in-Append
returns-in-Append c = λ p k. rw c.in-Append.is (c.append.ensures p k)

pub returns-in-Cut : goal.returns-in-Cut
returns-in-Cut c = λ p k. rw c.in-Cut.is (c.cut.ensures p k)

pub returns-in-Send : goal.returns-in-Send
returns-in-Send c = λ p k. rw c.in-Send.is (c.send.ensures p k)

pub returns-in-SendCaps : goal.returns-in-SendCaps
returns-in-SendCaps c = λ p k. rw c.in-SendCaps.is (c.send_caps.ensures p k)
