use Rattle.thread_core_calls.proofs.of_one.Goals as goal

pub returns-in-Len : goal.returns-in-Len
returns-in-Len c = λ p k. rw c.in-Len.is (c.len.ensures p k)

pub returns-in-Size : goal.returns-in-Size
returns-in-Size c = λ p k. rw c.in-Size.is (c.size.ensures p k)

pub returns-in-Text : goal.returns-in-Text
returns-in-Text c = λ p k. rw c.in-Text.is (c.text.ensures p k)

pub returns-in-Number : goal.returns-in-Number
returns-in-Number c = λ p k. rw c.in-Number.is (c.number.ensures p k)

pub returns-in-Say : goal.returns-in-Say
returns-in-Say c = λ p k. rw c.in-Say.is (c.say.ensures p k)

pub returns-in-Length : goal.returns-in-Length
returns-in-Length c = λ p k. rw c.in-Length.is (c.length.ensures p k)

pub returns-in-MakePipe : goal.returns-in-MakePipe
returns-in-MakePipe c = λ p k. rw c.in-MakePipe.is (c.make_pipe.ensures p k)

pub returns-in-Receive : goal.returns-in-Receive
returns-in-Receive c = λ p k. rw c.in-Receive.is (c.receive.ensures p k)

pub returns-in-ReceiveCaps : goal.returns-in-ReceiveCaps
returns-in-ReceiveCaps c = λ p k. rw c.in-ReceiveCaps.is (c.receive_caps.ensures p k)

pub returns-in-Join : goal.returns-in-Join
returns-in-Join c = λ p k. rw c.in-Join.is (c.join.ensures p k)
