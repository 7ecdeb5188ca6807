use Rattle.examples_codes.proofs.FirstThread.{entry}
use Rattle.examples_codes.proofs.entries.has_entry.Goals as goal

pub returns-then-is_empty : goal.returns-then-is_empty
returns-then-is_empty c =
    λ t. entry c.args.program.now c.deref.result.now c.in-Some.declared.now c.as_slice.result.now c.is_empty.result c.gives_number.result c.deref.ensures.value c.in-Some.ensures.value c.as_slice.ensures.value c.is_empty.ensures c.if-is_empty.true c.gives_number.ensures t
