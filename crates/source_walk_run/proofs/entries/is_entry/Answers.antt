use Rattle.source_walk_follow.proofs.Lists.{item_there, none_there}
use Rattle.source_walk_run.proofs.Programs.{no_entry, entry_by_sorts, entry_by_number}
use Rattle.source_walk_run.proofs.entries.is_entry.Goals as goal

pub returns-in-None : goal.returns-in-None
returns-in-None c =
    no_entry c.args.program.now c.args.function c.args.args.now (none_there c.args.program.now.functions.items c.deref.result.now c.args.function c.deref.ensures.value c.in-None.ensures.lookup.3)

pub returns-then-gives_number : goal.returns-then-gives_number
returns-then-gives_number c =
    entry_by_sorts c.args.program.now c.args.function c.args.args.now c.in-Some.declared.now c.as_slice.result.now c.gives_number.result c.are_of.result
    (item_there c.args.program.now.functions.items c.deref.result.now c.args.function c.in-Some.declared.now c.deref.ensures.value c.in-Some.ensures.lookup.3.0 c.in-Some.ensures.lookup.1) c.gives_number.ensures c.as_slice.ensures.value c.are_of.ensures
    c.if-gives_number.true

pub returns-else-gives_number : goal.returns-else-gives_number
returns-else-gives_number c =
    entry_by_number c.args.program.now c.args.function c.args.args.now c.in-Some.declared.now c.gives_number.result
    (item_there c.args.program.now.functions.items c.deref.result.now c.args.function c.in-Some.declared.now c.deref.ensures.value c.in-Some.ensures.lookup.3.0 c.in-Some.ensures.lookup.1) c.gives_number.ensures c.if-gives_number.false
