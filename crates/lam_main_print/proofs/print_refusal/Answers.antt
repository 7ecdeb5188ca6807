use Rattle.lam_main_print.proofs.print_refusal.Goals as goal

pub returns-in-NotUtf8-clause-printed : goal.returns-in-NotUtf8-clause-printed
returns-in-NotUtf8-clause-printed g c = rw c.in-NotUtf8.is (rw c.as_slice.ensures at c.print_line.ensures.printed)

pub returns-in-CodeTooLong-clause-printed : goal.returns-in-CodeTooLong-clause-printed
returns-in-CodeTooLong-clause-printed g c = rw c.in-CodeTooLong.is c.print_numbered-in-CodeTooLong.ensures.printed

pub returns-in-Absent-clause-printed : goal.returns-in-Absent-clause-printed
returns-in-Absent-clause-printed g c = rw c.in-Absent.is (rw c.as_bytes-in-Absent.ensures.value at c.print_named.ensures.printed)
