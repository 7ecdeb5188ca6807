use Rattle.lam_main_print.proofs.print_break.Goals as goal

pub returns-in-NotJson-clause-printed : goal.returns-in-NotJson-clause-printed
returns-in-NotJson-clause-printed g c = rw c.in-NotJson.is (rw c.as_slice.ensures at c.print_line.ensures.printed)

pub returns-in-NoMember-clause-printed : goal.returns-in-NoMember-clause-printed
returns-in-NoMember-clause-printed g c = rw c.in-NoMember.is (rw c.as_bytes.ensures.value at c.print_named.ensures.printed)

pub returns-in-BadMember-clause-printed : goal.returns-in-BadMember-clause-printed
returns-in-BadMember-clause-printed g c = rw c.in-BadMember.is (rw c.as_bytes-in-BadMember.ensures.value at c.print_named-in-BadMember.ensures.printed)

pub returns-in-NoTag-clause-printed : goal.returns-in-NoTag-clause-printed
returns-in-NoTag-clause-printed g c = rw c.in-NoTag.is (rw c.as_bytes-in-NoTag.ensures.value at c.print_named-in-NoTag.ensures.printed)

pub returns-in-BadPath-clause-printed : goal.returns-in-BadPath-clause-printed
returns-in-BadPath-clause-printed g c = rw c.in-BadPath.is c.print_numbered.ensures.printed

pub returns-in-PathTwice-clause-printed : goal.returns-in-PathTwice-clause-printed
returns-in-PathTwice-clause-printed g c = rw c.in-PathTwice.is c.print_numbered-in-PathTwice.ensures.printed
