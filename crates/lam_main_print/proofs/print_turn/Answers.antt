use Rattle.lam_main_print.proofs.print_turn.Goals as goal

pub returns-clause-printed : goal.returns-clause-printed
returns-clause-printed g c = rw (c.as_slice.ensures, c.as_bytes-turn.ensures.value, c.format.ensures.text, c.as_slice-2.ensures, c.as_bytes-thread.ensures.value, c.format-2.ensures.text) at c.print_line.ensures.printed
