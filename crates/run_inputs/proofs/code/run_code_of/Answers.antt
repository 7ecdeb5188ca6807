use Rattle.run_inputs.proofs.code.run_code_of.Goals as goal

pub returns-clause-run : goal.returns-clause-run
returns-clause-run c = c.run_code-code.ensures.run c.args.bytes.now c.in_ok-checked.ensures.fine

pub returns-clause-refused : goal.returns-clause-refused
returns-clause-refused c = c.run_code-code.ensures.refused c.args.bytes.now c.in_ok-checked.ensures.fine
