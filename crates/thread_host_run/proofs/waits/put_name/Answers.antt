use Rattle.std.proofs.Common.{refl}
use Rattle.thread_host_run.proofs.NumberLemmas.{same_names, put_extends}
use Rattle.thread_host_run.proofs.waits.put_name.Goals as goal

pub returns-in-Ok-clause-more : goal.returns-in-Ok-clause-more
returns-in-Ok-clause-more c = put_extends c.args.names.now.keys c.insert_name.new.names.keys c.args.name c.in-Ok.ensures.ok

pub returns-in-Ok-clause-awaits : goal.returns-in-Ok-clause-awaits
returns-in-Ok-clause-awaits c = (c.args.name, c.in-Ok.ensures.stands, refl)

pub returns-in-Err-clause-more : goal.returns-in-Err-clause-more
returns-in-Err-clause-more c = same_names c.args.names.now.keys c.insert_name.new.names.keys c.in-Err.ensures.err
