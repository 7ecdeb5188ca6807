use Rattle.examples_codes.proofs.FirstThread.{first_started}
use Rattle.examples_codes.proofs.entries.first_thread.Goals as goal

pub returns : goal.returns
returns c = first_started c.args.code.now c.code.result.now c.new-args.result c.none-caps.result c.start.result c.code.ensures.code c.new-args.ensures c.start.ensures.started
