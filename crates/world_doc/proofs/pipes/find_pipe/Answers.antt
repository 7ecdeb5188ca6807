use Rattle.std.proofs.Common.{sym, ◌∙◌}
use Rattle.world_doc.proofs.CalledLemmas.{found}
use Rattle.world_doc.proofs.pipes.find_pipe.Goals as goal

pub returns : goal.returns
returns c = c.get.ensures.value ∙ sym (found c.args.name.now c.args.called.now.entries)
