use Rattle.std.proofs.Common.{refl, []}
use Rattle.labelled_files.specs.Seen.{shown}
use Rattle.labelled_files.proofs.TreeLemmas.{added}
use Rattle.labelled_files.proofs.files.put_dir.Goals as goal

pub returns : goal.returns
returns c = added shown c.args.dirs.now.entries c.insert.new.self.entries c.args.name c.args.name c.new.result [] refl c.new.ensures (λ q. c.in-Ok.ensures.updates.0 q)
