use Rattle.std.proofs.Common.{◌∙◌}
use Rattle.labelled_files.proofs.EntryLemmas.{found}
use Rattle.labelled_files.proofs.directory.Directory.target.Goals as goal

pub returns : goal.returns
returns c = c.get.ensures.value ∙ found c.args.self.now.entries.entries c.args.entry.now
