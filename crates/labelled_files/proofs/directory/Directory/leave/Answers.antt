use Rattle.std.proofs.Common.{◌∙◌, ap, is_some}
use Rattle.labelled_files.specs.Entries.{entries_of}
use Rattle.labelled_files.proofs.EntryLemmas.{found, removed}
use Rattle.labelled_files.proofs.directory.Directory.leave.Goals as goal

pub returns-clause-there : goal.returns-clause-there
returns-clause-there c = c.is_some.ensures ∙ ap is_some (c.shift_remove.ensures.value ∙ found c.args.self.now.entries.entries c.args.entry.now)

pub returns-clause-rest : goal.returns-clause-rest
returns-clause-rest c = ap entries_of c.shift_remove.ensures.entries ∙ removed c.args.entry.now c.args.self.now.entries.entries c.args.self.now.unique
