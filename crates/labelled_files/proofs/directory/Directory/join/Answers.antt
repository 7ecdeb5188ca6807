use Rattle.labelled_files.proofs.EntryLemmas.{put_last}
use Rattle.labelled_files.proofs.directory.Directory.join.Goals as goal

pub returns : goal.returns
returns c = put_last c.args.self.now.entries c.insert.new.self.entries c.args.entry c.args.target c.in-Ok.ensures.entries c.requires.new
