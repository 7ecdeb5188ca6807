use Rattle.world_save_files.proofs.CompactLengths.{lengths_are_one}
use Rattle.world_save_files.proofs.DocumentLengths.{saved_lengths}
use Rattle.world_save_files.proofs.lengths.saved_lengths_are_one.Goals as goal

pub returns-clause-values : goal.returns-clause-values
returns-clause-values c = lengths_are_one

pub returns-clause-documents : goal.returns-clause-documents
returns-clause-documents c = saved_lengths
