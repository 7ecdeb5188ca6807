use Rattle.world_save_files.proofs.FloatLemmas.{float_laid_out}
use Rattle.world_save_files.proofs.numbers.is_fewest.Goals as goal

pub returns-then-is_written : goal.returns-then-is_written
returns-then-is_written c = λ fewest. float_laid_out c.args.number.now c.args.x c.requires (c.is_written.ensures c.if-is_written.true) (c.is_shortest.ensures fewest)
