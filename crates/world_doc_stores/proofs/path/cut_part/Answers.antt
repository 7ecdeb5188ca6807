use Rattle.world_doc_stores.proofs.PathLemmas.{path_cut, path_uncut}
use Rattle.world_doc_stores.proofs.path.cut_part.Goals as goal

pub returns-then-end-path : goal.returns-then-end-path
returns-then-end-path c = path_cut c.args.path.now c.part_len-end.result c.part_len-end.ensures c.if-end-path.true

pub returns-else-end-path : goal.returns-else-end-path
returns-else-end-path c = path_uncut c.args.path.now c.part_len-end.result c.part_len-end.ensures c.if-end-path.false
