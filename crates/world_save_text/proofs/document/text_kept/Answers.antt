use Rattle.world_save_text.proofs.Written.{kept_or}
use Rattle.world_save_text.proofs.document.text_kept.Goals as goal

pub returns : goal.returns
returns c = λ text e. kept_or (λ v. v.items) c.args.writer.kept _ c.unwrap_or.result text c.unwrap_or.ensures e
