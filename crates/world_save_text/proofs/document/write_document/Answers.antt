use Rattle.std.proofs.Common.{map}
use Rattle.world_save_rows.specs.Seen.{row_seen}
use Rattle.world_save_text.specs.Texts.{text_with}
use Rattle.world_save_text.proofs.Written.{kept_text}
use Rattle.world_save_text.proofs.document.write_document.Goals as goal

pub returns : goal.returns
returns c = λ pipes threads.
    let text = text_with c.args.contents.now (map row_seen c.args.rows.now) pipes threads in
    c.text_kept.ensures text (kept_text _ _ text c.writing-writer.ensures.text (c.in_ok-write_by_rows.ensures pipes threads))
