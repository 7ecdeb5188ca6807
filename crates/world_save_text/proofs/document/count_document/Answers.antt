use Rattle.std.proofs.Common.{◌∙◌, ap, map}
use Rattle.world_save_terms.specs.Rows.{row_of}
use Rattle.world_save_items.specs.Measures.{capped}
use Rattle.world_save_rows.specs.Seen.{home_seen}
use Rattle.world_save_text.specs.Texts.{text_with}
use Rattle.world_save_text.proofs.Lengths.{any_order}
use Rattle.world_save_text.proofs.Written.{counted_from_none}
use Rattle.world_save_text.proofs.document.count_document.Goals as goal

pub returns : goal.returns
returns c = λ rows pipes threads same.
    let homes = map (row_of c.args.contents.now.names.now) (map home_seen c.args.homes.now) in
    counted_from_none _ _ (text_with c.args.contents.now homes pipes threads) c.counting-writer.ensures.count (c.in_ok-write_by_homes.ensures pipes threads)
    ∙ ap capped (any_order c.args.contents.now homes rows pipes threads same)
