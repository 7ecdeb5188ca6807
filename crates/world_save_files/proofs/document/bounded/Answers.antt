use Rattle.std.proofs.Common.{map, ap, ◌∙◌}
use Rattle.world_save_rows.specs.Seen.{home_seen, row_seen}
use Rattle.world_save_text.specs.Texts.{text_with}
use Rattle.world_save_files.proofs.Bounding.{bounded_by, long_by}
use Rattle.world_save_files.proofs.document.bounded.Goals as goal

pub returns-then-bytes-gt-DOCUMENT_LIMIT-clause-err : goal.returns-then-bytes-gt-DOCUMENT_LIMIT-clause-err
returns-then-bytes-gt-DOCUMENT_LIMIT-clause-err c = long_by c.args.contents.now (map home_seen c.args.homes.now) c.in_ok-bytes.bytes c.in_ok-bytes.ensures c.if-bytes-gt-DOCUMENT_LIMIT.true

pub returns-clause-ok : goal.returns-clause-ok
returns-clause-ok c =
    bounded_by c.args.contents.now (map home_seen c.args.homes.now) c.in_ok-bytes.bytes c.in_ok-bytes.ensures (map row_seen c.in_ok-rows.rows.items) c.in_ok-text.text.items c.in_ok-rows.ensures.same c.in_ok-rows.ensures.ordered
    (λ pipes threads. c.in_ok-text.ensures pipes threads ∙ ap (λ rs. text_with c.args.contents.now (map row_seen rs) pipes threads) c.as_slice.ensures.value) c.if-bytes-gt-DOCUMENT_LIMIT.false
