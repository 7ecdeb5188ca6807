use Rattle.std.proofs.Common.{subst}
use Rattle.std.specs.Prelude.{OnOk}
use Rattle.world_save_terms.specs.Document.{row_data}
use Rattle.world_save_text.specs.Writing.{Wrote}
use Rattle.world_save_text.specs.Pieces.{item_text}
use Rattle.world_save_text.proofs.rows.write_home.Goals as goal

pub returns : goal.returns
returns c = subst (λ r. OnOk c.write_row.result (Wrote c.args.writer.now c.write_row.new.writer (item_text c.args.later (row_data r)))) c.in_ok-row.ensures c.write_row.ensures
