use Rattle.std.proofs.Common.{sym, subst}
use Rattle.std.specs.Prelude.{OnOk}
use Rattle.json.specs.Print.{escape_byte}
use Rattle.world_save_text.specs.Writing.{Wrote}
use Rattle.world_save_text.specs.Pieces.{bytes_text, head_text}
use Rattle.world_save_text.proofs.tree.write_head.Goals as goal

pub returns-in-File : goal.returns-in-File
returns-in-File c =
    subst (λ k. OnOk c.write_bytes.result (Wrote c.args.writer.now c.write_bytes.new.writer (head_text c.args.files.now c.args.name.now k))) (sym c.in-File.is)
    (subst (λ bytes. OnOk c.write_bytes.result (Wrote c.args.writer.now c.write_bytes.new.writer (bytes_text bytes))) c.contents.ensures c.write_bytes.ensures)

pub returns-in-Dir : goal.returns-in-Dir
unfolding escape_byte
returns-in-Dir c = subst (λ k. OnOk c.raw.result (Wrote c.args.writer.now c.raw.new.writer (head_text c.args.files.now c.args.name.now k))) (sym c.in-Dir.is) c.raw.ensures
