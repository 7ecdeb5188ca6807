use Rattle.std.proofs.Common.{◌∙◌}
use Rattle.json.specs.Print.{escape_byte}
use Rattle.world_save_text.proofs.Writings.{mapped, then}
use Rattle.world_save_text.proofs.Written.{as_quoted}
use Rattle.world_save_text.proofs.tags.write_tag.Goals as goal

pub returns : goal.returns
unfolding escape_byte
returns c =
    mapped c.raw-3.result c.raw-3.ensures (λ w.
    then c.in_ok-comma.ensures (then c.in_ok-raw.ensures (then (as_quoted (c.as_bytes.ensures.value ∙ c.kind_word.ensures) c.in_ok-quoted.ensures)
    (then c.in_ok-raw-2.ensures (then (as_quoted c.as_bytes-2.ensures.value c.in_ok-quoted-2.ensures) w)))))
