use Rattle.json.specs.Print.{escape_byte}
use Rattle.world_save_text.proofs.Writings.{mapped, then}
use Rattle.world_save_text.proofs.Written.{as_quoted}
use Rattle.world_save_text.proofs.rows.write_row.Goals as goal

pub returns : goal.returns
unfolding escape_byte
returns c =
    mapped c.raw-4.result c.raw-4.ensures (λ w.
    then c.in_ok-comma.ensures (then c.in_ok-raw.ensures (then (as_quoted c.as_bytes.ensures.value c.in_ok-quoted.ensures)
    (then c.in_ok-raw-2.ensures (then c.in_ok-number.ensures (then c.in_ok-raw-3.ensures (then (as_quoted c.as_bytes-2.ensures.value c.in_ok-quoted-2.ensures) w)))))))
