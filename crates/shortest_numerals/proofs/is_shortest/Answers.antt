use Rattle.std.proofs.Common.{◌≡◌, codes, rules}
use Rattle.shortest_numerals.proofs.Readings.{is_nil, is_minus_nil, is_signed}
use Rattle.shortest_numerals.proofs.is_shortest.Goals as goal

pub returns-then-eq : goal.returns-then-eq
returns-then-eq c = λ yes.
    let e : c.args.text.now ≡ codes "0.0" = search rules in
    is_nil c.args.x c.args.text.now c.requires e

pub returns-then-eq-2 : goal.returns-then-eq-2
returns-then-eq-2 c = λ yes.
    let e : c.args.text.now ≡ codes "-0.0" = search rules in
    is_minus_nil c.args.x c.args.text.now c.requires e

pub returns : goal.returns
returns c = λ yes. is_signed c.args.x c.args.text.now c.as_bytes-2.result.now c.as_bytes-2.ensures.value (c.is_shortest_after_sign.ensures yes)
