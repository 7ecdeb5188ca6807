use Rattle.std.proofs.Common.{◌≡◌, ◌∙◌, ◌-◌, ap, subst, take, arith, length, length-append, encode_utf8_all, IsCharBoundary}
use Rattle.std.proofs.lemmas.List.{take_at}
use Rattle.std.proofs.lemmas.Str.{IsCharBoundary-at_seam}
use Rattle.lam_lexer.proofs.Runs.{front_bytes}
use Rattle.lam_lexer.proofs.lexer.before.Goals as goal

pub overflow_sub-text : goal.overflow_sub-text
overflow_sub-text c =
    let e = front_bytes c.args.text.now c.args.rest.now c.requires.front c.utf8.text c.utf8.rest c.requires.parts in
    omega (arith, ap length e, length-append (encode_utf8_all c.requires.front) c.args.rest.now)

pub split_at-requires : goal.split_at-requires
split_at-requires c =
    let e = front_bytes c.args.text.now c.args.rest.now c.requires.front c.utf8.text c.utf8.rest c.requires.parts in
    let l : length (encode_utf8_all c.requires.front) ≡ length c.args.text.now - length c.args.rest.now = omega (arith, ap length e, length-append (encode_utf8_all c.requires.front) c.args.rest.now) in
    subst (IsCharBoundary c.args.text.now) l (IsCharBoundary-at_seam c.args.text.now (encode_utf8_all c.requires.front) c.args.rest.now e c.utf8.rest)

pub returns : goal.returns
returns c = λ front q.
    let e = front_bytes c.args.text.now c.args.rest.now front c.utf8.text c.utf8.rest q in
    let n = length c.args.text.now - length c.args.rest.now in
    let l : length (encode_utf8_all front) ≡ n = omega (arith, ap length e, length-append (encode_utf8_all front) c.args.rest.now) in
    c.split_at.ensures.front ∙ ap (take n) e ∙ take_at (encode_utf8_all front) c.args.rest.now n l
