use Rattle.std.proofs.Common.{◌<◌, arith, chars, encode_utf8}
use Rattle.std.specs.Char.{len_utf8}
use Rattle.lam_lexer.specs.declared.fault.LexFault.TheVariants.{BadEscape, OpenText}
use Rattle.lam_lexer.specs.Text.{bad, open_end}
use Rattle.lam_lexer.specs.Reading.{size}
use Rattle.lam_lexer.proofs.TextRuns.{text_char, text_byte, text_closed, long_char, long_byte, bytes_fit}
use Rattle.lam_lexer.proofs.text.text_run.Goals as goal

pub returns-in-EndQuote-clause-exact : goal.returns-in-EndQuote-clause-exact
returns-in-EndQuote-clause-exact c = text_closed c.in-EndQuote.ensures.0 c.loop-behind.invariant.so_far

pub returns-then-len-n-gt-ROOM-clause-exact : goal.returns-then-len-n-gt-ROOM-clause-exact
returns-then-len-n-gt-ROOM-clause-exact c = long_char c.in-Char.c _ c.len_utf8-n.ensures.value (omega (arith, c.len.ensures, c.if-len-n-gt-ROOM.true)) c.in-Char.ensures.0 c.loop-behind.invariant.so_far

pub overflow_add-to-in-Char : goal.overflow_add-to-in-Char
overflow_add-to-in-Char c =
    let f = bytes_fit (chars c.loop-behind.rest.now) (encode_utf8 c.in-Char.c) (chars c.in-Char.behind.now) (len_utf8 c.in-Char.c) c.in-Char.ensures.0 in
    omega (arith, f.1, c.len_utf8-n.ensures.value, c.loop-behind.invariant.so_far.place, c.requires)

pub loop-behind-smaller-in-Char : goal.loop-behind-smaller-in-Char
loop-behind-smaller-in-Char c =
    let f = bytes_fit (chars c.loop-behind.rest.now) (encode_utf8 c.in-Char.c) (chars c.in-Char.behind.now) (len_utf8 c.in-Char.c) c.in-Char.ensures.0 in
    let h : size (chars c.in-Char.behind.now) < size (chars c.loop-behind.rest.now) = omega (arith, f.0, f.1) in
    h

pub loop-behind-preserved-in-Char : goal.loop-behind-preserved-in-Char
loop-behind-preserved-in-Char c = record {
  utf8 = c.in-Char.ensures.1;
  so_far = text_char c.in-Char.c _ c.len_utf8-n.ensures.value (omega (arith, c.len.ensures, c.if-len-n-gt-ROOM.false)) c.in_ok-push_char-in-Char.ensures c.in-Char.ensures.0 c.loop-behind.invariant.so_far;
}

pub returns-then-len-eq-ROOM-clause-exact : goal.returns-then-len-eq-ROOM-clause-exact
returns-then-len-eq-ROOM-clause-exact c = long_byte c.in-Byte.b c.in-Byte.n (omega (arith, c.len-in-Byte.ensures, c.if-len-eq-ROOM.true)) c.in-Byte.ensures.0 c.loop-behind.invariant.so_far

pub overflow_add-to-in-Byte : goal.overflow_add-to-in-Byte
overflow_add-to-in-Byte c =
    let f = bytes_fit (chars c.loop-behind.rest.now) _ (chars c.in-Byte.behind.now) c.in-Byte.n c.in-Byte.ensures.0 in
    omega (arith, f.1, c.loop-behind.invariant.so_far.place, c.requires)

pub loop-behind-smaller : goal.loop-behind-smaller
loop-behind-smaller c =
    let f = bytes_fit (chars c.loop-behind.rest.now) _ (chars c.in-Byte.behind.now) c.in-Byte.n c.in-Byte.ensures.0 in
    let h : size (chars c.in-Byte.behind.now) < size (chars c.loop-behind.rest.now) = omega (arith, f.0, f.1) in
    h

pub loop-behind-preserved : goal.loop-behind-preserved
loop-behind-preserved c = record {
  utf8 = c.in-Byte.ensures.1;
  so_far = text_byte c.in-Byte.b c.in-Byte.n (omega (arith, c.len-in-Byte.ensures, c.if-len-eq-ROOM.false, c.loop-behind.invariant.so_far.full)) c.in_ok-push-in-Byte.ensures.items c.in-Byte.ensures.0 c.loop-behind.invariant.so_far;
}

pub returns-in-BadEscape-clause-exact : goal.returns-in-BadEscape-clause-exact
returns-in-BadEscape-clause-exact c = c.loop-behind.invariant.so_far.faults (BadEscape c.loop-behind.to) (bad c.in-BadEscape.ensures)

pub returns-in-NoEnd-clause-exact : goal.returns-in-NoEnd-clause-exact
returns-in-NoEnd-clause-exact c = c.loop-behind.invariant.so_far.faults (OpenText c.args.quote) (open_end c.in-NoEnd.ensures)
