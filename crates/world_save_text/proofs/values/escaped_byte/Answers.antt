use Rattle.std.proofs.Common.{◌∙◌, ◌<◌, ◌≤◌, [], ◌∷◌, ap, arith}
use Rattle.json.specs.Print.{escape_byte, escape_letter}
use Rattle.world_save_text.proofs.Writings.{rewritten, short, long, plain}
use Rattle.world_save_text.proofs.values.escaped_byte.Goals as goal

pub returns-then-short-gt0 : goal.returns-then-short-gt0
returns-then-short-gt0 c =
    let e = c.letter-short.ensures in
    let some : 0 < escape_letter c.args.b = omega (arith, c.if-short-gt0.true) in
    rewritten c.raw.result c.args.writer.now c.raw.new.writer _ (escape_byte c.args.b) (ap (λ l. 92 ∷ l ∷ []) e ∙ short c.args.b some) c.raw.ensures

pub returns-then-b-lt32 : goal.returns-then-b-lt32
returns-then-b-lt32 c =
    let e = c.letter-short.ensures in
    let none : escape_letter c.args.b ≤ 0 = omega (arith, c.if-short-gt0.false) in
    rewritten c.raw-then-b-lt32.result c.args.writer.now c.raw-then-b-lt32.new.writer _ (escape_byte c.args.b) ((λ i. 92 ∷ 117 ∷ 48 ∷ 48 ∷ c.digit.ensures i ∷ c.digit-then-b-lt32.ensures i ∷ []) ∙ long c.args.b none c.if-b-lt32.true) c.raw-then-b-lt32.ensures

pub returns : goal.returns
returns c =
    let e = c.letter-short.ensures in
    let none : escape_letter c.args.b ≤ 0 = omega (arith, c.if-short-gt0.false) in
    rewritten c.raw-2.result c.args.writer.now c.raw-2.new.writer _ (escape_byte c.args.b) (plain c.args.b none c.if-b-lt32.false) c.raw-2.ensures
