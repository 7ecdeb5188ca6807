use Rattle.std.proofs.Common.{◌≡◌, ◌<◌, ◌^◌, ◌∷◌, sym, ap, subst, arith, length, chars, rules}
use Rattle.std.proofs.lemmas.Str.{encodes-chars}
use Rattle.lam_lexer.specs.declared.start.Start.{Start}
use Rattle.lam_lexer.specs.Lexed.{Wrong}
use Rattle.lam_lexer.specs.Reading.{size, OrNoMemory}
use Rattle.lam_lexer.proofs.Steps.{as_begun, shrinks}
use Rattle.lam_lexer.proofs.Whole.{lexed_first, lexed_step, lexed_last, step_wrong}
use Rattle.lam_lexer.proofs.lexer.lex_text.Goals as goal

pub loop-c-init : goal.loop-c-init
loop-c-init c =
    let e : size (chars c.args.text.now) ≡ length c.args.text.now = ap length (encodes-chars c.args.text.now c.utf8.text) in
    let h : length c.args.text.now < 2 ^ 64 = search rules in
    record {
      utf8 = c.utf8.text;
      so_far = lexed_first (chars c.args.text.now) c.new-tokens.result.items c.new-tokens.ensures.items (omega (arith, e, h));
    }

pub loop-c-smaller : goal.loop-c-smaller
loop-c-smaller c =
    let l : size (chars c.in-Ok.taken.rest.now) < size (c.in-Some.c ∷ chars c.in-Some.after.now) = shrinks c.in-Ok.taken c.in-Ok.ensures in
    let h : size (chars c.in-Ok.taken.rest.now) < size (chars c.loop-c.rest.now) = omega (arith, l, ap size c.in-Some.ensures.cases) in
    h

pub loop-c-preserved : goal.loop-c-preserved
loop-c-preserved c =
    let r = as_begun (sym c.start_of.ensures.is) c.in-Ok.ensures in
    record {
      utf8 = r.utf8;
      so_far = lexed_step c.in-Some.c c.in-Ok.taken c.in-Some.ensures.cases c.in_ok-keep-in-Ok.ensures r c.loop-c.invariant.so_far;
    }

pub returns-in-Err : goal.returns-in-Err
returns-in-Err c =
    let h = subst (λ (s : Start). OrNoMemory (Wrong c.loop-c.at s c.in-Some.c (chars c.in-Some.after.now)) c.in-Err.fault) c.start_of.ensures.is c.in-Err.ensures in
    step_wrong c.in-Some.c c.in-Some.ensures.cases c.loop-c.invariant.so_far c.in-Err.fault h

pub returns : goal.returns
returns c = lexed_last c.in_default.ensures.cases c.in_ok-push.ensures.items c.loop-c.invariant.so_far
