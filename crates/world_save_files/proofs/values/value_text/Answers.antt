use Rattle.std.proofs.Common.{◌≡◌, true, rules, sym, ap, subst}
use Rattle.std.specs.List.{All}
use Rattle.std.proofs.lemmas.Str.{is_utf8-from_IsUtf8}
use Rattle.json.specs.Lex.{tokens}
use Rattle.world_save_terms.specs.Compact.{IsLaidOut}
use Rattle.world_save_files.proofs.values.value_text.Goals as goal

pub returns-then-branch : goal.returns-then-branch
returns-then-branch c =
    let text = c.in_ok-text.text.items in
    let seen : All IsLaidOut (tokens c.as_slice.result.now) = c.in_ok-bytes_are_laid_out.ensures c.if-branch.true in
    record {
      plain = c.in_ok-text.ensures.text;
      compact = c.in_ok-text.ensures.compact;
      utf8 = is_utf8-from_IsUtf8 text c.in_ok-text.ensures.utf8;
      ordered = c.in_ok-text.ensures.order;
      laid_out = subst (λ t. All IsLaidOut (tokens t)) c.as_slice.ensures.value seen;
      reads_back = c.in_ok-text.ensures.reads_back;
    }
