use Rattle.std.proofs.Common.{◌∙◌, ◌++◌, List, ℕ, sym, ap, length, chars, encode_utf8}
use Rattle.std.proofs.lemmas.List.{nil_from_length}
use Rattle.std.proofs.lemmas.Str.{chars-nil, chars_past_char}
use Rattle.lam_lexer.proofs.rest.split_first.Goals as goal

pub returns-in-Some-clause-cases : goal.returns-in-Some-clause-cases
returns-in-Some-clause-cases c =
    chars_past_char c.args.text.now c.as_str.result.now c.in-Some.c c.utf8.text (sym c.chars-chars.ensures.rest ∙ c.in-Some.ensures.steps.0 ∙ ap (λ (x : List ℕ). encode_utf8 c.in-Some.c ++ x) (sym c.as_str.ensures))

pub returns-in-None-clause-cases : goal.returns-in-None-clause-cases
returns-in-None-clause-cases c =
    ap chars (nil_from_length c.args.text.now (sym (ap length c.chars-chars.ensures.rest) ∙ c.in-None.ensures.steps.0.0)) ∙ chars-nil
