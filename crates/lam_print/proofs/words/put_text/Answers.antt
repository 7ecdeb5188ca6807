use Rattle.std.proofs.Common.{◌∙◌, ◌++◌, ◌∷◌, [], ℕ, List, ap, append_assoc, string_bytes}
use Rattle.lam_print.specs.Pieces.{spell_text}
use Rattle.lam_print.proofs.Steps.{on_ok}
use Rattle.lam_print.proofs.Writing.{text_more, text_last}
use Rattle.lam_print.proofs.words.put_text.Goals as goal

pub loop-i-init : goal.loop-i-init
loop-i-init c = record { same = ap (λ (xs : List ℕ). xs ++ spell_text c.args.bs.now) c.in_ok-put_char.ensures ∙ append_assoc (string_bytes c.args.out.now) (34 ∷ []) (spell_text c.args.bs.now) }

pub loop-i-preserved : goal.loop-i-preserved
loop-i-preserved c = text_more _ _ _ _ _ c.loop-i.invariant c.loop-i-test.true c.in_ok-put_byte.ensures

pub returns : goal.returns
returns c = on_ok c.put_char-2.result (λ e. e ∙ text_last _ _ _ _ c.loop-i.invariant c.loop-i-test.false) c.put_char-2.ensures
