use Rattle.std.proofs.Common.{◌∙◌, sym, ap, slice_get, arith}
use Rattle.lam_parser_tokens.specs.Classes.{fits_at}
use Rattle.lam_parser_tokens.proofs.Rules.{mark_wrong, mark_deep}
use Rattle.lam_parser_tokens.proofs.tokens.take.Goals as goal

pub returns-in_default-clause-takes : goal.returns-in_default-clause-takes
returns-in_default-clause-takes c =
    rw c.wanted_of.ensures (λ rest. mark_wrong (slice_get c.args.tokens.now) c.args.depth c.args.at c.args.mark rest (ap (fits_at c.args.mark) (sym c.in_default.ensures.is)))

pub returns-then-not-is_mark-clause-takes : goal.returns-then-not-is_mark-clause-takes
returns-then-not-is_mark-clause-takes c =
    rw c.wanted_of-then-not-is_mark.ensures (λ rest. mark_wrong (slice_get c.args.tokens.now) c.args.depth c.args.at c.args.mark rest (ap (fits_at c.args.mark) (sym c.in-Some.ensures.is) ∙ sym c.is_mark.ensures ∙ c.if-not-is_mark.true))

pub returns-then-depth-gt-DEPTH_LIMIT-clause-takes : goal.returns-then-depth-gt-DEPTH_LIMIT-clause-takes
returns-then-depth-gt-DEPTH_LIMIT-clause-takes c = λ rest. mark_deep (slice_get c.args.tokens.now) c.args.depth c.args.at c.args.mark _ rest (sym c.in-Some.ensures.is) (sym c.is_mark.ensures ∙ c.if-not-is_mark.false) (omega arith)
