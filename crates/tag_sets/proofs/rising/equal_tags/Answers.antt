use Rattle.std.proofs.Common.{sym, ◌∙◌}
use Rattle.std.proofs.lemmas.Slice.Eq.{bytes_eq-Decides}
use Rattle.tag_sets.proofs.rising.equal_tags.Goals as goal

pub returns-then-tags-others : goal.returns-then-tags-others
returns-then-tags-others c = let d = bytes_eq-Decides _ _ in ((λ yes. d.0 (sym c.eq.ensures ∙ yes)), (λ same. c.eq.ensures ∙ d.1 same))
