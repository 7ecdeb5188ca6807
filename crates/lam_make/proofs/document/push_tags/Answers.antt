use Rattle.std.proofs.Common.{string_bytes}
use Rattle.lam_make.specs.Made.{tag_word}
use Rattle.lam_make.proofs.MadeLemmas.{none_listed, one_more}
use Rattle.lam_make.proofs.document.push_tags.Goals as goal

pub loop-k-init : goal.loop-k-init
loop-k-init c = none_listed tag_word (string_bytes c.args.text.now)

pub loop-k-preserved : goal.loop-k-preserved
loop-k-preserved c = one_more tag_word c.loop-k.k (string_bytes c.args.text.now) (string_bytes c.loop-k.text) (string_bytes c.push_comma.new.text) (string_bytes c.push_tag.new.text) c.loop-k.invariant c.in_ok-push_comma.ensures c.in_ok-push_tag.ensures
