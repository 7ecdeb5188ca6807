use Rattle.std.proofs.Common.{length}
use Rattle.lam_main_words.proofs.word_forms.+agreed.Given as goal

abbrev pub decreases-agreed : goal.decreases-agreed
decreases-agreed l = length l.kinds.now
