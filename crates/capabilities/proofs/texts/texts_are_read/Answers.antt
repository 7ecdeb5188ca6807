use Rattle.flow_labels.specs.declared.two_lists.Form.TheVariants.{Caps as caps_form}
use Rattle.flow_labels.proofs.SpelledLemmas.{sets_are_read}
use Rattle.capabilities.specs.CapsText.{TextsAreRead, caps_or}
use Rattle.capabilities.proofs.texts.texts_are_read.Goals as goal

texts_are_read : TextsAreRead
texts_are_read names c all has_plus has_minus = let both = sets_are_read caps_form names c.plus c.minus all has_plus has_minus in (λ i. caps_or (both.0 i) (both.1 i))

pub returns : goal.returns
returns c = texts_are_read
