use Rattle.flow_labels.specs.declared.two_lists.Form.TheVariants.{Caps as caps_form}
use Rattle.flow_labels.proofs.FormLemmas.{form_read}
use Rattle.flow_labels.proofs.SpelledLemmas.{lists_are_read}
use Rattle.capabilities.specs.CapsText.{CapsAreRead, caps_or}
use Rattle.capabilities.proofs.texts.caps_are_read.Goals as goal

caps_are_read : CapsAreRead
caps_are_read names text plus minus spells = λ i. caps_or (form_read caps_form text (plus, minus, spells) i) (lists_are_read caps_form names text plus minus spells i)

pub returns : goal.returns
returns c = caps_are_read
