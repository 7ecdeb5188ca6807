-- An order of labels, for maps by label. It means nothing for the flow of information.
use Rattle.std.specs.Prelude.{refl}
use Rattle.std.specs.Coded.{Coded, code_by, coded×}
use Rattle.std.specs.Ordering.{nat_cmp, ordering_then}
use Rattle.std.specs.declared.cmp.Ordering.{Ordering}
use Rattle.std.specs.Cmp.Lexicographic.{slice_cmp}
use Rattle.flow_labels.specs.Tags.{Tags, tags_of, coded_tags}
use Rattle.flow_labels.specs.declared.Label.{Label}

-- the tags of the two sets in increasing order, compared like words: `{1,3}` before `{2}`
abbrev pub tags_cmp : Tags → Tags → Ordering
tags_cmp s t = slice_cmp nat_cmp (tags_of s) (tags_of t)

-- secrecy before integrity
abbrev pub label_cmp : Label → Label → Ordering
label_cmp x y = ordering_then (tags_cmp x.s y.s) (tags_cmp x.i y.i)

-- how labels are stored, for what holds them
abbrev pub coded_label : Coded Label
coded_label = code_by (Tags × Tags) (coded× coded_tags coded_tags) (λ l. (l.s, l.i)) (λ p. record { s = p.0; i = p.1 }) (λ _. refl)
